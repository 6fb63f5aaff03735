use Rattle.std.proofs.Common.{◌≡◌, ◌++◌, flat_map}
use Rattle.std.specs.Char.{encode_utf8}
use Rattle.std.specs.Char.Escape.{escape_unicode}
use Rattle.std.specs.Char.Iter.{escape_rest}
use Rattle.std.specs.Fmt.{HasWrittenStyled, IsFlush}
use Rattle.toml_spans.proofs.quoted_text.write_by_code.Given as goal

-- the characters so far are written, and the others come
abbrev pub invariant-loop-mark : goal.invariant-loop-mark
invariant-loop-mark g l =
    (IsFlush l.fn.f → HasWrittenStyled g.W.Write.write_str_gives l.fn.f (flat_map encode_utf8 l.yielded) l.f)
    × (escape_unicode l.fn.c ≡ l.yielded ++ escape_rest l.mark-iterator)
