use Rattle.std.proofs.Common.{◌≡◌, map, string_bytes}
use Rattle.std.specs.Fmt.{HasWrittenStyled, IsFlush}
use denote.Text.{Utf8}
use denote.Shadow.{shadow}
use Rattle.toml_spans.specs.QuotedText.{quoted_text}
use Rattle.nextest_config_values.specs.Read.{comma_list}
use Rattle.nextest_config_values.proofs.Joined.{separator_after}
use Rattle.nextest_config_values.proofs.read.text.QuotedTextsDisplay.fmt.Given as goal

-- the texts so far are written, and the separator is what stands before the next one
abbrev pub invariant-loop-text : goal.invariant-loop-text
invariant-loop-text g l =
    shadow (Utf8 l.separator)
    × (l.separator ≡ separator_after l.yielded)
    × (IsFlush l.fn.f → HasWrittenStyled g.W.Write.write_str_gives l.fn.f (comma_list (map (λ text. quoted_text (string_bytes text.now)) l.yielded)) l.f)
