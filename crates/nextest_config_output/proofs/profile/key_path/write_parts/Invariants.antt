use Rattle.std.proofs.Common.{◌++◌, codes, flat_map, take}
use Rattle.std.specs.Fmt.{HasWritten, IsPlainFormatter}
use Rattle.nextest_config_values.specs.Literal.Key.{key_text}
use Rattle.nextest_config_output.proofs.profile.key_path.write_parts.Given as goal

-- the parts so far are written
abbrev pub invariant-loop-part : goal.invariant-loop-part
invariant-loop-part g l =
    IsPlainFormatter l.fn.f → HasWritten g.W.Write.write_str_gives l.fn.f
    (flat_map (λ part. codes "." ++ key_text part.now) (take l.part-index l.parts)) l.f
