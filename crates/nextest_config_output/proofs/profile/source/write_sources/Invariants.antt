use Rattle.std.proofs.Common.{◌++◌, codes, flat_map, take}
use Rattle.std.specs.Fmt.{HasWritten, IsPlainFormatter}
use Rattle.nextest_config_output.specs.Profile.Source.{source_text}
use Rattle.nextest_config_output.proofs.profile.source.write_sources.Given as goal

-- the sources so far are written
abbrev pub invariant-loop-part : goal.invariant-loop-part
invariant-loop-part g l =
    IsPlainFormatter l.fn.f → HasWritten g.W.Write.write_str_gives l.fn.f
    (flat_map (λ part. codes ", " ++ source_text l.name part.source) (take l.part-index l.sources)) l.f
