use Rattle.std.proofs.Common.{◌++◌, codes, flat_map, take}
use Rattle.std.specs.Fmt.{HasWritten, IsPlainFormatter}
use Rattle.nextest_config_output.specs.Profile.Source.{file_text}
use Rattle.nextest_config_output.proofs.profile.source.write_files.Given as goal

-- the files so far are written
abbrev pub invariant-loop-part : goal.invariant-loop-part
invariant-loop-part g l =
    IsPlainFormatter l.fn.f → HasWritten g.W.Write.write_str_gives l.fn.f
    (flat_map (λ part. codes ", " ++ file_text part.source.file) (take l.part-index l.sources)) l.f
