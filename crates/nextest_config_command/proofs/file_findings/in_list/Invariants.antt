use Rattle.std.proofs.Common.{List, map, take}
use Rattle.nextest_config_lint.specs.Defined.{IsDefinedBy, ListFile}
use Rattle.nextest_config_command.specs.FileFindings.{found_of, IsFoundIn, judging_of}
use Rattle.nextest_config_command.specs.Positions.{AllZipFrom}
use Rattle.nextest_config_command.proofs.file_findings.in_list.Given as goal

-- what is found in the files so far
abbrev pub invariant-loop-position : goal.invariant-loop-position
invariant-loop-position l = (list : List ListFile) → IsDefinedBy list l.fn.defined
    → AllZipFrom (IsFoundIn (judging_of l.fn.rules) list) 0 (take l.position l.fn.files) (map found_of l.found.items)
