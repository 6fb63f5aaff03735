use Rattle.std.proofs.Common.{map, take}
use Rattle.std.specs.List.{AllZip}
use Rattle.nextest_config_command.specs.FileFindings.{found_of, IsFoundAfter, judging_of}
use Rattle.nextest_config_command.specs.Found.{files_of}
use Rattle.nextest_config_command.proofs.file_findings.Judged.in_repository.Given as goal

-- what is found in the files so far
abbrev pub invariant-loop-file : goal.invariant-loop-file
invariant-loop-file l = AllZip (IsFoundAfter (judging_of l.fn.self.rules) (files_of l.fn.self.files.now)) (take l.file-index l.fn.self.files.now.repository.items) (map found_of l.found.items)
