use Rattle.std.proofs.Common.{map, take}
use Rattle.std.specs.List.{AllZip}
use Rattle.nextest_config_command.specs.Found.{IsOutcome, outcome_of}
use Rattle.nextest_config_command.specs.Request.{wanted_of}
use Rattle.nextest_config_command.proofs.found.Search.find_all.Given as goal

-- the files so far are looked for
abbrev pub invariant-loop-file : goal.invariant-loop-file
invariant-loop-file g l = AllZip (IsOutcome (g.F.Files.holds l.fn.self.files.now) l.fn.request.task) (map wanted_of (take l.file-index l.fn.request.repository.items)) (map outcome_of l.found.items)
