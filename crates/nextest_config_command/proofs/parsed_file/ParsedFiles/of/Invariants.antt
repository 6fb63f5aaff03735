use Rattle.std.proofs.Common.{◌≡◌, map, take}
use Rattle.nextest_config_command.specs.Files.{file_of}
use Rattle.nextest_config_command.specs.Found.{files_of, list_of, outcome_of}
use Rattle.nextest_config_command.proofs.parsed_file.ParsedFiles.of.Given as goal

-- what was found so far is parsed
abbrev pub invariant-loop-outcome : goal.invariant-loop-outcome
invariant-loop-outcome l = files_of l.parsed ≡ list_of (map file_of l.fn.tools) (map outcome_of (take l.outcome-index l.fn.found))
