use Rattle.std.proofs.Common.{◌≡◌, map, take}
use Rattle.nextest_config_command.specs.FileFindings.{found_of}
use Rattle.nextest_config_command.specs.Lint.{paths_in}
use Rattle.nextest_config_command.proofs.lint.paths.Given as goal

-- the paths of the files so far in which something is found
abbrev pub invariant-loop-file : goal.invariant-loop-file
invariant-loop-file l = map (λ path. path.now) l.paths.items ≡ paths_in (map found_of (take l.file-index l.fn.found))
