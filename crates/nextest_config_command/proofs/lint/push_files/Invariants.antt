use Rattle.std.proofs.Common.{◌≡◌, ◌++◌, flat_map, map, string_bytes, take}
use Rattle.nextest_config_command.specs.FileFindings.{found_of}
use Rattle.nextest_config_command.specs.Lint.{file_text}
use Rattle.nextest_config_command.proofs.lint.push_files.Given as goal

-- the findings of the files so far are reported
abbrev pub invariant-loop-file : goal.invariant-loop-file
invariant-loop-file l = string_bytes l.text ≡ string_bytes l.fn.text ++ flat_map (file_text l.fn.format) (map found_of (take l.file-index l.fn.found))
