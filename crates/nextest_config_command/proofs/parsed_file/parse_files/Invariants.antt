use Rattle.std.proofs.Common.{◌≡◌, map, take}
use Rattle.nextest_config_command.specs.Files.{file_of}
use Rattle.nextest_config_command.proofs.parsed_file.parse_files.Given as goal

-- the files so far are parsed
abbrev pub invariant-loop-file : goal.invariant-loop-file
invariant-loop-file l = l.parsed.items ≡ map file_of (take l.file-index l.fn.files)
