use Rattle.std.proofs.Common.{take}
use Rattle.nextest_config_command.specs.FileFindings.{AreListed}
use Rattle.nextest_config_command.proofs.parsed_file.list_files.Given as goal

-- the files so far are listed
abbrev pub invariant-loop-file : goal.invariant-loop-file
invariant-loop-file l = AreListed (take l.file-index l.fn.files) l.list.items
