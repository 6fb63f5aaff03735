use Rattle.std.proofs.Common.{take}
use Rattle.std.specs.List.{AllZip}
use Rattle.nextest_config_command.specs.Layers.{IsLent}
use Rattle.nextest_config_command.proofs.layers.layers.Given as goal

-- the files so far
abbrev pub invariant-loop-file : goal.invariant-loop-file
invariant-loop-file l = AllZip IsLent (take l.file-index l.fn.files) l.layers.items
