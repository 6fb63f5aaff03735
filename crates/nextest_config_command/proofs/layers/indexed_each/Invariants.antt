use Rattle.std.proofs.Common.{take}
use Rattle.std.specs.List.{AllZip}
use Rattle.nextest_config_command.specs.Layers.{IsIndexed}
use Rattle.nextest_config_command.proofs.layers.indexed_each.Given as goal

-- the files so far
abbrev pub invariant-loop-file : goal.invariant-loop-file
invariant-loop-file l = AllZip IsIndexed (take l.file-index l.fn.files) l.indexed.items
