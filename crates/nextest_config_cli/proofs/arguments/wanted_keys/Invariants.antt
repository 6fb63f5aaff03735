use Rattle.std.proofs.Common.{take}
use Rattle.std.specs.List.{AllZip}
use Rattle.nextest_config_cli.specs.Arguments.{IsKey, texts}
use Rattle.nextest_config_cli.proofs.arguments.wanted_keys.Given as goal

-- those of the words so far
abbrev pub invariant-loop-word : goal.invariant-loop-word
invariant-loop-word l = AllZip IsKey (texts (take l.word-index l.arguments.keys.now)) l.keys.items
