use Rattle.std.proofs.Common.{take}
use Rattle.std.specs.List.{AllZip}
use Rattle.nextest_config_cli.specs.Arguments.{IsTool, texts}
use Rattle.nextest_config_cli.proofs.arguments.tools.Given as goal

-- those of the words so far
abbrev pub invariant-loop-word : goal.invariant-loop-word
invariant-loop-word l = AllZip IsTool (texts (take l.word-index l.arguments.tools.now)) l.tools.items
