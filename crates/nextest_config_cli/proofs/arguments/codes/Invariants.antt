use Rattle.std.proofs.Common.{◌≡◌, map, take}
use Rattle.nextest_config_lint.specs.Code.{code_word}
use Rattle.nextest_config_cli.specs.Arguments.{texts}
use Rattle.nextest_config_cli.proofs.arguments.codes.Given as goal

-- those of the words so far
abbrev pub invariant-loop-word : goal.invariant-loop-word
invariant-loop-word l = map code_word l.codes.items ≡ texts (take l.word-index l.arguments.allowed.now)
