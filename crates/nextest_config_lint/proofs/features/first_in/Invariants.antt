use Rattle.toml.specs.View.{array_view}
use Rattle.nextest_config_lint.proofs.FirstNames.{NoneBefore}
use Rattle.nextest_config_lint.proofs.features.first_in.Given as goal

abbrev pub invariant-loop-index : goal.invariant-loop-index
invariant-loop-index l = NoneBefore (array_view l.items) l.name l.index
