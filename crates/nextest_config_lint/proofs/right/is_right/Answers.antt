use Rattle.std.proofs.Common.{inl, inr, refl}
use Rattle.nextest_config.specs.declared.nextest_version.edition.Edition.TheVariants.{TableOnly}
use Rattle.nextest_config_values.specs.Read.{missing, unknown_key}
use Rattle.nextest_config_lint.proofs.RightValues.{are_right_if}
use Rattle.nextest_config_lint.specs.Rules.{rules_check}
use Rattle.nextest_config_lint.specs.Shapes.{shape_check}
use Rattle.toml.specs.View.{view}
use Rattle.nextest_config_lint.proofs.right.is_right.Goals as goal

pub returns-in-Value : goal.returns-in-Value
returns-in-Value c = rw c.in-Value.is (are_right_if (shape_check TableOnly c.in-Value.shape) (view c.in-Value.value.now) c.check_shape.result c.is_accepted.result
    c.check_shape.ensures.meant c.check_shape.ensures.refused c.is_accepted.ensures)

pub returns-in-AbsentKey : goal.returns-in-AbsentKey
returns-in-AbsentKey c = elim c.in-AbsentKey.is [
  | inl (name, is) ↦ rw is ((λ never. cc never), λ none. absurd (none (missing _) refl))
  | inr (name, expected, known, is) ↦ rw is ((λ never. cc never), λ none. absurd (none (unknown_key _ _) refl))
]

pub returns-in-Between : goal.returns-in-Between
returns-in-Between c = rw c.in-Between.is (are_right_if (rules_check c.in-Between.rules) (view c.in-Between.value.now) c.check_rules.result c.is_accepted-in-Between.result
    c.check_rules.ensures.meant c.check_rules.ensures.refused c.is_accepted-in-Between.ensures)
