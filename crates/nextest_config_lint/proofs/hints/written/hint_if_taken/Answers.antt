use Rattle.nextest_config.specs.declared.nextest_version.edition.Edition.TheVariants.{ArrayAllowed}
use Rattle.toml.specs.View.{view}
use Rattle.nextest_config_lint.specs.Shapes.{shape_check}
use Rattle.nextest_config_lint.proofs.RightValues.{passes_if}
use Rattle.nextest_config_lint.proofs.hints.written.hint_if_taken.Goals as goal

pub returns : goal.returns
returns c = λ passes. cc (
  (passes_if (shape_check ArrayAllowed c.args.shape) (view c.args.value.now) c.check_shape.result c.in_ok-is_accepted.field-0
      c.check_shape.ensures.meant c.check_shape.ensures.refused c.in_ok-is_accepted.ensures).1 passes,
  c.if-branch.false,
)
