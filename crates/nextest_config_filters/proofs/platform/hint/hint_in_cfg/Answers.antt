use Rattle.std.proofs.Common.{◌∙◌, inr, refl, subst}
use Rattle.std.specs.Str.{chars}
use Rattle.nextest_config_filters.specs.Platform.Outcome.{IsOutcome}
use Rattle.nextest_config_filters.specs.Platform.Walk.{passes}
use Rattle.nextest_config_filters.proofs.platform.hint.hint_in_cfg.Goals as goal

pub returns-else-branch : goal.returns-else-branch
returns-else-branch c = inr (
  subst (λ text. ¬ IsOutcome (chars text) passes) (c.as_str.ensures.value ∙ c.in_ok-hint.ensures)
      (rw c.if-branch.false at c.in_ok-passes.ensures),
  refl,
)
