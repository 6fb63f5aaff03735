use Rattle.std.proofs.Common.{◌∙◌}
use Rattle.nextest_config_lint.proofs.explain.key.KeyExplanation.of.Goals as goal

pub returns : goal.returns
returns c = c.explained.ensures ∙ c.in_ok-field.ensures
