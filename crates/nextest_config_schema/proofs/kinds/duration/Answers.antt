use Rattle.std.proofs.Common.{◌≡◌, ◌∙◌, ap, refl}
use Rattle.nextest_config_schema.specs.Patterns.{duration_pattern}
use Rattle.nextest_config_schema.specs.Values.{matching}
use Rattle.nextest_config_schema.specs.declared.patterns.TheConstants.{DURATION}
use Rattle.nextest_config_schema.proofs.kinds.duration.Goals as goal

same_pattern : DURATION.now ≡ duration_pattern
unfolding lib.Utf8.encode
same_pattern = refl

pub returns : goal.returns
returns c = c.in_ok-schema.ensures ∙ ap matching same_pattern
