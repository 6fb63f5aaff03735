use Rattle.nextest_config.specs.declared.nextest_version.edition.Edition.TheVariants.{ArrayAllowed, TableOnly}
use Rattle.nextest_config.specs.declared.nextest_version.experimental.ConfigExperimental.TheVariants.{SetupScripts, WrapperScripts}
use Rattle.nextest_config_lint.specs.Defined.{EnablesFeature, HasRefusedFeatures}
use Rattle.nextest_config_lint.proofs.ListFeatures.{some_or_others}
use Rattle.nextest_config_lint.proofs.list_features.ListFeatures.or.Goals as goal

pub returns : goal.returns
returns c files others first then = record {
  setup = some_or_others (EnablesFeature SetupScripts) files others _ _ first.setup then.setup;
  wrapper = some_or_others (EnablesFeature WrapperScripts) files others _ _ first.wrapper then.wrapper;
  refused = some_or_others (HasRefusedFeatures ArrayAllowed) files others _ _ first.refused then.refused;
  no_table = some_or_others (HasRefusedFeatures TableOnly) files others _ _ first.no_table then.no_table;
}
