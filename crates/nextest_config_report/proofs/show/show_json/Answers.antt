use Rattle.nextest_config.specs.NextestVersion.{configuration_of}
use Rattle.nextest_config_report.specs.Names.{texts_of}
use Rattle.nextest_config_report.proofs.Values.{line_shown}
use Rattle.nextest_config_report.proofs.show.show_json.Goals as goal

pub returns : goal.returns
returns c =
    line_shown (configuration_of c.args.config.now) (texts_of c.args.profiles.now) _ _ _ c.in_ok-value.ensures c.in_ok-text.ensures.text c.in_ok-push_str.ensures.bytes
