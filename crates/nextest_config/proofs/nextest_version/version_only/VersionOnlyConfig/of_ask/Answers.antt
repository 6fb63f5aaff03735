use Rattle.nextest_config.specs.NextestVersion.{configuration_of, source_ask}
use Rattle.nextest_config.proofs.Standing.{stands_for_ask}
use Rattle.nextest_config.proofs.nextest_version.version_only.VersionOnlyConfig.of_ask.Goals as goal

pub returns : goal.returns
returns c = stands_for_ask (source_ask c.args.source.now c.args.asked) (configuration_of c.new-config.result) _ c.new-config.ensures
    (record { roles = c.in_ok-accumulate.ensures.joined; experimental = c.in_ok-accumulate-2.ensures })
