use Rattle.std.proofs.lemmas.Result.{IfErr-weaker, IfOk-weaker}
use Rattle.nextest_config.specs.NextestVersion.{source_under, configuration_of}
use Rattle.nextest_config.proofs.Readings.{refusal_of_list, refused_reading}
use Rattle.nextest_config.proofs.Selection.{configured}
use Rattle.nextest_config.proofs.Standing.{stands_for_all}
use Rattle.nextest_config.proofs.nextest_version.version_only.VersionOnlyConfig.from_list_with.Goals as goal

pub returns : goal.returns
returns c =
    let source_of = source_under c.args.edition in
    record {
      read = IfOk-weaker c.read_halves.result _ _ (λ config joined. configured _ _ (stands_for_all source_of configuration_of c.args.sources.now (configuration_of config) config.experimental.known_in_order joined)) c.read_halves.ensures.joined;
      refused = IfErr-weaker c.read_halves.result _ _ (λ refusal first. refused_reading _ refusal (refusal_of_list source_of configuration_of c.args.sources.now refusal first)) c.read_halves.ensures.refused;
    }
