use Rattle.std.proofs.Common.{◌≡◌, map}
use Rattle.serde_json.specs.View.{view}
use Rattle.nextest_config.specs.NextestVersion.{place_of}
use Rattle.nextest_config_report.specs.Show.{place_data}
use Rattle.nextest_config_report.proofs.show.arrays_value.Given as goal

abbrev pub invariant-loop-source : goal.invariant-loop-source
invariant-loop-source l = map view l.sources.items ≡ map (λ source. place_data (place_of source.now)) l.yielded
