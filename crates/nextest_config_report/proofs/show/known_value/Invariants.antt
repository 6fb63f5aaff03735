use Rattle.std.proofs.Common.{◌≡◌, map}
use Rattle.serde_json.specs.View.{view}
use Rattle.nextest_config_report.specs.Show.{feature_data}
use Rattle.nextest_config_report.proofs.show.known_value.Given as goal

abbrev pub invariant-loop-feature : goal.invariant-loop-feature
invariant-loop-feature l = map view l.words.items ≡ map (λ feature. feature_data feature.now) l.yielded
