use Rattle.std.proofs.Common.{◌≡◌, map}
use Rattle.serde_json.specs.View.{view}
use Rattle.nextest_config.specs.NextestVersion.{told_by}
use Rattle.nextest_config_report.specs.Show.{unknown_data}
use Rattle.nextest_config_report.proofs.show.unknown_value.Given as goal

abbrev pub invariant-loop-source : goal.invariant-loop-source
invariant-loop-source l = map view l.entries.items ≡ map (λ entry. unknown_data (told_by entry)) l.yielded
