use Rattle.std.proofs.Common.{◌≡◌, map, rules}
use Rattle.std.proofs.lemmas.Map.Iter.{iter_end}
use Rattle.std.specs.Map.Iter.{deref}
use Rattle.nextest_config_report.specs.Show.{feature_data}
use Rattle.nextest_config_report.proofs.Values.{array_view}
use Rattle.nextest_config_report.proofs.show.known_value.Goals as goal

pub returns : goal.returns
returns c =
    let all : map deref c.loop-feature.yielded ≡ c.args.known.now.keys = search (rules, iter_end) in
    array_view feature_data deref c.loop-feature.yielded c.args.known.now.keys c.loop-feature.words c.loop-feature.invariant all
