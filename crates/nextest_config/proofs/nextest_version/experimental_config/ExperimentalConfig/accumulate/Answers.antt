use Rattle.nextest_config.specs.NextestVersion.{feature_setting_of, place_of, experimental_of, features_from}
use Rattle.nextest_config.proofs.SourceOrders.{features_in_order}
use Rattle.nextest_config.proofs.Orders.{seen_joined}
use Rattle.nextest_config.proofs.nextest_version.experimental_config.ExperimentalConfig.accumulate.Goals as goal

pub returns : goal.returns
returns c =
    let named = features_from (place_of c.args.source.now) (feature_setting_of c.args.named) in
    record {
      same = seen_joined (experimental_of c.args.self.now) named (record { known = c.append.new.self.keys; unknown = _; arrays = _ }) c.in_ok-append.ensures.inserts_all.0 c.in_ok-push.ensures c.in_ok-push_array.ensures;
      in_order = features_in_order c.append.new.self.keys c.append.ensures.ordered;
    }

pub invariant_of-self-2 : goal.invariant_of-self-2
invariant_of-self-2 c = record { known_in_order = features_in_order c.append.new.self.keys c.append.ensures.ordered }
