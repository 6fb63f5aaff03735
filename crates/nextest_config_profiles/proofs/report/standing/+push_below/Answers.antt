use Rattle.std.proofs.Common.{◌-◌, arith, refl}
use Rattle.nextest_config_profiles.specs.Profile.{layers_in}
use Rattle.nextest_config_profiles.specs.Reach.{words_of}
use Rattle.nextest_config_profiles.specs.Report.Standing.{hidden_below, hidden_in}
use Rattle.nextest_config_profiles.proofs.Layered.{layer_more}
use Rattle.nextest_config_profiles.proofs.report.standing.+push_below.Goals as goal

pub returns : goal.returns
returns n c =
    let layers = layers_in c.args.effective.now in
    let keys = words_of c.args.keys.now in
    layer_more (hidden_below layers c.args.profile.now keys) (hidden_in layers c.args.profile.now keys) (λ n. refl) c.args.layers (c.args.layers - 1) (omega (arith, c.if-layers-eq0.false)) _ _ _ (rw c.reach-reached.ensures at c.in_ok-push_reached.ensures) c.in_ok-push_below.ensures
