use Rattle.std.proofs.Common.{◌-◌, arith, refl}
use Rattle.nextest_config_profiles.specs.Profile.{layers_in}
use Rattle.nextest_config_profiles.specs.Report.Elements.{elements_below, elements_in}
use Rattle.nextest_config_profiles.proofs.Layered.{layer_more}
use Rattle.nextest_config_profiles.proofs.report.elements.+push_below.Goals as goal

pub returns : goal.returns
returns n c =
    let layers = layers_in c.args.effective.now in
    layer_more (elements_below layers c.args.profile.now) (elements_in layers c.args.profile.now) (λ n. refl) c.args.layers (c.args.layers - 1) (omega (arith, c.if-layers-eq0.false)) _ _ _ (rw (c.overrides_in-items.ensures, c.of_profile.ensures) at c.in_ok-push_items.ensures) c.in_ok-push_below.ensures
