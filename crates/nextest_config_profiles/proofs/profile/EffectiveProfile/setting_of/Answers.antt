use Rattle.std.proofs.Common.{◌∷◌, [], inr, refl, subst}
use Rattle.nextest_config_profiles.specs.Profile.{layers_in}
use Rattle.nextest_config_profiles.specs.Reach.{AreReached, words_of}
use Rattle.nextest_config_profiles.proofs.Given.{given_here}
use Rattle.nextest_config_profiles.proofs.profile.EffectiveProfile.setting_of.Goals as goal

pub returns-in-Some : goal.returns-in-Some
returns-in-Some g c =
    let layers = layers_in c.args.self.now in
    given_here g.T.ProfileSetting.seen g.T.ProfileSetting.reading layers (words_of c.args.keys.now) c.args.name.now [] c.in-Some.given (rw c.in-Some.is at (c.in_ok-given.ensures layers
    (rw c.as_slice.ensures.value (subst (λ all. AreReached all (c.args.name.now ∷ []) c.in_ok-layers.layers.items) c.lent.ensures c.in_ok-layers.ensures))))

pub returns : goal.returns
returns g c = inr (
  (
    rw c.in-None.is at (c.in_ok-given.ensures (layers_in c.args.self.now)
        (rw c.as_slice.ensures.value (subst (λ all. AreReached all (c.args.name.now ∷ []) c.in_ok-layers.layers.items) c.lent.ensures c.in_ok-layers.ensures))),
    tt,
  ),
  refl,
)
