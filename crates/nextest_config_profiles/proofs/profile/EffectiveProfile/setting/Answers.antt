use Rattle.std.proofs.Common.{◌∙◌, ap, subst}
use Rattle.nextest_config_profiles.specs.Effective.{IsEffective}
use Rattle.nextest_config_profiles.specs.Profile.{layers_in, names_of}
use Rattle.nextest_config_profiles.specs.Reach.{words_of}
use Rattle.nextest_config_profiles.proofs.profile.EffectiveProfile.setting.Goals as goal

pub returns : goal.returns
returns g c =
    let layers = layers_in c.args.self.now in
    subst (λ names. IsEffective g.T.ProfileSetting.seen g.T.ProfileSetting.reading layers (words_of c.args.keys.now) names c.in_ok-given.given)
    (ap names_of c.as_slice.ensures.value ∙ c.in_ok-chain.ensures.names)
    (c.in_ok-given.ensures layers (rw c.as_slice.ensures.value c.in_ok-chain.ensures.looked_up))
