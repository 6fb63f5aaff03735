use Rattle.std.proofs.Common.{◌≡◌, ◌∷◌, ◌∙◌, ap, subst}
use Rattle.nextest_config_profiles.specs.Defaults.{default_values}
use Rattle.nextest_config_profiles.specs.Layer.{all_layers, profiles_at}
use Rattle.nextest_config_profiles.specs.Profile.{IsProfileFault}
use Rattle.nextest_config_profiles.specs.Reach.{layers_of, lent_files}
use Rattle.nextest_config_profiles.proofs.Placed.{has_place}
use Rattle.nextest_config_profiles.proofs.profile.EffectiveProfile.of.Goals as goal

pub returns-clause-in_a_file : goal.returns-clause-in_a_file
returns-clause-in_a_file c =
    let files = c.args.layers.now in
    let layers : layers_of c.lent_layers.result ≡ all_layers files =
    c.lent_layers.ensures ∙ ap (λ defaults. profiles_at defaults ∷ lent_files c.as_slice.result.now) c.in_ok-defaults.ensures
    ∙ ap (λ files. profiles_at default_values ∷ files) (ap lent_files c.as_slice.ensures.value ∙ c.in_ok-profiles.ensures) in
    has_place files c.args.name.now c.in-Err.fault (subst (λ layers. IsProfileFault layers c.args.name.now c.in-Err.fault) layers c.in-Err.ensures.fault) c.in-Err.ensures.place
