use Rattle.std.proofs.Common.{◌∙◌, ap}
use Rattle.nextest_config_profiles.specs.Reach.{words_of}
use Rattle.nextest_config_profiles.proofs.profile.EffectiveProfile.chain_alone.Goals as goal

pub returns-clause-names : goal.returns-clause-names
returns-clause-names c =
    c.in_ok-profiles.ensures.names ∙ ap words_of c.as_slice.ensures.value ∙ c.in_ok-names.ensures ∙ c.chain.ensures
