use Rattle.std.proofs.Common.{MatchOption, subst}
use Rattle.toml.specs.View.{view}
use Rattle.nextest_config_profiles.specs.Merged.{HasNoValue, IsMergedOver}
use Rattle.nextest_config_profiles.specs.Reach.{words_of}
use Rattle.nextest_config_profiles.proofs.profile.EffectiveProfile.value.Goals as goal

pub returns : goal.returns
returns c =
    let path = words_of c.args.path.now in
    subst (λ layers. MatchOption c.in_ok-value.value (HasNoValue layers path) (λ value. IsMergedOver layers path (view value))) c.lent.ensures c.in_ok-value.ensures
