use Rattle.std.proofs.Common.{◌≡◌, ◌∷◌, ◌∙◌, ap, inl, inr, refl, subst}
use Rattle.toml.specs.View.{view}
use Rattle.nextest_config_profiles.specs.Merged.{HasNoValue, IsMergedOver}
use Rattle.nextest_config_profiles.specs.Profile.{layers_in}
use Rattle.nextest_config_profiles.specs.Reach.{words_of}
use Rattle.nextest_config_profiles.proofs.report.given.judged_fault.Goals as goal

pub returns-in-Some : goal.returns-in-Some
returns-in-Some c =
    let path : words_of c.as_slice.result.now ≡ c.args.name.now ∷ words_of c.args.setting.keys.now = ap words_of c.as_slice.ensures.value ∙ c.in_ok-path.ensures in
    let merged = subst (λ path. IsMergedOver (layers_in c.args.effective.now) path (view c.in-Some.value)) path (rw c.in-Some.is at c.in_ok-value.ensures) in
    inr (view c.in-Some.value, merged, c.in_ok-judged-in-Some.ensures)

pub returns : goal.returns
returns c =
    let path : words_of c.as_slice.result.now ≡ c.args.name.now ∷ words_of c.args.setting.keys.now = ap words_of c.as_slice.ensures.value ∙ c.in_ok-path.ensures in
    inl (subst (HasNoValue (layers_in c.args.effective.now)) path (rw c.in-None.is at c.in_ok-value.ensures), (refl, refl))
