use Rattle.std.proofs.Common.{◌≡◌, ◌<◌, ◌∷◌, ◌∙◌, ℕ, List, Option, None, Some, [], ap, arith, inl, refl, length, map, subst}
use Rattle.std.proofs.lemmas.List.{length-append, length-map}
use Rattle.toml.specs.Data.{Data}
use Rattle.nextest_config_profiles.specs.Chain.{of_inherits}
use Rattle.nextest_config_profiles.specs.Merged.{Layers}
use Rattle.nextest_config_profiles.specs.LastValue.{IsLastValue}
use Rattle.nextest_config_profiles.specs.Layer.{profiles_in}
use Rattle.nextest_config_profiles.specs.Reach.{lent_files}
use Rattle.nextest_config_profiles.specs.Said.{Said}
use Rattle.nextest_config_profiles.specs.Selection.{IsLast}
use Rattle.nextest_config_profiles.specs.declared.layer.Layer.{Layer}
use Rattle.nextest_config_profiles.proofs.inherits.inherits_place.Goals as goal

-- the last that says anything is one of them
within : (says : Option Data → Said) (files : List Layer) (layers : Layers) (position : ℕ) (said : Said) → layers ≡ profiles_in files → IsLast (map says layers) position said
    → position < length files
within says files layers position said are last =
    let long : length layers ≡ length files = ap length are ∙ length-map files _ in
    omega (arith, last.place, ap length last.whole, length-append last.below (said ∷ last.above), length-map layers says, long)

pub place_of-requires : goal.place_of-requires
place_of-requires c =
    let are : lent_files c.as_slice.result.now ≡ profiles_in c.args.layers.now = ap lent_files c.as_slice.ensures.value ∙ c.in_ok-profiles.ensures in
    let last = rw c.in-Some.is at (c.last_above.ensures [] refl (inl tt)) in
    within _ c.args.layers.now (lent_files c.as_slice.result.now) c.in-Some.found.layer _ are last

pub returns : goal.returns
returns c =
    let are : lent_files c.as_slice.result.now ≡ profiles_in c.args.layers.now = ap lent_files c.as_slice.ensures.value ∙ c.in_ok-profiles.ensures in
    let last = rw c.in-None.is at (c.last_above.ensures [] refl (inl tt)) in
    subst (λ layers. IsLastValue (of_inherits layers c.args.profile.now) None) are last

pub returns-in-Some : goal.returns-in-Some
returns-in-Some c =
    let are : lent_files c.as_slice.result.now ≡ profiles_in c.args.layers.now = ap lent_files c.as_slice.ensures.value ∙ c.in_ok-profiles.ensures in
    let last = rw c.in-Some.is at (c.last_above.ensures [] refl (inl tt)) in
    record {
      found = c.in-Some.found;
      last = subst (λ layers. IsLastValue (of_inherits layers c.args.profile.now) (Some c.in-Some.found)) are last;
      place_is = c.in_ok-place-in-Some.ensures;
    }
