-- What is wrong with a chain stands in a file: nextest's own document says of no profile what it inherits from.
use Rattle.std.specs.Prelude.{codes, string_bytes}
use Rattle.std.proofs.Common.{◌≡◌, ◌≢◌, ℕ, suc, Ordering, Equal, List, [], ◌∷◌, ◌++◌, Some, None, nat_cmp, ap, refl, subst, sym, inl, inr}
use Rattle.std.specs.Cmp.Lexicographic.{slice_cmp}
use Rattle.std.specs.Ordering.{match_ordering}
use Rattle.toml.specs.Data.{Data, no_members, string, table}
use Rattle.nextest_config_profiles.specs.Chain.{Inherits, InheritsNoText, IsNext, IsWay, of_inherits}
use Rattle.nextest_config_profiles.specs.Defaults.{default_values}
use Rattle.nextest_config_profiles.specs.Inherits.{HasPlace, IsPlacedFault}
use Rattle.nextest_config_profiles.specs.Merged.{Layers}
use Rattle.nextest_config_profiles.specs.Layer.{all_layers, profiles_at, profiles_in}
use Rattle.nextest_config_profiles.specs.Profile.{IsProfileFault}
use Rattle.nextest_config_profiles.specs.Profiles.{default_profile}
use Rattle.nextest_config_profiles.specs.Said.{barred, leaf, Said, said_at, said_here, silent}
use Rattle.nextest_config_profiles.specs.Selection.{HasNothing}
use Rattle.nextest_config_profiles.specs.declared.layer.Layer.{Layer}
use Rattle.nextest_config_profiles.specs.declared.profile.ProfileFault.{ProfileFault}
use Rattle.nextest_config_profiles.specs.declared.profile.ProfileFault.TheVariants as faults
use Rattle.nextest_config_profiles.proofs.LeafLaws.{nothing_or_said}

-- ---- nextest's own document

one_silent : (o : Ordering) (value : Data) → said_at (codes "inherits" ∷ []) (Some value) ≡ silent
    → said_at (codes "inherits" ∷ []) (match_ordering o None (Some value) None) ≡ silent
one_silent Equal value h = h
one_silent order value h = refl

defaults_silent : (profile : List ℕ) → said_at (profile ∷ codes "inherits" ∷ []) (profiles_at default_values) ≡ silent
defaults_silent profile = one_silent (slice_cmp nat_cmp profile (codes "default")) _ refl

nothing_above : (rest : List Said) → HasNothing rest → HasNothing (silent ∷ rest)
nothing_above rest (inl none) = inl (refl, none)
nothing_above rest (inr (position, last)) = inr (
  suc position,
  record {
    below = silent ∷ last.below;
    above = last.above;
    whole = ap (λ all. silent ∷ all) last.whole;
    place = ap suc last.place;
    silent_above = last.silent_above;
  },
)

-- where no file says anything of `inherits`, the layers together don't either
nothing_at_all : (files : List Layer) (profile : List ℕ) → HasNothing (of_inherits (profiles_in files) profile) → HasNothing (of_inherits (all_layers files) profile)
nothing_at_all files profile none =
    subst (λ said. HasNothing (said ∷ of_inherits (profiles_in files) profile)) (sym (defaults_silent profile)) (nothing_above (of_inherits (profiles_in files) profile) none)

-- ---- what is wrong

pub some_value : (value : Data) → (said_here value ≡ silent → ⊥) × (said_here value ≡ barred → ⊥)
some_value (table no_members) = (λ e. cc e, λ e. cc e)
some_value value = (λ e. cc e, λ e. cc e)

pub no_text_placed : (layers : Layers) (profile : List ℕ) → InheritsNoText layers profile → HasNothing (of_inherits layers profile) → ⊥
no_text_placed layers profile wrong none =
    let some = some_value wrong.value in
    nothing_or_said (of_inherits layers profile) wrong.position (said_here wrong.value) none wrong.last some.0 some.1

inherits_placed : (layers : Layers) (profile parent : List ℕ) → Inherits layers profile parent → HasNothing (of_inherits layers profile) → ⊥
inherits_placed layers profile parent (position, last) none =
    nothing_or_said (of_inherits layers profile) position (leaf (string parent)) none last (λ e. cc e) (λ e. cc e)

next_placed : (layers : Layers) (profile next : List ℕ) → next ≢ default_profile → IsNext layers profile next → HasNothing (of_inherits layers profile) → ⊥
next_placed layers profile next other (inl last) none = other last.1
next_placed layers profile next other (inr inherits) none = inherits_placed layers profile next inherits.0 none

-- what is on the way to another isn't `default`
not_default : (layers : Layers) (name : List ℕ) (between : List (List ℕ)) (to : List ℕ) → IsWay layers (name ∷ (between ++ (to ∷ []))) → name ≢ default_profile
not_default layers name [] to way = way.0
not_default layers name (next ∷ between) to way = way.0

ring_placed : (layers : Layers) (profile : List ℕ) (between : List (List ℕ)) → IsWay layers (profile ∷ (between ++ (profile ∷ []))) → HasNothing (of_inherits layers profile) → ⊥
ring_placed layers profile [] way none = next_placed layers profile profile way.0 way.1 none
ring_placed layers profile (next ∷ between) way none =
    next_placed layers profile next (not_default layers next between profile way.2) way.1 none

-- the place of a fault is there
pub has_place : (files : List Layer) (name : List ℕ) (fault : ProfileFault) → IsProfileFault (all_layers files) name fault → IsPlacedFault files fault → HasPlace fault
has_place files name faults.NoProfile wrong placed = tt
has_place files name (faults.Ring profile (Some place)) wrong placed = refl
has_place files name (faults.Ring profile None) wrong placed =
    absurd (ring_placed (all_layers files) (string_bytes profile) wrong.1.between wrong.1.way (nothing_at_all files (string_bytes profile) placed))
has_place files name (faults.NotDefined profile parent (Some place)) wrong placed = refl
has_place files name (faults.NotDefined profile parent None) wrong placed =
    absurd (inherits_placed (all_layers files) (string_bytes profile) (string_bytes parent) wrong.1.1 (nothing_at_all files (string_bytes profile) placed))
has_place files name (faults.NotText profile (Some place)) wrong placed = refl
has_place files name (faults.NotText profile None) wrong placed =
    absurd (no_text_placed (all_layers files) (string_bytes profile) wrong.1.1 (nothing_at_all files (string_bytes profile) placed))
has_place files name faults.Memory wrong placed = tt
