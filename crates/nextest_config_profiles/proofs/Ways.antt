-- Ways from profile to profile, and the chains that they make.
use Rattle.std.proofs.Common.{◌≡◌, ◌≢◌, ℕ, Bool, true, false, not, nat_eq, List, [], ◌∷◌, ◌++◌, Some, refl, sym, ap, subst, ◌∙◌, inl, inr}
use Rattle.std.specs.Cmp.Lexicographic.{other_text, pointwise}
use Rattle.std.specs.Prelude.{unwrap_or}
use Rattle.toml.specs.Data.{as_str, Data, string}
use Rattle.nextest_config_profiles.specs.Chain.{Asks, Inherits, InheritsNoText, IsChain, IsChainFault, IsNext, IsNextFault, IsWay, LeadsOn}
use Rattle.nextest_config_profiles.specs.Merged.{Layers}
use Rattle.nextest_config_profiles.specs.Profiles.{default_profile, IsProfile, SomeOf}
use Rattle.nextest_config_profiles.specs.Said.{leaf, said_here}
use Rattle.nextest_config_profiles.specs.declared.chain.ChainFault.{ChainFault}
use Rattle.nextest_config_profiles.specs.declared.chain.ChainFault.TheVariants.{NotDefined, NotText}

-- what a text says
pub text_said : (value : Data) (text : List ℕ) → as_str value ≡ Some text → said_here value ≡ leaf (string text)
text_said (string held) text h = ap (λ found. leaf (string (unwrap_or found text))) h
text_said value text h = absurd (cc h)

module _ (layers : Layers) where
  pub way_end : (before : List (List ℕ)) (name : List ℕ) (after : List (List ℕ)) → IsWay layers (before ++ name ∷ after) → IsWay layers (name ∷ after)
  way_end [] name after way = way
  way_end (first ∷ []) name after way = way.2
  way_end (first ∷ second ∷ before) name after way = way_end (second ∷ before) name after way.2

  -- one step more
  pub way_more : (before : List (List ℕ)) (name next : List ℕ) → IsWay layers (before ++ name ∷ []) → name ≢ default_profile → IsNext layers name next
      → IsWay layers (before ++ name ∷ next ∷ [])
  way_more [] name next way other is_next = (other, is_next, tt)
  way_more (first ∷ []) name next way other is_next = (way.0, way.1, (other, is_next, tt))
  way_more (first ∷ second ∷ before) name next way other is_next = (way.0, way.1, way_more (second ∷ before) name next way.2 other is_next)

  -- a way leads from its first profile to its last
  pub leads_on : (before : List (List ℕ)) (from to : List ℕ) (more : List (List ℕ)) → IsWay layers (before ++ to ∷ []) → before ++ to ∷ [] ≡ from ∷ more → LeadsOn layers from to
  leads_on [] from to more way starts = inl (sym (ap (λ names. first_of names from) starts))
    where
      first_of : List (List ℕ) → List ℕ → List ℕ
      first_of [] other = other
      first_of (first ∷ rest) other = first
  leads_on (first ∷ before) from to more way starts =
      inr (record { between = before; way = subst (λ name. IsWay layers (name ∷ (before ++ to ∷ []))) (ap (λ names. first_of names from) starts) way })
    where
      first_of : List (List ℕ) → List ℕ → List ℕ
      first_of [] other = other
      first_of (first ∷ rest) other = first

-- a name among those of a way
pub record IsAmong (name : List ℕ) (names : List (List ℕ)) : Type 0 where
  pub before : List (List ℕ)
  pub after : List (List ℕ)
  pub whole : names ≡ before ++ name ∷ after

pub among : (name : List ℕ) (names : List (List ℕ)) → SomeOf (λ other. other ≡ name) names → IsAmong name names
among name [] h = absurd h
among name (first ∷ rest) (inl here) = record { before = []; after = rest; whole = ap (λ other. other ∷ rest) here }
among name (first ∷ rest) (inr later) =
    let there = among name rest later in
    record { before = first ∷ there.before; after = there.after; whole = ap (λ names. first ∷ names) there.whole }

-- the chain of a profile begins with it
pub chain_from : (layers : Layers) (name next : List ℕ) (rest : List (List ℕ)) → IsProfile layers name → name ≢ default_profile → IsNext layers name next
    → IsChain layers next rest → IsChain layers name (name ∷ rest)
chain_from layers name next rest is_profile other is_next chain = (refl, is_profile, inr (other, (next, is_next, chain)))

pub next_profile_is : (layers : Layers) (name next : List ℕ) → IsNext layers name next → IsProfile layers next
next_profile_is layers name next (inl none) = inl none.1
next_profile_is layers name next (inr parent) = parent.1

-- what is wrong right after a profile that is led to
pub next_is_wrong : (layers : Layers) (name current : List ℕ) (fault : ChainFault) → Asks layers name current → IsNextFault layers current fault → IsChainFault layers name fault
next_is_wrong layers name current (NotDefined profile parent) asks h =
    (subst (Asks layers name) (sym h.0) asks, (refl, subst (λ from. Inherits layers from parent.now) (sym h.0) h.1, h.2))
next_is_wrong layers name current (NotText profile) asks h =
    (subst (Asks layers name) (sym h.0) asks, (refl, subst (InheritsNoText layers) (sym h.0) h.1))
next_is_wrong layers name current other asks h = absurd h

not_so : (b : Bool) → not b ≡ true → b ≡ false
not_so true h = absurd (cc h)
not_so false h = refl

-- what `!=` of two texts says
pub told_apart : (xs ys : List ℕ) (r : Bool) → r ≡ not (pointwise nat_eq xs ys) → r ≡ true → xs ≢ ys
told_apart xs ys r is told same = other_text xs ys (sym (not_so (pointwise nat_eq xs ys) (sym is ∙ told))) same
