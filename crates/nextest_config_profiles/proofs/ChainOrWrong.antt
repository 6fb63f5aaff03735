-- A name that has a chain has nothing wrong with it.
use Rattle.std.proofs.Common.{◌≡◌, ◌≢◌, ◌<◌, ℕ, List, [], ◌∷◌, ◌++◌, None, ap, arith, length, subst, inl, inr}
use Rattle.toml.specs.Data.{as_str, Data, member, string, table}
use Rattle.nextest_config_profiles.specs.Chain.{Inherits, InheritsNoText, IsChain, IsNext, IsWay, IsWrong, Leads, LeadsOn, no_profile, not_defined, not_text, of_inherits, ring, Wrong}
use Rattle.nextest_config_profiles.specs.Merged.{Layers}
use Rattle.nextest_config_profiles.specs.Profiles.{default_profile, IsProfile}
use Rattle.nextest_config_profiles.specs.Said.{leaf, said_here}
use Rattle.nextest_config_profiles.proofs.LeafLaws.{chain_once, last_once, next_once, nothing_or_leaf}
use Rattle.nextest_config_profiles.proofs.Placed.{no_text_placed, some_value}

-- what is said of a text is that of no other value
no_other_text : (value : Data) (text : List ℕ) → as_str value ≡ None → said_here value ≡ leaf (string text) → ⊥
no_other_text (string held) text none same = cc none
no_other_text (table (member key value rest)) text none same = cc same
no_other_text value text none same = cc same

module _ (layers : Layers) where
  -- where a way leads, the chain goes on, and is shorter
  record GoesOn (to : List ℕ) (long : ℕ) : Type 0 where
    rest : List (List ℕ)
    is_chain : IsChain layers to rest
    shorter : length rest < long

  after_next : (name next : List ℕ) (chain : List (List ℕ)) → name ≢ default_profile → IsNext layers name next → IsChain layers name chain → GoesOn next (length chain)
  after_next name next [] other is_next h = absurd h
  after_next name next (first ∷ rest) other is_next (is, profile, inl (default, none)) = absurd (other default)
  after_next name next (first ∷ rest) other is_next (is, profile, inr (apart, (found, is_found, later))) = record {
    rest = rest;
    is_chain = subst (λ name. IsChain layers name rest) (next_once layers name found next is_found is_next) later;
    shorter = omega arith;
  }

  along : (between : List (List ℕ)) (from to : List ℕ) (chain : List (List ℕ)) → IsWay layers (from ∷ (between ++ (to ∷ []))) → IsChain layers from chain → GoesOn to (length chain)
  along [] from to chain way h = after_next from to chain way.0 way.1 h
  along (next ∷ between) from to chain way h =
      let one = after_next from next chain way.0 way.1 h in
      let rest = along between next to one.rest way.2 one.is_chain in
      record { rest = rest.rest; is_chain = rest.is_chain; shorter = omega (arith, one.shorter, rest.shorter) }

  has_chain : (from to : List ℕ) (chain : List (List ℕ)) → LeadsOn layers from to → IsChain layers from chain → (rest : List (List ℕ)) × IsChain layers to rest
  has_chain from to chain (inl same) h = (chain, subst (λ name. IsChain layers name chain) same h)
  has_chain from to chain (inr leads) h =
      let there = along leads.between from to chain leads.way h in
      (there.rest, there.is_chain)

  no_ring : (profile : List ℕ) (chain : List (List ℕ)) → Leads layers profile profile → IsChain layers profile chain → ⊥
  no_ring profile chain leads h =
      let there = along leads.between profile profile chain leads.way h in
      let same = ap length (chain_once layers profile chain there.rest h there.is_chain) in
      omega (arith, there.shorter, same)

  -- what a profile inherits from is the next of its chain
  inherits_next : (name parent : List ℕ) (chain : List (List ℕ)) → name ≢ default_profile → Inherits layers name parent → IsChain layers name chain → IsProfile layers parent
  inherits_next name parent [] other inherits h = absurd h
  inherits_next name parent (first ∷ rest) other inherits (is, profile, inl (default, none)) = absurd (other default)
  inherits_next name parent (first ∷ rest) other inherits (is, profile, inr (apart, (next, inl none, later))) =
      absurd (nothing_or_leaf (of_inherits layers name) inherits.0 (string parent) none.0 inherits.1)
  inherits_next name parent (first ∷ rest) other inherits (is, profile, inr (apart, (next, inr found, later))) =
      let same = (last_once (of_inherits layers name) inherits.0 found.0.0 (leaf (string parent)) (leaf (string next)) inherits.1 found.0.1 (λ e. cc e) (λ e. cc e)).1 in
      let same_name : next ≡ parent = cc same in
      subst (IsProfile layers) same_name found.1

  no_text_next : (name : List ℕ) (chain : List (List ℕ)) → name ≢ default_profile → InheritsNoText layers name → IsChain layers name chain → ⊥
  no_text_next name [] other wrong h = h
  no_text_next name (first ∷ rest) other wrong (is, profile, inl (default, none)) = other default
  no_text_next name (first ∷ rest) other wrong (is, profile, inr (apart, (next, inl none, later))) = no_text_placed layers name wrong none.0
  no_text_next name (first ∷ rest) other wrong (is, profile, inr (apart, (next, inr found, later))) =
      let some = some_value wrong.value in
      no_other_text wrong.value next wrong.no_text
      (last_once (of_inherits layers name) wrong.position found.0.0 (said_here wrong.value) (leaf (string next)) wrong.last found.0.1 some.0 (λ e. cc e)).1

pub chain_or_wrong : (layers : Layers) (name : List ℕ) (chain : List (List ℕ)) (wrong : Wrong) → IsChain layers name chain → IsWrong layers name wrong → ⊥
chain_or_wrong layers name [] wrong h none = h
chain_or_wrong layers name (first ∷ rest) no_profile h none = none h.1
chain_or_wrong layers name (first ∷ rest) (ring profile) h (leads, round) =
    let there = has_chain layers name profile (first ∷ rest) leads h in
    no_ring layers profile there.0 round there.1
chain_or_wrong layers name (first ∷ rest) (not_defined profile parent) h ((leads, other), (is, inherits, none)) =
    let there = has_chain layers name profile (first ∷ rest) leads h in
    none (inherits_next layers profile parent there.0 other inherits there.1)
chain_or_wrong layers name (first ∷ rest) (not_text profile) h ((leads, other), (is, wrong)) =
    let there = has_chain layers name profile (first ∷ rest) leads h in
    no_text_next layers profile there.0 other wrong there.1
