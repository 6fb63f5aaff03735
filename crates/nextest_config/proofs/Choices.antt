-- A tree of choices of which one half is chosen anew.
use Rattle.std.proofs.Common.{◌≡◌, ℕ, zero, suc, append_assoc, ◌+◌, ◌-◌, ◌/◌, ◌<◌, ◌≤◌, List, [], ◌∷◌, ◌++◌, length, get_or, set, take, drop, replicate, inl, inr, refl, sym, ap, ap₂, subst, ◌∙◌, arith, rules}
use Rattle.std.proofs.lemmas.List.{drop-drop, drop_at, drop-replicate, get_or-replicate, get_or_at, get_or_past, length-append, length-replicate, set-append_left, set-append_right, take_at, take-replicate}
use Rattle.std.proofs.lemmas.Bool.{cases_lt}
use Rattle.nextest_config.specs.Choice.Choices.{HoldsChoices, undivided, halved}
use Rattle.nextest_config.specs.Merge.{IsMonoid, total}
use Rattle.nextest_config.proofs.Halves.{total_joined}

module _ {X : Type 0} (choice : X → X → X) (none : X) where
  pub first_held : {leaves nodes first us : List X} → 2 ≤ length leaves → HoldsChoices choice none leaves nodes
      → first ≡ take (length leaves / 2) leaves → us ≡ take (length leaves / 2 - 1) nodes → HoldsChoices choice none first us
  first_held many h1 front nodes_front = search rules

  pub second_held : {leaves nodes second rest vs : List X} → 2 ≤ length leaves → HoldsChoices choice none leaves nodes
      → second ≡ drop (length leaves / 2) leaves → rest ≡ drop (length leaves / 2 - 1) nodes → vs ≡ drop 1 rest → HoldsChoices choice none second vs
  second_held many (undivided few) back rest_is nodes_back = absurd (omega arith)
  second_held {leaves} {nodes} many (halved _ node first second) back rest_is nodes_back =
      let parted : (length leaves / 2 - 1) + 1 ≡ length leaves / 2 = omega arith in
      rw (back, nodes_back ∙ ap (drop 1) rest_is ∙ drop-drop 1 (length leaves / 2 - 1) nodes ∙ ap (λ n. drop n nodes) parted) second

  -- halves that hold their choices, with the choice over both between their nodes
  pub both_held : (first second us own vs : List X) (node : X) (n : ℕ) → 2 ≤ n → length first ≡ n / 2 → length first + length second ≡ n → length us ≡ n / 2 - 1 → length own ≡ 1
      → node ≡ total choice none (first ++ second) → HoldsChoices choice none first us → HoldsChoices choice none second vs → HoldsChoices choice none (first ++ second) (us ++ (set own 0 node ++ vs))
  both_held first second us [] vs node n many half both long one whole held more = absurd (omega (arith, one))
  both_held first second us (x ∷ y ∷ own) vs node n many half both long one whole held more = absurd (omega (arith, one))
  both_held first second us (x ∷ []) vs node n many half both long one whole held more =
      let all : length (first ++ second) / 2 ≡ n / 2 = ap (λ k. k / 2) (length-append first second ∙ both) in
      let there = get_or_at us node vs none (n / 2 - 1) long in
      let behind = ap (drop (n / 2)) (sym (append_assoc us (node ∷ []) vs)) ∙ drop_at (us ++ (node ∷ [])) vs (n / 2) (omega (arith, length-append us (node ∷ []), long, many)) in
      halved (omega (arith, length-append first second, both, many)) (rw all (there ∙ whole)) (rw (all, take_at first second (n / 2) half, take_at us (node ∷ vs) (n / 2 - 1) long) held) (rw (all, drop_at first second (n / 2) half, behind) more)

-- a leaf of one half is replaced
module _ {X : Type 0} {whole part : List X} (first second : List X) (slot : ℕ) (leaf : X) (joined : whole ≡ first ++ second) where
  pub set_first : slot < length first → part ≡ set first slot leaf → part ++ second ≡ set whole slot leaf
  set_first within replaced = rw (replaced, joined) (sym (set-append_left first second slot leaf within))

  pub set_second : (n : ℕ) → length first ≡ n → n ≤ slot → part ≡ set second (slot - n) leaf → first ++ part ≡ set whole slot leaf
  set_second n long behind replaced = rw (replaced, joined) (sym (set-append_right first second n slot leaf long behind))

module _ {X : Type 0} (choice : X → X → X) (none : X) (laws : IsMonoid choice none) where
  -- the one leaf is replaced
  pub alone_set : (leaves : List X) (slot : ℕ) (leaf : X) → slot < length leaves → length leaves ≤ 1 → leaf ≡ total choice none (set leaves slot leaf)
  alone_set [] slot leaf within few = absurd (omega arith)
  alone_set (x ∷ []) zero leaf within few = sym (laws.neutral_last leaf)
  alone_set (x ∷ []) (suc slot) leaf within few = absurd (omega arith)
  alone_set (x ∷ y ∷ xs) slot leaf within few = absurd (omega arith)

  pub chosen_of_both : {whole : List X} (first second : List X) {a b : X} → whole ≡ first ++ second → a ≡ total choice none first → b ≡ total choice none second → choice a b ≡ total choice none whole
  chosen_of_both first second joined is more = ap₂ choice is more ∙ sym (total_joined choice none laws first second) ∙ ap (total choice none) (sym joined)

  -- ---- a tree of which nothing is chosen

  none_whole : (n : ℕ) → total choice none (replicate n none) ≡ none
  none_whole zero = refl
  none_whole (suc n) = laws.neutral_first (total choice none (replicate n none)) ∙ none_whole n

  none_at : (m k : ℕ) → get_or (replicate m none) k none ≡ none
  none_at m k = elim (cases_lt k m) [
    | inl within ↦ get_or-replicate m k none none within
    | inr past ↦ get_or_past (replicate m none) k none (omega (arith, length-replicate m none))
  ]

  none_within : (most n m : ℕ) → n ≤ most → n ≤ m + 1 → HoldsChoices choice none (replicate n none) (replicate m none)
  none_within zero n m few enough = undivided (omega (arith, length-replicate n none))
  none_within (suc most) n m few enough = elim (cases_lt n 2) [
    | inl one ↦ undivided (omega (arith, length-replicate n none))
    | inr many ↦ (
        let long = length-replicate n none in
        let first = none_within most (n / 2) (n / 2 - 1) (omega arith) (omega arith) in
        let second = none_within most (n - n / 2) (m - n / 2) (omega arith) (omega arith) in
        let held_first = rw (← take-replicate (n / 2) n none (omega arith), ← take-replicate (n / 2 - 1) m none (omega arith)) at first in
        let held_second = rw (← drop-replicate (n / 2) n none, ← drop-replicate (n / 2) m none) at second in
        let Both : ℕ → Type 0 = λ k. HoldsChoices choice none (take k (replicate n none)) (take (k - 1) (replicate m none)) × HoldsChoices choice none (drop k (replicate n none)) (drop k (replicate m none)) in
        let both = subst Both (ap (λ k. k / 2) (sym long)) (held_first, held_second) in
        halved (omega (arith, long)) (none_at m (length (replicate n none) / 2 - 1) ∙ sym (none_whole n)) both.0 both.1)
  ]

  pub none_holds : (n : ℕ) → HoldsChoices choice none (replicate n none) (replicate n none)
  none_holds n = none_within n n n (omega arith) (omega arith)
