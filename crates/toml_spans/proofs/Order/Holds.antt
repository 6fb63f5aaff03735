-- What holds of each tree of a document, and what still does after a change.
use Rattle.std.proofs.Common.{true, false, ◌≡◌, ◌⊎◌, ℕ, zero, suc, List, [], ◌∷◌, None, Some, Ordering, nat_cmp, refl, subst, inl, inr, rules}
use Rattle.std.proofs.lemmas.Bool.{cases_Bool}
use Rattle.std.proofs.lemmas.Option.{none-some, option_and_then_some, same_Some}
use Rattle.std.specs.Cmp.Lexicographic.{slice_cmp}
use Rattle.std.specs.Ordering.{match_ordering}
use Rattle.toml.specs.Data.{same_key}
use Rattle.toml.specs.Tables.{header}
use Rattle.toml_spans.specs.Entry.{array, branch, Branches, elements, get_branch, get_tree, inline, insert_branch, no_branches, no_trees, Piece, pieces_of, push_tree, replace_branch, scalar, table, tables, Tree, tree, tree_at, tree_below, tree_from, Trees}
use Rattle.toml_spans.specs.Step.{index, key, PathStep}

-- of a tree, and of each one below it
pub record HoldsBelow (P : Tree → Type 0) (t : Tree) : Type 0 where
  pub each : (path : List PathStep) (u : Tree) → tree_below path t ≡ Some u → P u

-- of each tree of branches
pub record HoldsIn (P : Tree → Type 0) (bs : Branches) : Type 0 where
  pub each : (k : List ℕ) (t : Tree) → get_branch k bs ≡ Some t → HoldsBelow P t

-- of each tree of elements
pub record HoldsAmong (P : Tree → Type 0) (ts : Trees) : Type 0 where
  pub each : (i : ℕ) (t : Tree) → get_tree i ts ≡ Some t → HoldsBelow P t

-- of all that stands right below a tree
abbrev pub HoldsUnder : (Tree → Type 0) → Tree → Type 0
HoldsUnder P (scalar k v) = Unit {0}
HoldsUnder P (array k v ts) = HoldsAmong P ts
HoldsUnder P (inline k v bs) = HoldsIn P bs
HoldsUnder P (table k o bs) = HoldsIn P bs
HoldsUnder P (tables k done last bs) = HoldsAmong P (elements done last bs)

-- an element after others
pub get_pushed : (i : ℕ) (ts : Trees) (u x : Tree) → get_tree i (push_tree ts u) ≡ Some x → (get_tree i ts ≡ Some x) ⊎ (u ≡ x)
get_pushed zero no_trees u x is = inr (same_Some u x is)
get_pushed (suc i) no_trees u x is = absurd (none-some x is)
get_pushed zero (tree t ts) u x is = inl is
get_pushed (suc i) (tree t ts) u x is = get_pushed i ts u x is

-- where none before has a value, none of an array of tables has
pub no_values_more : (done : Trees) (last : Piece) (bs : Branches) → ((i : ℕ) (x : Tree) → get_tree i done ≡ Some x → (pieces_of x).of_value ≡ None)
    → (i : ℕ) (x : Tree) → get_tree i (elements done last bs) ≡ Some x → (pieces_of x).of_value ≡ None
no_values_more done last bs none i x is = elim (get_pushed i done (table last header bs) x is) [
  | inl old ↦ none i x old
  | inr new ↦ rw (← new) refl
]

-- one of those before it
pub get_before : (i : ℕ) (ts : Trees) (u x : Tree) → get_tree i ts ≡ Some x → get_tree i (push_tree ts u) ≡ Some x
get_before i no_trees u x is = absurd (none-some x is)
get_before zero (tree t ts) u x is = is
get_before (suc i) (tree t ts) u x is = get_before i ts u x is

-- one of three, by how two keys compare
by_order : {A : Type 0} (P : A → Type 0) (o : Ordering) (x y z : A) → P x → P y → P z → P (match_ordering o x y z)
by_order P o x y z less tie more = search rules

-- what is found at a key is in front, or after
by_key : (m l : List ℕ) (t x : Tree) (bs : Branches) {C : Type 0} → get_branch m (branch l t bs) ≡ Some x
    → (same_key m l ≡ true → t ≡ x → C) → (same_key m l ≡ false → get_branch m bs ≡ Some x → C) → C
by_key m l t x bs is here there = search rules

-- where the branches after the first are others, what is found there was found there, or is of them
after_front : (m l : List ℕ) (u x : Tree) (new bs : Branches) (N : Type 0) → (get_branch m new ≡ Some x → N ⊎ (get_branch m bs ≡ Some x))
    → get_branch m (branch l u new) ≡ Some x → N ⊎ (get_branch m (branch l u bs) ≡ Some x)
after_front m l u x new bs N on is = by_key m l u x new is (λ same here. inr (rw (same, here) refl)) (λ other there. rw other (on there))

-- where the first tree is another, what is found is that, or was there
instead : (m l : List ℕ) (t u x : Tree) (bs : Branches) → get_branch m (branch l t bs) ≡ Some x → (t ≡ x) ⊎ (get_branch m (branch l u bs) ≡ Some x)
instead m l t u x bs is = by_key m l t x bs is (λ _ here. inl here) (λ other there. inr (rw other there))

-- what is found once a tree is inserted is that, or was there
inserted : (k m : List ℕ) (t x : Tree) (bs : Branches) → get_branch m (insert_branch k t bs) ≡ Some x → (t ≡ x) ⊎ (get_branch m bs ≡ Some x)
inserted k m t x no_branches is = by_key m k t x no_branches is (λ _ here. inl here) (λ _ there. inr there)
inserted k m t x (branch l u bs) is = by_order (λ (new : Branches). get_branch m new ≡ Some x → (t ≡ x) ⊎ (get_branch m (branch l u bs) ≡ Some x)) (slice_cmp nat_cmp k l) _ _ _
    (λ found. by_key m k t x (branch l u bs) found (λ _ here. inl here) (λ _ there. inr there)) (instead m l t u x bs)
    (after_front m l u x (insert_branch k t bs) bs (t ≡ x) (inserted k m t x bs)) is

-- and once one is replaced
replaced : (k m : List ℕ) (t x : Tree) (bs : Branches) → get_branch m (replace_branch k t bs) ≡ Some x → (t ≡ x) ⊎ (get_branch m bs ≡ Some x)
replaced k m t x no_branches is = absurd (none-some x is)
replaced k m t x (branch l u bs) is = elim (cases_Bool (same_key k l)) [
  | inl same ↦ instead m l t u x bs (rw same at is)
  | inr other ↦ after_front m l u x (replace_branch k t bs) bs (t ≡ x) (replaced k m t x bs) (rw other at is)
]

module _ {P : Tree → Type 0} where
  -- of the tree itself
  pub holds_here : {t : Tree} → HoldsBelow P t → P t
  holds_here {t = t} holds = holds.each [] t refl

  -- and of what one step leads to
  pub holds_from : {t u : Tree} (step : PathStep) → tree_from t step ≡ Some u → HoldsBelow P t → HoldsBelow P u
  holds_from {t = t} {u = u} step from holds = record { each = λ path w is. holds.each (step ∷ path) w (rw from is) }

  holds_at : (t : Tree) → P t → ((step : PathStep) (u : Tree) → tree_from t step ≡ Some u → HoldsBelow P u) → (path : List PathStep) (u : Tree) → tree_below path t ≡ Some u → P u
  holds_at t here on [] u is = subst P (same_Some t u is) here
  holds_at t here on (step ∷ path) w is = option_and_then_some (tree_below path) (tree_from t step) w is (λ u from below. (on step u from).each path w below)

  -- of a tree, and of what one step leads to
  pub holds_steps : (t : Tree) → P t → ((step : PathStep) (u : Tree) → tree_from t step ≡ Some u → HoldsBelow P u) → HoldsBelow P t
  holds_steps t here on = record { each = holds_at t here on }

  -- of what a path leads to
  pub holds_along : (bs : Branches) → HoldsIn P bs → (path : List PathStep) (t : Tree) → tree_at bs path ≡ Some t → P t
  holds_along bs holds [] t is = absurd (none-some t is)
  holds_along bs holds (index i ∷ path) t is = absurd (none-some t is)
  holds_along bs holds (key k ∷ path) t is = option_and_then_some (tree_below path) (get_branch k bs) t is (λ u from below. (holds.each k u from).each path t below)

  -- of none
  pub holds_nowhere : HoldsIn P no_branches
  holds_nowhere = record { each = λ k t is. absurd (none-some t is) }

  pub holds_of_none : HoldsAmong P no_trees
  holds_of_none = record { each = λ i t is. absurd (none-some t is) }

  -- of one more element
  pub holds_pushed : (ts : Trees) (u : Tree) → HoldsAmong P ts → HoldsBelow P u → HoldsAmong P (push_tree ts u)
  holds_pushed ts u holds here = record { each = λ i x is. elim (get_pushed i ts u x is) [ inl old ↦ holds.each i x old | inr new ↦ subst (HoldsBelow P) new here ] }

  -- of all but the last element, and of that
  pub holds_before : (ts : Trees) (u : Tree) → HoldsAmong P (push_tree ts u) → HoldsAmong P ts
  holds_before ts u holds = record { each = λ i x is. holds.each i x (get_before i ts u x is) }

  pub holds_last : (ts : Trees) (u : Tree) → HoldsAmong P (push_tree ts u) → HoldsBelow P u
  holds_last no_trees u holds = holds.each zero u refl
  holds_last (tree t ts) u holds = holds_last ts u (record { each = λ i x is. holds.each (suc i) x is })

  -- of a tree in its place
  pub holds_inserted : (k : List ℕ) (t : Tree) (bs : Branches) → HoldsIn P bs → HoldsBelow P t → HoldsIn P (insert_branch k t bs)
  holds_inserted k t bs holds here = record { each = λ m x is. elim (inserted k m t x bs is) [ inl new ↦ subst (HoldsBelow P) new here | inr old ↦ holds.each m x old ] }

  pub holds_replaced : (k : List ℕ) (t : Tree) (bs : Branches) → HoldsIn P bs → HoldsBelow P t → HoldsIn P (replace_branch k t bs)
  holds_replaced k t bs holds here = record { each = λ m x is. elim (replaced k m t x bs is) [ inl new ↦ subst (HoldsBelow P) new here | inr old ↦ holds.each m x old ] }

  under_from : (t : Tree) → HoldsUnder P t → (step : PathStep) (u : Tree) → tree_from t step ≡ Some u → HoldsBelow P u
  under_from t holds step u is = search rules

  -- of a tree and all that stands right below it
  pub holds_tree : (t : Tree) → P t → HoldsUnder P t → HoldsBelow P t
  holds_tree t here holds = holds_steps t here (under_from t holds)

  -- of what stands right below it
  pub holds_under : (t : Tree) → HoldsBelow P t → HoldsUnder P t
  holds_under (scalar k v) holds = tt
  holds_under (array k v ts) holds = record { each = λ i u is. holds_from (index i) is holds }
  holds_under (inline k v bs) holds = record { each = λ text u is. holds_from (key text) is holds }
  holds_under (table k o bs) holds = record { each = λ text u is. holds_from (key text) is holds }
  holds_under (tables k done last bs) holds = record { each = λ i u is. holds_from (index i) is holds }

  -- of what follows from it
  module _ {Q : Tree → Type 0} (on : (t : Tree) → P t → Q t) where
    pub holds_weaker : {t : Tree} → HoldsBelow P t → HoldsBelow Q t
    holds_weaker holds = record { each = λ path u is. on u (holds.each path u is) }

    pub holds_weaker_in : {bs : Branches} → HoldsIn P bs → HoldsIn Q bs
    holds_weaker_in holds = record { each = λ k t is. holds_weaker (holds.each k t is) }

    pub holds_weaker_among : {ts : Trees} → HoldsAmong P ts → HoldsAmong Q ts
    holds_weaker_among holds = record { each = λ i t is. holds_weaker (holds.each i t is) }
