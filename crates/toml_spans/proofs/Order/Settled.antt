-- How the pieces of trees stand to one another: what is within a value, what comes in turn, and what is apart.
use Rattle.std.proofs.Common.{◌≡◌, ◌⊎◌, ℕ, zero, suc, ◌<◌, ◌≤◌, List, [], ◌∷◌, Some, None, subst, inl, inr, arith, rules}
use Rattle.std.proofs.lemmas.Option.{none-some, option_and_then_some, same_Some}
use Rattle.toml_spans.specs.Entry.{array, Branches, get_branch, get_tree, inline, no_trees, Piece, pieces_of, push_tree, scalar, table, tables, Tree, tree, tree_at, tree_below, tree_from, Trees}
use Rattle.toml_spans.specs.Step.{key, PathStep}
use Rattle.toml_spans.proofs.Order.Bounds.{pieces_wider, PiecesWithin, Within}
use Rattle.toml_spans.proofs.Order.Holds.{get_pushed, holds_weaker, HoldsBelow, HoldsIn}

-- ---- pieces

-- one piece ends before the other begins, or one lies within the other
abbrev pub Apart : Piece → Piece → Type 0
Apart v w = ((w.0 ≤ v.1) ⊎ (v.0 ≤ w.1)) ⊎ (Within v.0 v.1 w ⊎ Within w.0 w.1 v)

-- ---- values

-- the piece is that of a value, at or below this tree
pub record ValueBelow (t : Tree) (v : Piece) : Type 0 where
  pub path : List PathStep
  pub value : Tree
  pub leads : tree_below path t ≡ Some value
  pub is : (pieces_of value).of_value ≡ Some v

-- or in branches
pub record ValueIn (bs : Branches) (v : Piece) : Type 0 where
  pub path : List PathStep
  pub value : Tree
  pub leads : tree_at bs path ≡ Some value
  pub is : (pieces_of value).of_value ≡ Some v

-- below a tree of branches
pub value_in : (bs : Branches) (k : List ℕ) (t : Tree) (v : Piece) → get_branch k bs ≡ Some t → ValueBelow t v → ValueIn bs v
value_in bs k t v from below = record { path = key k ∷ below.path; value = below.value; leads = rw from below.leads; is = below.is }

-- the tree's own value, or one below what a step leads to
pub record ValueFrom (t : Tree) (v : Piece) : Type 0 where
  pub step : PathStep
  pub next : Tree
  pub from : tree_from t step ≡ Some next
  pub below : ValueBelow next v

pub own_or_from : (t : Tree) (v : Piece) (path : List PathStep) (value : Tree) → tree_below path t ≡ Some value → (pieces_of value).of_value ≡ Some v → ((pieces_of t).of_value ≡ Some v) ⊎ ValueFrom t v
own_or_from t v [] value leads is = inl (rw (same_Some t value leads) is)
own_or_from t v (step ∷ path) value leads is = inr (option_and_then_some (tree_below path) (tree_from t step) value leads
    (λ next from below. record { step = step; next = next; from = from; below = record { path = path; value = value; leads = below; is = is } }))

-- values below a tree lie where its pieces do
pub value_lies : (a b : ℕ) (t : Tree) (v : Piece) → HoldsBelow (PiecesWithin a b) t → ValueBelow t v → Within a b v
value_lies a b t v lie below = (lie.each below.path below.value below.leads).of_value.each v below.is

-- ---- elements in order

-- so two elements stand to one another, the first being earlier
pub record InOrder (R : Tree → Tree → Type 0) (ts : Trees) : Type 0 where
  pub each : (i j : ℕ) (x y : Tree) → i < j → get_tree i ts ≡ Some x → get_tree j ts ≡ Some y → R x y

module _ (R : Tree → Tree → Type 0) where
  pub in_order_none : InOrder R no_trees
  in_order_none = record { each = λ i j x y before is. absurd (none-some x is) }

  order_more : (ts : Trees) (u : Tree) → ((i j : ℕ) (x y : Tree) → i < j → get_tree i ts ≡ Some x → get_tree j ts ≡ Some y → R x y)
      → ((i : ℕ) (x : Tree) → get_tree i ts ≡ Some x → R x u) → (i j : ℕ) (x y : Tree) → i < j → get_tree i (push_tree ts u) ≡ Some x → get_tree j (push_tree ts u) ≡ Some y → R x y
  order_more ts u order last i zero x y before is other = absurd (omega (arith, before))
  order_more no_trees u order last i (suc j) x y before is other = absurd (none-some y other)
  order_more (tree t ts) u order last zero (suc j) x y before is other = elim (get_pushed j ts u y other) [
    | inl old ↦ order zero (suc j) x y before is old
    | inr new ↦ subst (R x) new (last zero x is)
  ]
  order_more (tree t ts) u order last (suc i) (suc j) x y before is other =
      order_more ts u (λ m n z w less. order (suc m) (suc n) z w (omega (arith, less))) (λ m z. last (suc m) z) i j x y (omega (arith, before)) is other

  -- one more at the end
  pub in_order_more : (ts : Trees) (u : Tree) → InOrder R ts → ((i : ℕ) (x : Tree) → get_tree i ts ≡ Some x → R x u) → InOrder R (push_tree ts u)
  in_order_more ts u order last = record { each = order_more ts u order.each last }

-- the values of the first end before those of the second begin
pub record EndsBefore (t u : Tree) : Type 0 where
  pub each : (v w : Piece) → ValueBelow t v → ValueBelow u w → w.0 ≤ v.1

-- so do their keys
pub record KeyEndsBefore (t u : Tree) : Type 0 where
  pub each : (k l : Piece) → (pieces_of t).of_key ≡ Some k → (pieces_of u).of_key ≡ Some l → l.0 ≤ k.1

-- elements that are written as values have no key, and stand in order
pub record ArrayInTurn (ts : Trees) : Type 0 where
  pub no_keys : (i : ℕ) (x : Tree) → get_tree i ts ≡ Some x → (pieces_of x).of_key ≡ None
  pub order : InOrder EndsBefore ts

-- those that double brackets made have no value, and their keys stand in order, before this place
pub record TablesInTurn (n : ℕ) (done : Trees) (last : Piece) : Type 0 where
  pub no_values : (i : ℕ) (x : Tree) → get_tree i done ≡ Some x → (pieces_of x).of_value ≡ None
  pub order : InOrder KeyEndsBefore done
  pub before : (i : ℕ) (x : Tree) (k : Piece) → get_tree i done ≡ Some x → (pieces_of x).of_key ≡ Some k → last.0 ≤ k.1
  pub runs : last.1 ≤ last.0
  pub ends : n ≤ last.1

abbrev pub InTurn : ℕ → Tree → Type 0
InTurn n (scalar k v) = Unit {0}
InTurn n (array k v ts) = ArrayInTurn ts
InTurn n (inline k v bs) = Unit {0}
InTurn n (table k o bs) = Unit {0}
InTurn n (tables k done last bs) = TablesInTurn n done last

-- all below a value lies within it, and elements stand in order
pub record IsSound (n : ℕ) (t : Tree) : Type 0 where
  pub encloses : (v : Piece) (step : PathStep) (u : Tree) → (pieces_of t).of_value ≡ Some v → tree_from t step ≡ Some u → HoldsBelow (PiecesWithin v.0 v.1) u
  pub in_turn : InTurn n t

pub in_turn_later : (m n : ℕ) → m ≤ n → (t : Tree) → InTurn n t → InTurn m t
in_turn_later m n later t turn = search (rules, arith)

pub sound_later : (m n : ℕ) → m ≤ n → (t : Tree) → IsSound n t → IsSound m t
sound_later m n later t sound = record { encloses = sound.encloses; in_turn = in_turn_later m n later t sound.in_turn }

-- a value that was read between these places
pub record IsSettled (a b : ℕ) (t : Tree) : Type 0 where
  pub no_key : (pieces_of t).of_key ≡ None
  pub lie : HoldsBelow (PiecesWithin a b) t
  pub sound : HoldsBelow (IsSound b) t
  pub apart : (v w : Piece) → ValueBelow t v → ValueBelow t w → Apart v w

pub settled_wider : (a b c d : ℕ) (t : Tree) → a ≤ c → d ≤ b → IsSettled a b t → IsSettled c d t
settled_wider a b c d t above below settled = record {
  no_key = settled.no_key;
  lie = holds_weaker (pieces_wider a b c d above below) settled.lie;
  sound = holds_weaker (sound_later d b below) settled.sound;
  apart = settled.apart;
}

-- the elements of an array, so far
pub record AreSettled (a b : ℕ) (ts : Trees) : Type 0 where
  pub each : (i : ℕ) (x : Tree) → get_tree i ts ≡ Some x → IsSettled a b x
  pub order : InOrder EndsBefore ts

-- the members of an inline table, so far
pub record MembersSettled (a b : ℕ) (bs : Branches) : Type 0 where
  pub lie : HoldsIn (PiecesWithin a b) bs
  pub sound : HoldsIn (IsSound b) bs
  pub apart : (v w : Piece) → ValueIn bs v → ValueIn bs w → Apart v w
