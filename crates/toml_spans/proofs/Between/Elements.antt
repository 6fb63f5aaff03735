-- Elements that were read one after the other, and what stands between them.
use Rattle.std.proofs.Common.{◌≡◌, ℕ, zero, suc, false, ◌==◌, List, ◌∷◌, length, drop, Option, Some, None, sym, ap, ◌∙◌, rules}
use Rattle.std.proofs.lemmas.Option.{none-some, same_Some}
use Rattle.toml_parser.specs.Lexical.{first, skip_blank}
use Rattle.toml.specs.Parse.{after_element}
use Rattle.toml_spans.specs.Entry.{array, after_key, get_tree, inline, no_trees, Piece, piece, pieces_of, push_tree, scalar, table, tables, Tree, tree, Trees}
use Rattle.toml_spans.proofs.Order.Keys.{holds_after_key}
use Rattle.toml_spans.proofs.Order.Changes.{IsKept}
use Rattle.toml_spans.proofs.Order.Holds.{holds_here, HoldsBelow, no_values_more}
use Rattle.toml_spans.proofs.Trees.Rests.{rest_element, rest_itself, rest_on}
use Rattle.toml_spans.proofs.Trees.Stands.{IsRest}

-- an element after a bracket or a comma, and what stands after it, of which more holds
pub record IsElement (text : List ℕ) (t : Tree) (More : List ℕ → Type 0) : Type 0 where
  pub behind : List ℕ
  pub value : (pieces_of t).of_value ≡ Some (piece (skip_blank text) behind)
  pub left : IsRest text behind
  pub rest : List ℕ
  pub after : after_element 93 behind ≡ Some rest
  pub more : More rest

-- elements from a bracket on, up to this rest
abbrev pub AreElements : List ℕ → Trees → List ℕ → Type 0
AreElements text no_trees end = text ≡ end
AreElements text (tree t ts) end = IsElement text t (λ rest. AreElements rest ts end)

-- one more
pub elements_more : (text between end : List ℕ) (ts : Trees) (t : Tree) → AreElements text ts between → IsElement between t (λ rest. rest ≡ end) → AreElements text (push_tree ts t) end
elements_more text between end no_trees t same next = rw (same) next
elements_more text between end (tree u ts) t are next = record {
  behind = are.behind;
  value = are.value;
  left = are.left;
  rest = are.rest;
  after = are.after;
  more = elements_more are.rest between end ts t are.more next;
}

-- what stands where an element has been read, and a comma, if there is one: the next element, or nothing more
abbrev pub Follows : List ℕ → Option Tree → List ℕ → Type 0
Follows rest None end = rest ≡ end
Follows rest (Some t) end = (behind : List ℕ) × ((pieces_of t).of_value ≡ Some (piece (skip_blank rest) behind))

-- the element at an index
pub record IsReached (text : List ℕ) (t : Tree) (after : Option Tree) (end : List ℕ) : Type 0 where
  pub before : List ℕ
  pub from : IsRest text before
  pub here : IsElement before t (λ rest. Follows rest after end)

-- what the first element is
pub follows : (text end : List ℕ) (ts : Trees) → AreElements text ts end → Follows text (get_tree zero ts) end
follows text end no_trees same = same
follows text end (tree t ts) are = (are.behind, are.value)

-- each one stands so
pub reached : (text end : List ℕ) (ts : Trees) (i : ℕ) (t : Tree) → AreElements text ts end → get_tree i ts ≡ Some t → IsReached text t (get_tree (suc i) ts) end
reached text end no_trees i t are is = absurd (none-some t is)
reached text end (tree u ts) zero t are is = record {
  before = text;
  from = rest_itself text;
  here = record {
    behind = are.behind;
    value = ap (λ (w : Tree). (pieces_of w).of_value) (sym (same_Some u t is)) ∙ are.value;
    left = are.left;
    rest = are.rest;
    after = are.after;
    more = follows are.rest end ts are.more;
  };
}
reached text end (tree u ts) (suc i) t are is =
    let on = reached are.rest end ts i t are.more is in
    record { before = on.before; from = rest_on (rest_on are.left (rest_element 93 are.behind are.rest are.after)) on.from; here = on.here }

-- ---- trees

-- what stands between the elements of an array with this piece
pub record IsSpaced (text : List ℕ) (v : Piece) (ts : Trees) : Type 0 where
  pub inside : List ℕ
  pub from : IsRest text (91 ∷ inside)
  pub begins : v.0 ≡ length (91 ∷ inside)
  pub end : List ℕ
  pub are : AreElements inside ts end
  pub within : IsRest inside end
  pub closes : first (skip_blank end) ≡ 93
  pub ends : v.1 ≡ length (drop 1 (skip_blank end))

-- a value with this piece begins with no bracket
pub record BeginsOther (text : List ℕ) (v : Piece) : Type 0 where
  pub start : List ℕ
  pub from : IsRest text start
  pub begins : v.0 ≡ length start
  pub other : (first start == 91) ≡ false

-- Elements of an array that is written as a value stand so, and others have no value. What begins with a bracket is an array.
abbrev pub ElementsSpaced : List ℕ → Tree → Type 0
ElementsSpaced text (scalar k v) = BeginsOther text v
ElementsSpaced text (array k v ts) = IsSpaced text v ts
ElementsSpaced text (inline k v bs) = BeginsOther text v
ElementsSpaced text (table k o bs) = Unit {0}
ElementsSpaced text (tables k done last bs) = (i : ℕ) (x : Tree) → get_tree i done ≡ Some x → (pieces_of x).of_value ≡ None

-- tables keep it
pub spaced_kept : (text : List ℕ) → IsKept (ElementsSpaced text) (ElementsSpaced text) (λ k. Unit {0}) (λ k. Unit {0})
spaced_kept text = record {
  weaker = λ t is. is;
  new_table = λ k o bs fresh. tt;
  new_tables = λ k fresh i x is. absurd (none-some x is);
  other_table = λ k o p bs cs is. tt;
  other_tables = λ k done last bs cs none. none;
  one_more = λ k l done last bs fresh none. no_values_more done last bs none;
}

-- so does a key in front
spaced_here : (text : List ℕ) (k : Piece) (t : Tree) → ElementsSpaced text t → ElementsSpaced text (after_key k t)
spaced_here text k t is = search rules

pub spaced_after : (text : List ℕ) (k : Piece) (t : Tree) → HoldsBelow (ElementsSpaced text) t → HoldsBelow (ElementsSpaced text) (after_key k t)
spaced_after text k t holds = holds_after_key (ElementsSpaced text) k t (spaced_here text k t (holds_here holds)) holds
