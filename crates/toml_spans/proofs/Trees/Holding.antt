-- What holds of each value that is read of a text, where it is made of values of which it holds.
use Rattle.std.proofs.Common.{◌≡◌, ℕ, zero, suc, ◌≤◌, true, false, ◌==◌, List, drop, length, Some, None, arith}
use Rattle.toml.specs.Data.{Data}
use Rattle.toml.specs.Parse.{after_element, atom}
use Rattle.toml_parser.specs.Lexical.{first, Read, skip_blank}
use Rattle.toml_spans.specs.Entry.{array, Branches, inline, no_branches, no_trees, piece, pieces_of, push_tree, scalar, Tree, Trees}
use Rattle.toml_spans.specs.Key.{Parts}
use Rattle.toml_spans.specs.Table.{put}
use Rattle.toml_spans.specs.Value.{element_trees, member_trees, pair_tree, parts_equals, placed, value_tree}
use Rattle.toml_spans.proofs.Found.{Found, found_any, found_map, found_none, found_same, found_some, found_test, found_then}
use Rattle.toml_spans.proofs.Trees.Alike.{alike_first}
use Rattle.toml_spans.proofs.Trees.Keys.{equals_left}
use Rattle.toml_spans.proofs.Trees.Rests.{rest_atom, rest_blank, rest_dropped, rest_element, rest_on}
use Rattle.toml_spans.proofs.Trees.Stands.{IsRest}
use Rattle.toml_spans.proofs.Trees.Values.{value_read}

-- a value that was read here
pub record IsRead (text s : List ℕ) (t : Tree) (rest : List ℕ) : Type 0 where
  pub from : IsRest text s
  pub left : IsRest s rest
  pub value : (pieces_of t).of_value ≡ Some (piece s rest)

-- what is read from here on, up to this rest
pub record IsUpTo (text s now : List ℕ) : Type 0 where
  pub from : IsRest text s
  pub on : IsRest s now

-- of a value from one text to another (V), of the elements so far of an array that begins in one text up to another (E),
-- and of the members so far of an inline table (M)
module _ (text : List ℕ) (V : List ℕ → Tree → List ℕ → Type 0) (E : List ℕ → Trees → List ℕ → Type 0) (M : List ℕ → Branches → List ℕ → Type 0) where
  -- it holds of words and strings, and of arrays and inline tables as they grow and end
  pub record IsHeld : Type 0 where
    pub scalars : (s rest : List ℕ) (d : Data) → IsUpTo text s rest → atom s ≡ Some (d, rest) → V s (scalar None (piece s rest)) rest
    pub no_elements : (s : List ℕ) → IsRest text s → E s no_trees (drop 1 s)
    pub elements : (s now after next : List ℕ) (found : Trees) (t : Tree) → IsUpTo text s now → E s found now
        → IsRead text (skip_blank now) t after → V (skip_blank now) t after → after_element 93 after ≡ Some next
        → E s (push_tree found t) next
    pub arrays : (s now : List ℕ) (found : Trees) → IsUpTo text s now → (first s == 91) ≡ true → E s found now
        → (first (skip_blank now) == 93) ≡ true
        → V s (array None (piece s (drop 1 (skip_blank now))) found) (drop 1 (skip_blank now))
    pub no_members : (s : List ℕ) → IsRest text s → (first s == 123) ≡ true → M s no_branches (drop 1 s)
    pub members : (s now at after next : List ℕ) (k : Parts) (found : Branches) (t : Tree) → IsUpTo text s now → M s found now
        → (first (skip_blank now) == 125) ≡ false → parts_equals (skip_blank now) ≡ Some (k, at) → IsRead text at t after
        → V at t after → after_element 125 after ≡ Some next → Found (put k t found) (λ more. M s more next)
    pub inlines : (s now : List ℕ) (found : Branches) → IsUpTo text s now → (first s == 91) ≡ false → M s found now
        → V s (inline None (piece s (drop 1 (skip_blank now))) found) (drop 1 (skip_blank now))

  -- what is read of a pair
  pub record ReadsPair (s : List ℕ) (k : Parts) (t : Tree) (rest : List ℕ) : Type 0 where
    pub at : List ℕ
    pub key : parts_equals s ≡ Some (k, at)
    pub key_left : IsRest s at
    pub value : IsRead text at t rest
    pub holds : V at t rest

  module _ (held : IsHeld) where
    module _ (read : List ℕ → Read Tree) (reads : (s : List ℕ) → IsRest text s → Found (read s) (λ p. IsRead text s p.0 p.1 × V s p.0 p.1)) where
      -- a key and its value
      pair_holds : (s : List ℕ) → IsRest text s → Found (pair_tree read s) (λ p. ReadsPair s p.0.0 p.0.1 p.1)
      pair_holds s from = found_same _ (λ k is.
          let left : IsRest s k.1 = equals_left s k.0 k.1 is in
          found_map _ (reads k.1 (rest_on from left)) (λ p both. record { at = k.1; key = is; key_left = left; value = both.0; holds = both.1 }))

      -- an array after its bracket
      elements_hold : (s : List ℕ) → (first s == 91) ≡ true → (n : ℕ) (found : Trees) (now : List ℕ) → IsUpTo text s now → E s found now
          → Found (element_trees read n found now) (λ p. V s (array None (piece s p.1) p.0) p.1)
      unfolding element_trees
      elements_hold s opens zero found now up holds = found_none
      elements_hold s opens (suc n) found now up holds =
          found_test (first (skip_blank now) == 93)
          (λ closes. found_some _ (held.arrays s now found up opens holds closes))
          (λ _. found_then _ (reads (skip_blank now) (rest_on up.from (rest_on up.on (rest_blank now)))) (λ v both. found_same _ (λ next is.
          let on = rest_on (rest_on (rest_on up.on (rest_blank now)) both.0.left) (rest_element 93 v.1 next is) in
          elements_hold s opens n (push_tree found v.0) next (record { from = up.from; on = on })
          (held.elements s now v.1 next found v.0 up holds both.0 both.1 is))))

      -- an inline table after its brace
      members_hold : (s : List ℕ) → (first s == 91) ≡ false → (n : ℕ) (found : Branches) (now : List ℕ) → IsUpTo text s now → M s found now
          → Found (member_trees read n found now) (λ p. V s (inline None (piece s p.1) p.0) p.1)
      unfolding member_trees
      members_hold s other zero found now up holds = found_none
      members_hold s other (suc n) found now up holds =
          let start_on = rest_on up.on (rest_blank now) in
          found_test (first (skip_blank now) == 125) (λ _. found_some _ (held.inlines s now found up other holds))
          (λ more. found_then _ (pair_holds (skip_blank now) (rest_on up.from start_on)) (λ e pair. found_same _ (λ grown put_in. found_same _ (λ next is.
          let on = rest_on (rest_on (rest_on start_on pair.key_left) pair.value.left) (rest_element 125 e.1 next is) in
          members_hold s other n grown next (record { from = up.from; on = on })
          ((held.members s now pair.at e.1 next e.0.0 found e.0.1 up holds more pair.key pair.value pair.holds is).each grown put_in)))))

    -- where a value stands, beside what holds of it
    with_place : (depth : ℕ) → depth ≤ 80 → (s : List ℕ) → IsRest text s → Found (value_tree depth s) (λ p. V s p.0 p.1)
        → Found (value_tree depth s) (λ p. IsRead text s p.0 p.1 × V s p.0 p.1)
    with_place depth within s from holds = found_any (λ p is.
        let read = (alike_first (value_read text depth within s from) p is).2 in
        (record { from = from; left = read.left; value = read.at }, holds.each p is))

    -- a word or a string
    scalar_holds : (s : List ℕ) → IsRest text s → Found (placed (λ v d. scalar None v) s (atom s)) (λ p. V s p.0 p.1)
    scalar_holds s from = found_map _ (found_any {o = atom s} (λ p is. is)) (λ p is.
        held.scalars s p.1 p.0 (record { from = from; on = rest_atom s p.1 p.0 is }) is)

    -- a value
    pub value_holds : (depth : ℕ) → depth ≤ 80 → (s : List ℕ) → IsRest text s → Found (value_tree depth s) (λ p. IsRead text s p.0 p.1 × V s p.0 p.1)
    unfolding value_tree
    value_holds zero within s from = with_place zero within s from (scalar_holds s from)
    value_holds (suc depth) within s from =
        let read = value_tree depth in
        let inner = value_holds depth (omega (arith, within)) in
        let inside : IsUpTo text s (drop 1 s) = record { from = from; on = rest_dropped 1 s } in
        with_place (suc depth) within s from (found_test (first s == 91)
        (λ opens. found_map _ (elements_hold read inner s opens (length s) no_trees (drop 1 s) inside (held.no_elements s from)) (λ p holds. holds))
        (λ other. found_test (first s == 123)
        (λ opens. found_map _ (members_hold read inner s other (length s) no_branches (drop 1 s) inside (held.no_members s from opens)) (λ p holds. holds))
        (λ _. scalar_holds s from)))

    -- the pair of a statement
    pub pair_value_holds : (s : List ℕ) → IsRest text s → Found (pair_tree (value_tree 80) s) (λ p. ReadsPair s p.0.0 p.0.1 p.1)
    pair_value_holds = pair_holds (value_tree 80) (value_holds 80 (omega arith))
