-- Entries and members beside the trees and the branches that they are seen as.
use Rattle.std.proofs.Common.{◌≡◌, ℕ, cond, List, [], ◌∷◌, ◌++◌, map, Option, Some, option_map, String, Vec, BTreeMap, Global, MutBor, Ordering, string_bytes, nat_cmp, is_eq, refl, sym, ap, ◌∙◌, rules, inl, inr}
use Rattle.std.proofs.lemmas.Bool.{cases_Bool}
use Rattle.std.specs.BTreeMap.{get_by, insert_entry, is_at}
use Rattle.std.specs.Cmp.Lexicographic.{slice_cmp}
use Rattle.std.specs.Map.{lookup, set_value}
use Rattle.std.specs.Option.{option_copied_mut}
use Rattle.std.specs.Ordering.{match_ordering}
use Rattle.std.specs.String.{string_cmp}
use Rattle.toml_spans.specs.Entry.{array, get_branch, inline, insert_branch, push_tree, replace_branch, scalar, table, tables, tree, Tree}
use Rattle.toml_spans.specs.EntryViews.{branches_of, origin_of, pairs_of, piece_of, tree_of, trees_from, trees_of}
use Rattle.toml_spans.specs.declared.entry.Entry.{Array, Entry, Inline, Scalar, Table, Tables, the_lemmas}
use Rattle.toml_spans.specs.declared.entry.Origin.{Origin}
use Rattle.toml_spans.specs.declared.entry.Piece.{Piece}

-- what each kind of entry is seen as
pub tree_of-Scalar : (k : Option Piece) (v : Piece) → tree_of (Scalar k v) ≡ scalar (option_map piece_of k) (piece_of v)
tree_of-Scalar k v = search (rules, the_lemmas)

pub tree_of-Array : (k : Option Piece) (v : Piece) (es : Vec Entry Global) → tree_of (Array k v es) ≡ array (option_map piece_of k) (piece_of v) (trees_of es)
tree_of-Array k v es = search (rules, the_lemmas)

pub tree_of-Inline : (k : Option Piece) (v : Piece) (m : BTreeMap (String Global) Entry) → tree_of (Inline k v m) ≡ inline (option_map piece_of k) (piece_of v) (branches_of m)
tree_of-Inline k v m = search (rules, the_lemmas)

pub tree_of-Table : (k : Piece) (origin : Origin) (m : BTreeMap (String Global) Entry) → tree_of (Table k origin m) ≡ table (piece_of k) (origin_of origin) (branches_of m)
tree_of-Table k origin m = search (rules, the_lemmas)

pub tree_of-Tables : (k : Piece) (done : Vec Entry Global) (last : Piece) (m : BTreeMap (String Global) Entry) → tree_of (Tables k done last m) ≡ tables (piece_of k) (trees_of done) (piece_of last) (branches_of m)
tree_of-Tables k done last m = search (rules, the_lemmas)

-- one more element at the end
pub trees_from-push : (es : List Entry) (e : Entry) → trees_from (map tree_of (es ++ e ∷ [])) ≡ push_tree (trees_from (map tree_of es)) (tree_of e)
trees_from-push [] e = refl
trees_from-push (x ∷ es) e = ap (tree (tree_of x)) (trees_from-push es e)

-- ---- look-ups and changes of a map

abbrev pub Pair : Type 0
Pair = String Global × Entry

-- what the map finds at a text
abbrev pub at_text : List ℕ → String Global → Ordering
at_text k x = slice_cmp nat_cmp k (string_bytes x)

found_or : (o : Ordering) (x : Entry) (rest : Option Entry) (d : Option Tree) → option_map tree_of rest ≡ d → option_map tree_of (cond (is_eq o) (Some x) rest) ≡ cond (is_eq o) (Some (tree_of x)) d
found_or o x rest d e = search rules

pub tree_of-lookup : (k : List ℕ) (es : List Pair) → option_map tree_of (lookup (is_at (at_text k)) es) ≡ get_branch k (pairs_of es)
tree_of-lookup k [] = refl
tree_of-lookup k (e ∷ es) = found_or (at_text k e.0) e.1 _ _ (tree_of-lookup k es)

-- what writing through the map leaves
pairs_of-set_value : (k : List ℕ) (es : List Pair) (w : Entry) → pairs_of (set_value (is_at (at_text k)) es w) ≡ replace_branch k (tree_of w) (pairs_of es)
pairs_of-set_value k [] w = refl
pairs_of-set_value k (e ∷ es) w =
    elim (cases_Bool (is_eq (at_text k e.0))) [
      | inl same ↦ rw same
      | inr other ↦ rw (other, pairs_of-set_value k es w)
    ]

match_pairs : (o : Ordering) (a b c : List Pair) → pairs_of (match_ordering o a b c) ≡ match_ordering o (pairs_of a) (pairs_of b) (pairs_of c)
match_pairs o a b c = search rules

pub pairs_of-insert_entry : (es : List Pair) (k : String Global) (x : Entry) → pairs_of (insert_entry string_cmp es k x) ≡ insert_branch (string_bytes k) (tree_of x) (pairs_of es)
pairs_of-insert_entry [] k x = refl
pairs_of-insert_entry (e ∷ es) k x = match_pairs (string_cmp k e.0) _ _ _ ∙ rw (pairs_of-insert_entry es k x)

-- what `get_mut` found under a key with this text
pub looked_up : (k s : List ℕ) (m : BTreeMap (String Global) Entry) (r : Option (MutBor Entry)) → s ≡ k → option_copied_mut r ≡ get_by (at_text s) m
    → get_branch k (branches_of m) ≡ option_map tree_of (option_copied_mut r)
looked_up k s m r same value = rw (← same) (sym (tree_of-lookup s m.entries) ∙ ap (option_map tree_of) (sym value))

-- what writing through it leaves
pub written_at : (k s : List ℕ) (m n : BTreeMap (String Global) Entry) (w : Entry) → s ≡ k → n.entries ≡ set_value (is_at (at_text s)) m.entries w
    → branches_of n ≡ replace_branch k (tree_of w) (branches_of m)
written_at k s m n w same e = rw (← same) (ap pairs_of e ∙ pairs_of-set_value s m.entries w)
