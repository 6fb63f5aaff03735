-- Values are read into trees as `toml` reads them, and each tree stands where its pieces are.
use Rattle.std.proofs.Common.{◌≡◌, ℕ, zero, suc, ◌≤◌, ◌==◌, List, length, drop, Some, None, refl, ap, ◌∙◌, inl, inr, arith, rules}
use Rattle.std.proofs.lemmas.Bool.{cases_Bool}
use Rattle.toml_parser.specs.Lexical.{first, Read, skip_blank}
use Rattle.toml_parser.specs.Strings.{Key}
use Rattle.toml.proofs.Turns.{val_array, val_atom, val_table}
use Rattle.toml.specs.Data.{array as array_data, Data, Items, Members, no_items, push_item, table as table_data}
use Rattle.toml.specs.Parse.{after_element, atom, items, keyval, members, read_map, val}
use Rattle.toml.specs.Tables.{close, key_value, no_nodes, Nodes, value}
use Rattle.toml_spans.specs.Entry.{array, after_key, Branches, inline, no_branches, no_trees, Piece, piece, pieces_of, push_tree, scalar, Tree, Trees}
use Rattle.toml_spans.specs.Key.{Parts}
use Rattle.toml_spans.specs.Table.{pair}
use Rattle.toml_spans.specs.Value.{element_trees, member_trees, pair_tree, placed, value_tree}
use Rattle.toml_spans.proofs.Alone.{value_alone}
use Rattle.toml_spans.proofs.Turns.{value_level, value_scalar}
use Rattle.toml_spans.proofs.Trees.Alike.{Alike, alike_if, alike_made, alike_map, alike_same, alike_then, either, neither}
use Rattle.toml_spans.proofs.Trees.Found.{trees_pushed}
use Rattle.toml_spans.proofs.Trees.Keys.{equals_read, key_follows}
use Rattle.toml_spans.proofs.Trees.Rests.{rest_blank, rest_dropped, rest_element, rest_on, rest_within}
use Rattle.toml_spans.proofs.Trees.Stands.{AreBranches, AreTrees, IsBranch, IsPlain, IsRest, IsTree, KeyStands, LeadsTo, ValueStands}
use Rattle.toml_spans.proofs.Trees.Tables.{put_grows, ReadAlike}

-- what is neither an array nor a table
atom_plain : (text : List ℕ) (d : Data) (rest : List ℕ) → atom text ≡ Some (d, rest) → IsPlain d
unfolding atom
atom_plain text d rest is = search rules

-- a value after its key
pub after_stands : (whole k : List ℕ) (p v : Piece) (t : Tree) (d : Data) → (pieces_of t).of_value ≡ Some v → IsTree whole k t (value d) → KeyStands whole k p (LeadsTo v) → IsBranch whole k (after_key p t) (value d)
after_stands whole k p v t d at is stands = search rules

-- what is read of a value
pub record ReadTree (whole text : List ℕ) (r : Tree × List ℕ) (s : Data × List ℕ) : Type 0 where
  pub rest_same : s.1 ≡ r.1
  pub left : IsRest text r.1
  pub at : (pieces_of r.0).of_value ≡ Some (piece text r.1)
  pub stands : (k : List ℕ) → IsTree whole k r.0 (value s.0)

-- what is read of a key and its value
abbrev pub ReadPair : List ℕ → List ℕ → (Parts × Tree) × List ℕ → (Key × Data) × List ℕ → Type 0
ReadPair whole text r s = ReadAlike whole text r.0.0 (pair r.0.1) r.1 s.0.0 (key_value s.0.1) s.1

-- of the elements of an array
record ReadElements (whole start : List ℕ) (r : Trees × List ℕ) (s : Items × List ℕ) : Type 0 where
  rest_same : s.1 ≡ r.1
  left : IsRest start r.1
  are : (k : List ℕ) → AreTrees whole k r.0 s.0

-- of an inline table
record ReadMembers (whole start : List ℕ) (r : Branches × List ℕ) (s : Members × List ℕ) : Type 0 where
  rest_same : s.1 ≡ r.1
  left : IsRest start r.1
  nodes : Nodes
  closed : s.0 ≡ close nodes
  are : AreBranches whole r.0 nodes

module _ (whole : List ℕ) where
  -- what is read here is what is read there
  abbrev pub Reads : (List ℕ → Read Tree) → (List ℕ → Read Data) → Type 0
  Reads tree_of data_of = (text : List ℕ) → IsRest whole text → Alike (ReadTree whole text) (tree_of text) (data_of text)

  module _ (tree_of : List ℕ → Read Tree) (data_of : List ℕ → Read Data) (reads : Reads tree_of data_of) where
    -- a key and its value
    pub pair_read : (text : List ℕ) → IsRest whole text → Alike (ReadPair whole text) (pair_tree tree_of text) (keyval data_of text)
    pair_read text from =
        alike_then _ _ (equals_read whole text from) (λ x y _ _ both.
        let key = both.0 in
        rw key.rest_same (alike_map _ _ (reads x.1 (rest_on from key.left)) (λ u v _ _ read. record {
          key_same = key.key_same;
          rest_same = read.rest_same;
          before = key.before;
          defines = after_stands whole x.0.1.0 x.0.1.1 (piece x.1 u.1) u.0 v.0 read.at (read.stands x.0.1.0)
              (key_follows key.last (λ behind after. record { rest = after.0; sign = after.1; begins = ap length after.2 }));
          left = rest_on key.left read.left;
          shorter = omega (arith, both.1, rest_within read.left);
        })))

    -- the elements of an array
    elements_read : (start : List ℕ) → IsRest whole start → (n : ℕ) (found : Trees) (found_there : Items) (text : List ℕ) → IsRest start text → ((k : List ℕ) → AreTrees whole k found found_there)
        → Alike (ReadElements whole start) (element_trees tree_of n found text) (items data_of n found_there text)
    unfolding element_trees items
    elements_read start from zero found found_there text on are = neither refl refl
    elements_read start from (suc n) found found_there text on are =
        alike_if (first (skip_blank text) == 93) _ _ _ _
        (λ _. either (found, drop 1 (skip_blank text)) (found_there, drop 1 (skip_blank text)) refl refl (record { rest_same = refl; left = rest_on (rest_on on (rest_blank text)) (rest_dropped 1 (skip_blank text)); are = are }))
        (λ _. alike_then _ _ (reads (skip_blank text) (rest_on from (rest_on on (rest_blank text)))) (λ u v _ _ read. rw read.rest_same (alike_same (after_element 93 u.1) _ _ (λ next is.
        elements_read start from n (push_tree found u.0) (push_item found_there v.0) next (rest_on (rest_on (rest_on on (rest_blank text)) read.left) (rest_element 93 u.1 next is))
        (λ k. trees_pushed whole k found found_there u.0 v.0 (are k) (value v.0, refl, read.stands k))))))

    -- the pairs of an inline table
    members_read : (start : List ℕ) → IsRest whole start → (n : ℕ) (found : Branches) (found_there : Nodes) (text : List ℕ) → IsRest start text → AreBranches whole found found_there
        → Alike (ReadMembers whole start) (member_trees tree_of n found text) (members data_of n found_there text)
    unfolding member_trees members
    members_read start from zero found found_there text on are = neither refl refl
    members_read start from (suc n) found found_there text on are =
        let begin_on = rest_on on (rest_blank text) in
        alike_if (first (skip_blank text) == 125) _ _ _ _
        (λ _. either (found, drop 1 (skip_blank text)) (close found_there, drop 1 (skip_blank text)) refl refl (record { rest_same = refl; left = rest_on begin_on (rest_dropped 1 (skip_blank text)); nodes = found_there; closed = refl; are = are }))
        (λ _. alike_then _ _ (pair_read (skip_blank text) (rest_on from begin_on)) (λ u v _ _ read. rw (read.key_same, read.rest_same)
        (alike_then _ _ (put_grows whole u.0.0 u.0.1 v.0.1 read.before read.defines found found_there are) (λ more more_there _ _ grown. alike_same (after_element 125 u.1) _ _ (λ next is.
        members_read start from n more more_there next (rest_on (rest_on begin_on read.left) (rest_element 125 u.1 next is)) grown)))))

  -- a value stands where it is read
  value_stands : (depth : ℕ) (text rest : List ℕ) (d : Data) → depth ≤ 80 → IsRest whole text → val depth text ≡ Some (d, rest) → ValueStands whole (piece text rest) d × IsRest text rest
  value_stands depth text rest d within from is =
      let (front, cut, reads) = value_alone depth text rest d within is in
      (record { front = front; behind = rest; at = record { from = rw cut at from; begins = ap length cut; ends = refl }; reads = reads }, record { front = front; cut = cut })

  -- so does one of several parts, of which this is so
  whole_read : {A B : Type 0} {P : A × List ℕ → B × List ℕ → Type 0} (depth : ℕ) (text : List ℕ) (make : Piece → A → Tree) (data_of : B → Data) (o : Read A) (p : Read B)
      → depth ≤ 80 → IsRest whole text → val depth text ≡ read_map data_of p → Alike P o p
      → ((u : A × List ℕ) (v : B × List ℕ) → P u v → (v.1 ≡ u.1) × IsRest text u.1 × ((pieces_of (make (piece text u.1) u.0)).of_value ≡ Some (piece text u.1))
      × ((k : List ℕ) → ValueStands whole (piece text u.1) (data_of v.0) → IsTree whole k (make (piece text u.1) u.0) (value (data_of v.0))))
      → Alike (ReadTree whole text) (placed make text o) (read_map data_of p)
  whole_read depth text make data_of o p within from there parts on = alike_map _ _ parts (λ u v _ is read.
      let (same, left, at, tree) = on u v read in
      let told = there ∙ ap (read_map data_of) is ∙ ap (λ (rest : List ℕ). Some (data_of v.0, rest)) same in
      let stands = (value_stands depth text u.1 (data_of v.0) within from told).0 in
      record { rest_same = same; left = left; at = at; stands = λ k. tree k stands })

  -- a string or a word
  atom_read : (depth : ℕ) (text : List ℕ) → depth ≤ 80 → IsRest whole text → val depth text ≡ atom text → Alike (ReadTree whole text) (placed (λ v d. scalar None v) text (atom text)) (atom text)
  atom_read depth text within from same = alike_made (atom text) _ (λ read is.
      let (stands, left) = value_stands depth text read.1 read.0 within from (same ∙ is) in
      record { rest_same = refl; left = left; at = refl; stands = λ k. (tt, stands, atom_plain text read.0 read.1 is) })

  -- where no array and no inline table may stand any more
  tree_zero : (text : List ℕ) → (value_tree zero text ≡ placed (λ v d. scalar None v) text (atom text)) × (val zero text ≡ atom text)
  unfolding value_tree val
  tree_zero text = (refl, refl)

  -- a value
  pub value_read : (depth : ℕ) → depth ≤ 80 → Reads (value_tree depth) (val depth)
  value_read zero within text from = rw ((tree_zero text).0, (tree_zero text).1) (atom_read zero text within from (tree_zero text).1)
  value_read (suc depth) within text from =
      let read = value_read depth (omega (arith, within)) in
      elim (cases_Bool (first text == 91)) [
        | inl opens ↦ rw (value_level depth text, opens, val_array depth text opens) (whole_read (suc depth) text (λ v ts. array None v ts) array_data _ _ within from (val_array depth text opens)
            (elements_read (value_tree depth) (val depth) read text from (length text) no_trees no_items (drop 1 text) (rest_dropped 1 text) (λ k. tt))
            (λ u v read. (read.rest_same, read.left, refl, λ k stands. (tt, stands, read.are k))))
        | inr other ↦ elim (cases_Bool (first text == 123)) [
          | inl opens ↦ rw (value_level depth text, other, opens, val_table depth text other opens) (whole_read (suc depth) text (λ v bs. inline None v bs) table_data _ _ within from (val_table depth text other opens)
              (members_read (value_tree depth) (val depth) read text from (length text) no_branches no_nodes (drop 1 text) (rest_dropped 1 text) tt)
              (λ u v read. (read.rest_same, read.left, refl, λ k stands. (tt, stands, (read.nodes, read.closed, read.are)))))
          | inr plain ↦ rw (value_scalar (suc depth) text other plain, val_atom (suc depth) text other plain)
              (atom_read (suc depth) text within from (val_atom (suc depth) text other plain))
        ]
      ]
