-- Values of a text (TOML 1.1, "Array" and "Inline Table") with the pieces of all that stands in
-- them.
use Rattle.std.specs.Prelude.{ℕ, zero, suc, ◌==◌, if◌then◌else◌, List, length, drop, Some, None, option_and_then, option_map}
use Rattle.toml_parser.specs.Lexical.{equals, first, left_brace, left_bracket, Read, right_brace, right_bracket, skip_blank, skip_ws}
use Rattle.toml.specs.Parse.{after_byte, after_element, atom, read_map}
use Rattle.toml_spans.specs.Entry.{array, Branches, inline, no_branches, no_trees, Piece, piece, push_tree, scalar, Tree, Trees}
use Rattle.toml_spans.specs.Key.{Parts, parts}
use Rattle.toml_spans.specs.Table.{put}

-- what was read of a text, from its piece
abbrev pub placed : {A B : Type 0} → (Piece → A → B) → List ℕ → Read A → Read B
placed make text read = option_map (λ p. (make (piece text p.1) p.0, p.1)) read

-- a key and `=`, with the white space around that
unfoldable pub parts_equals : List ℕ → Read Parts
parts_equals text = option_and_then
    (λ k. option_map (λ rest. (k.0, skip_ws rest)) (after_byte equals k.1)) (parts text)

module _ (value_tree : List ℕ → Read Tree) where
  -- a key and its value
  abbrev pub pair_tree : List ℕ → Read (Parts × Tree)
  pair_tree text = option_and_then (λ k. read_map (λ t. (k.0, t)) (value_tree k.1))
      (parts_equals text)

  -- the rest of an array, of at most n elements, after those found
  unfoldable pub element_trees : ℕ → Trees → List ℕ → Read Trees
  element_trees zero found text = None
  element_trees (suc n) found text =
      let start = skip_blank text in
      if first start == right_bracket then Some (found, drop 1 start)
      else option_and_then (λ v. option_and_then (element_trees n (push_tree found v.0))
      (after_element right_bracket v.1)) (value_tree start)

  -- the rest of an inline table
  unfoldable pub member_trees : ℕ → Branches → List ℕ → Read Branches
  member_trees zero found text = None
  member_trees (suc n) found text =
      let start = skip_blank text in
      if first start == right_brace then Some (found, drop 1 start)
      else option_and_then (λ e. option_and_then
      (λ more. option_and_then (member_trees n more) (after_element right_brace e.1))
      (put e.0.0 e.0.1 found)) (pair_tree start)

-- a value, with arrays and inline tables at most this deep
unfoldable pub value_tree : ℕ → List ℕ → Read Tree
value_tree zero text = placed (λ v d. scalar None v) text (atom text)
value_tree (suc depth) text =
    if first text == left_bracket then placed (λ v ts. array None v ts) text
    (element_trees (value_tree depth) (length text) no_trees (drop 1 text))
    else if first text == left_brace then placed (λ v bs. inline None v bs) text
    (member_trees (value_tree depth) (length text) no_branches (drop 1 text))
    else placed (λ v d. scalar None v) text (atom text)
