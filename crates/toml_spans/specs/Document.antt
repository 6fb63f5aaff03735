-- The statements of a document (TOML 1.1), one after the other, and what stands where after each.
use Rattle.std.specs.Prelude.{◌≡◌, ℕ, ◌==◌, ◌&&◌, if◌then◌else◌, List, [], ◌∷◌, ◌++◌, drop, slice_index, Option, Some, option_and_then, option_map}
use Rattle.toml_parser.specs.Lexical.{first, left_bracket, Read, right_bracket, skip_blank, skip_ws}
use Rattle.toml_parser.specs.Strings.{recursion_limit}
use Rattle.toml.specs.Parse.{after_byte, ends_line, read_map, skip_bom}
use Rattle.toml.specs.Tables.{implicit}
use Rattle.toml_spans.specs.Entry.{Branches, no_branches}
use Rattle.toml_spans.specs.Key.{Part, Parts, parts}
use Rattle.toml_spans.specs.Table.{along, array_table, at_part, Definition, pair, put, std_table}
use Rattle.toml_spans.specs.Value.{pair_tree, value_tree}

-- a statement: a key with what it defines
abbrev pub Statement : Type 0
Statement = Parts × Definition

-- the key of a header and its first closing bracket
unfoldable pub header_parts : List ℕ → Read Parts
header_parts text = option_and_then
    (λ k. option_map (λ rest. (k.0, rest)) (after_byte right_bracket k.1)) (parts (skip_ws text))

-- the statement that a text begins with: a header or a pair
unfoldable pub statement : List ℕ → Read Statement
statement text =
    if first text == left_bracket && slice_index text 1 == left_bracket
    then option_and_then
    (λ k. option_map (λ rest. ((k.0, array_table), rest)) (after_byte right_bracket k.1))
    (header_parts (drop 2 text))
    else if first text == left_bracket
    then read_map (λ k. (k, std_table)) (header_parts (drop 1 text))
    else read_map (λ p. (p.0, pair p.1)) (pair_tree (value_tree recursion_limit) text)

-- the statement that a text begins with, which has its line to itself
unfoldable pub statement_line : List ℕ → Read Statement
statement_line text = option_and_then
    (λ s. if ends_line (skip_ws s.1) then Some s else Option.None) (statement text)

-- what stands where after some statements, and the key of the last header
pub record Walk : Type 0 where
  pub root : Branches
  pub section : List Part

-- the walk after a header, which starts from the root
abbrev pub walk_to : Branches → Parts → Definition → Option Walk
walk_to before key what = option_map
    (λ root. record { root = root; section = key.0 ++ key.1 ∷ [] })
    (along implicit key.0 (at_part key.1 what) before)

-- the walk after one more statement: a pair goes into the table of the last header
abbrev pub walk_on : Walk → Parts → Definition → Option Walk
walk_on walk key (pair t) = option_map (λ root. record { root = root; section = walk.section })
    (along implicit walk.section (put key t) walk.root)
walk_on walk key what = walk_to walk.root key what

-- the walk before the first statement
abbrev pub no_walk : Walk
no_walk = record { root = no_branches; section = [] }

-- the walk over the statements of a text, up to where this rest of it begins
pub data Walks (text : List ℕ) : Walk → List ℕ → Type 0 where
  begin : Walks text no_walk (skip_bom text)
  go_on : (walk next : Walk) (rest after : List ℕ) (s : Statement) → Walks text walk rest
      → statement_line (skip_blank rest) ≡ Some (s, after) → walk_on walk s.0 s.1 ≡ Some next
      → Walks text next after

-- what stands where after all statements of a text
pub record IsWalked (text : List ℕ) (root : Branches) : Type 0 where
  pub section : List Part
  pub rest : List ℕ
  pub walks : Walks text (record { root = root; section = section }) rest
  pub over : skip_blank rest ≡ []
