-- What stands where in a text, as its own words are read: keys, values and the trees of them.
use Rattle.std.proofs.Common.{◌≡◌, ℕ, false, ◌==◌, List, [], ◌++◌, length, Option, Some, None, IsSome}
use Rattle.toml_parser.specs.Lexical.{equals, first, skip_ws}
use Rattle.toml_parser.specs.Strings.{key}
use Rattle.toml.specs.Data.{array as array_data, Data, item, Items, no_items, table as table_data}
use Rattle.toml.specs.Parse.{after_byte, parse_value}
use Rattle.toml.specs.Tables.{close, close_node, no_nodes, Node, node, Nodes, open_array, open_table, value}
use Rattle.toml_spans.specs.Entry.{array, branch, Branches, inline, no_branches, no_trees, Piece, pieces_of, scalar, table, tables, Tree, tree, Trees}

-- the rest of a text
pub record IsRest (whole rest : List ℕ) : Type 0 where
  pub front : List ℕ
  pub cut : whole ≡ front ++ rest

-- a piece of a text is this front of what stands from there on, with that after it
pub record IsCutOut (text : List ℕ) (p : Piece) (front behind : List ℕ) : Type 0 where
  pub from : IsRest text (front ++ behind)
  pub begins : p.0 ≡ length (front ++ behind)
  pub ends : p.1 ≡ length behind

-- a key that is read alone from its piece, after which this follows
pub record KeyStands (text k : List ℕ) (p : Piece) (Follows : List ℕ → Type 0) : Type 0 where
  pub front : List ℕ
  pub behind : List ℕ
  pub at : IsCutOut text p front behind
  pub reads : key front ≡ Some (([], k), [])
  pub follows : Follows behind

-- no `=` follows
abbrev pub NoEquals : List ℕ → Type 0
NoEquals behind = (first (skip_ws behind) == equals) ≡ false

-- `=` follows, and a value
pub record LeadsTo (v : Piece) (behind : List ℕ) : Type 0 where
  pub rest : List ℕ
  pub sign : after_byte equals (skip_ws behind) ≡ Some rest
  pub begins : v.0 ≡ length (skip_ws rest)

-- the key before a value, if there is one
abbrev pub KeyBefore : List ℕ → List ℕ → Piece → Option Piece → Type 0
KeyBefore text k v None = Unit {0}
KeyBefore text k v (Some p) = KeyStands text k p (LeadsTo v)

-- a value that is read alone from its piece
pub record ValueStands (text : List ℕ) (v : Piece) (d : Data) : Type 0 where
  pub front : List ℕ
  pub behind : List ℕ
  pub at : IsCutOut text v front behind
  pub reads : parse_value front ≡ Some d

-- neither an array nor a table
abbrev pub IsPlain : Data → Type 0
IsPlain (array_data ds) = ⊥
IsPlain (table_data ms) = ⊥
IsPlain d = Unit {0}

-- the tree has a key
abbrev pub IsKeyed : Tree → Type 0
IsKeyed t = IsSome (pieces_of t).of_key

-- The tree of what stands at a key, the tree of each element of an array, and those of a table's
-- keys, beside what `toml` holds there.
abbrev mutual
  pub IsTree : List ℕ → List ℕ → Tree → Node → Type 0
  IsTree text k (scalar p v) (value d) = KeyBefore text k v p × ValueStands text v d × IsPlain d
  IsTree text k (array p v ts) (value (array_data ds)) = KeyBefore text k v p × ValueStands text v (array_data ds) × AreTrees text k ts ds
  IsTree text k (inline p v bs) (value (table_data ms)) = KeyBefore text k v p × ValueStands text v (table_data ms) × ((ns : Nodes) × (ms ≡ close ns) × AreBranches text bs ns)
  IsTree text k (table p origin bs) (open_table made ns) = KeyStands text k p NoEquals × (origin ≡ made) × AreBranches text bs ns
  IsTree text k (tables p done last bs) (open_array ds ns) = KeyStands text k p NoEquals × KeyStands text k last NoEquals × AreTrees text k done ds × AreBranches text bs ns
  IsTree text k t x = ⊥

  pub AreTrees : List ℕ → List ℕ → Trees → Items → Type 0
  AreTrees text k no_trees no_items = Unit {0}
  AreTrees text k (tree t ts) (item d ds) = ((x : Node) × (d ≡ close_node x) × IsTree text k t x) × AreTrees text k ts ds
  AreTrees text k ts ds = ⊥

  pub AreBranches : List ℕ → Branches → Nodes → Type 0
  AreBranches text no_branches no_nodes = Unit {0}
  AreBranches text (branch k t bs) (node l x ns) = (k ≡ l) × IsTree text k t x × IsKeyed t × AreBranches text bs ns
  AreBranches text bs ns = ⊥

-- a tree of what was closed
abbrev pub IsTreeOf : List ℕ → List ℕ → Tree → Data → Type 0
IsTreeOf text k t d = (x : Node) × (d ≡ close_node x) × IsTree text k t x

-- a tree with a key
abbrev pub IsBranch : List ℕ → List ℕ → Tree → Node → Type 0
IsBranch text k t x = IsTree text k t x × IsKeyed t
