-- What stands where in a document: a tree of the keys and values of a text, each with its pieces.
use Rattle.std.specs.Prelude.{ℕ, zero, suc, if◌then◌else◌, List, length, Option, Some, None}
use Rattle.std.specs.Cmp.Lexicographic.{slice_cmp}
use Rattle.std.specs.Ordering.{match_ordering, nat_cmp}
use Rattle.toml.specs.Data.{same_key}
use Rattle.toml.specs.Tables.{header, Origin}
use Rattle.toml_spans.specs.Step.{follow, follow_path, index, key, PathStep}

-- a piece of a text: how many bytes stand from its beginning on, and how many after its end
abbrev pub Piece : Type 0
Piece = ℕ × ℕ

-- what was read from the front of a text, which left this rest
abbrev pub piece : List ℕ → List ℕ → Piece
piece text rest = (length text, length rest)

-- A scalar, an array and an inline table are written as one, and have the piece of that; a key
-- stands before them, but for the elements of an array. A table that headers or dotted keys made,
-- and an array that double brackets made, have the piece of their key alone. The last element of
-- the latter stands apart, with the key of its own header.
mutual
  pub data Tree : Type 0 where
    scalar : Option Piece → Piece → Tree
    array : Option Piece → Piece → Trees → Tree
    inline : Option Piece → Piece → Branches → Tree
    table : Piece → Origin → Branches → Tree
    tables : Piece → Trees → Piece → Branches → Tree

  -- the elements of an array, in their order
  pub data Trees : Type 0 where
    no_trees : Trees
    tree : Tree → Trees → Trees

  -- the keys of a table, each with its tree
  pub data Branches : Type 0 where
    no_branches : Branches
    branch : List ℕ → Tree → Branches → Branches

-- the pieces of a key and of a value, where they are written
pub record Pieces : Type 0 where
  pub of_key : Option Piece
  pub of_value : Option Piece

-- the pieces of what stands in a tree: of its key, and of its value
abbrev pub pieces_of : Tree → Pieces
pieces_of (scalar k v) = record { of_key = k; of_value = Some v }
pieces_of (array k v ts) = record { of_key = k; of_value = Some v }
pieces_of (inline k v bs) = record { of_key = k; of_value = Some v }
pieces_of (table k origin bs) = record { of_key = Some k; of_value = None }
pieces_of (tables k done last bs) = record { of_key = Some k; of_value = None }

-- a value that was read, after this key
abbrev pub after_key : Piece → Tree → Tree
after_key k (scalar _ v) = scalar (Some k) v
after_key k (array _ v ts) = array (Some k) v ts
after_key k (inline _ v bs) = inline (Some k) v bs
after_key k (table _ origin bs) = table k origin bs
after_key k (tables _ done last bs) = tables k done last bs

-- ---- look-ups

-- the tree at a key, if there is one
abbrev pub get_branch : List ℕ → Branches → Option Tree
get_branch k no_branches = None
get_branch k (branch l t bs) = if same_key k l then Some t else get_branch k bs

-- the tree at an index, if there is one
abbrev pub get_tree : ℕ → Trees → Option Tree
get_tree n no_trees = None
get_tree zero (tree t ts) = Some t
get_tree (suc n) (tree t ts) = get_tree n ts

-- the trees with one more behind them
abbrev pub push_tree : Trees → Tree → Trees
push_tree no_trees u = tree u no_trees
push_tree (tree t ts) u = tree t (push_tree ts u)

-- the elements of an array that double brackets made
abbrev pub elements : Trees → Piece → Branches → Trees
elements done last bs = push_tree done (table last header bs)

-- the tree that a step leads to, from a tree
abbrev pub tree_from : Tree → PathStep → Option Tree
tree_from (array k v ts) (index place) = get_tree place ts
tree_from (inline k v bs) (key text) = get_branch text bs
tree_from (table k origin bs) (key text) = get_branch text bs
tree_from (tables k done last bs) (index place) = get_tree place (elements done last bs)
tree_from t step = None

-- the tree that steps lead to, from a tree
abbrev pub tree_below : List PathStep → Tree → Option Tree
tree_below = follow tree_from

-- the tree that a path leads to, from the root
abbrev pub tree_at : Branches → List PathStep → Option Tree
tree_at bs = follow_path tree_from (λ text. get_branch text bs)

-- ---- changes

-- the branches with a new key, at its place in the order
abbrev pub insert_branch : List ℕ → Tree → Branches → Branches
insert_branch k t no_branches = branch k t no_branches
insert_branch k t (branch l u bs) = match_ordering (slice_cmp nat_cmp k l)
    (branch k t (branch l u bs)) (branch l t bs) (branch l u (insert_branch k t bs))

-- the branches with another tree at a key that they have
abbrev pub replace_branch : List ℕ → Tree → Branches → Branches
replace_branch k t no_branches = no_branches
replace_branch k t (branch l u bs) = if same_key k l then branch l t bs
    else branch l u (replace_branch k t bs)
