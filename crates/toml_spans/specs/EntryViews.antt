-- What is seen of entries: the trees that they are.
use Rattle.std.specs.Prelude.{List, [], ◌∷◌, map, option_map, String, Vec, string_bytes}
use Rattle.std.specs.BTreeMap.{BTreeMap}
use Rattle.std.specs.declared.alloc.Global.{Global}
use Rattle.toml.specs.Tables as toml
use Rattle.toml_spans.specs.Entry as spec
use Rattle.toml_spans.specs.declared.entry.Piece.{Piece}
use Rattle.toml_spans.specs.declared.entry.Origin.{Origin}
use Rattle.toml_spans.specs.declared.entry.Origin.TheVariants.{Dotted, Header, Implicit}
use Rattle.toml_spans.specs.declared.entry.Entry.{Entry, fold-Entry}
use Rattle.toml_spans.specs.declared.entry.Entry.TheOpen.{Entry-F}

-- what is seen of a piece: where it begins and where it ends
abbrev pub piece_of : Piece → spec.Piece
piece_of p = (p.from, p.to)

-- what is seen of what made a table: a header that passed through, a dotted key, or its own header
abbrev pub origin_of : Origin → toml.Origin
origin_of Implicit = toml.implicit
origin_of Dotted = toml.dotted
origin_of Header = toml.header

-- the trees of a list, in its order
abbrev pub trees_from : List spec.Tree → spec.Trees
trees_from [] = spec.no_trees
trees_from (t ∷ ts) = spec.tree t (trees_from ts)

-- the branches of a list of keys and trees, in its order
abbrev pub branches_from : List (String Global × spec.Tree) → spec.Branches
branches_from [] = spec.no_branches
branches_from (b ∷ bs) = spec.branch (string_bytes b.0) b.1 (branches_from bs)

-- one level of an entry, with each entry inside already seen as its tree
abbrev pub tree_step : Entry-F spec.Tree → spec.Tree
tree_step (Entry-F.Scalar k v) = spec.scalar (option_map piece_of k) (piece_of v)
tree_step (Entry-F.Array k v es) = spec.array (option_map piece_of k) (piece_of v)
    (trees_from es.items)
tree_step (Entry-F.Inline k v m) = spec.inline (option_map piece_of k) (piece_of v)
    (branches_from m.entries)
tree_step (Entry-F.Table k origin m) = spec.table (piece_of k) (origin_of origin)
    (branches_from m.entries)
tree_step (Entry-F.Tables k done last m) = spec.tables (piece_of k) (trees_from done.items)
    (piece_of last) (branches_from m.entries)

-- the tree of an entry
abbrev pub tree_of : Entry → spec.Tree
tree_of = fold-Entry spec.Tree tree_step

-- the trees of some entries
abbrev pub trees_of : Vec Entry Global → spec.Trees
trees_of v = trees_from (map tree_of v.items)

-- the branches of keys and entries, in their order
abbrev pub pairs_of : List (String Global × Entry) → spec.Branches
pairs_of es = branches_from (map (λ e. (e.0, tree_of e.1)) es)

-- the branches of a table's entries, by their keys
abbrev pub branches_of : BTreeMap (String Global) Entry → spec.Branches
branches_of m = pairs_of m.entries
