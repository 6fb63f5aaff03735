-- Where keys and headers put what they define: the rules of `toml`'s tables, over trees (TOML 1.1,
-- "Keys", "Table" and "Array of Tables").
use Rattle.std.specs.Prelude.{List, [], ◌∷◌, Option, Some, None, option_and_then, option_map}
use Rattle.toml.specs.Tables.{dotted, header, implicit, Origin}
use Rattle.toml_spans.specs.Entry.{after_key, Branches, get_branch, insert_branch, no_branches, no_trees, Piece, push_tree, replace_branch, table, tables, Tree}
use Rattle.toml_spans.specs.Key.{Part, Parts}

-- a change of branches, which the rules may refuse
abbrev pub Growth : Type 0
Growth = Branches → Option Branches

-- What made a table says how a key goes: a header's key makes `implicit` tables on its way, and a
-- dotted key `dotted` ones. A header passes any table; a dotted key passes none that a header
-- defined, and one that it passes counts as its own.
abbrev pub passed : Origin → Origin → Option Origin
passed dotted header = None
passed dotted origin = Some dotted
passed by origin = Some origin

-- a key passes through a table that is no value, or into the last element of an array of tables,
-- which a header defined
abbrev pub through : Origin → Growth → Tree → Option Tree
through by grow (table k origin bs) = option_and_then (λ o. option_map (table k o) (grow bs))
    (passed by origin)
through by grow (tables k done last bs) = option_and_then
    (λ o. option_map (tables k done last) (grow bs)) (passed by header)
through by grow t = None

-- the change at the table of a part of a key, which is made where it is missing
abbrev pub by_part : Origin → Part → Growth → Branches → Option Tree → Option Branches
by_part by part grow bs None = option_map
    (λ new. insert_branch part.0 (table part.1 by new) bs) (grow no_branches)
by_part by part grow bs (Some t) = option_map (λ new. replace_branch part.0 new bs)
    (through by grow t)

-- the change, made in the table at the end of some parts of a key
unfoldable pub along : Origin → List Part → Growth → Growth
along by [] grow bs = grow bs
along by (part ∷ path) grow bs = by_part by part (along by path grow) bs (get_branch part.0 bs)

-- what stands with a key on a line
pub data Definition : Type 0 where
  pair : Tree → Definition
  std_table : Definition
  array_table : Definition

-- what a part of a key holds that wasn't there
abbrev pub new_tree : Piece → Definition → Tree
new_tree k (pair t) = after_key k t
new_tree k std_table = table k header no_branches
new_tree k array_table = tables k no_trees k no_branches

-- a key is defined once; but a header may name a table that other headers only passed through, and
-- one in double brackets adds an element to an array of tables
abbrev pub redefined : Piece → Definition → Tree → Option Tree
redefined k std_table (table l implicit bs) = Some (table l header bs)
redefined k array_table (tables l done last bs) =
    Some (tables l (push_tree done (table last header bs)) k no_branches)
redefined k what t = None

-- what is defined at the last part of a key, where this tree or none stands there
abbrev pub at_found : Part → Definition → Branches → Option Tree → Option Branches
at_found part what bs None = Some (insert_branch part.0 (new_tree part.1 what) bs)
at_found part what bs (Some t) = option_map (λ new. replace_branch part.0 new bs)
    (redefined part.1 what t)

-- the change that defines the last part of a key
unfoldable pub at_part : Part → Definition → Growth
at_part part what bs = at_found part what bs (get_branch part.0 bs)

-- the change that adds a pair to a table
abbrev pub put : Parts → Tree → Growth
put parts t = along dotted parts.0 (at_part parts.1 (pair t))
