-- What is seen of definitions, and of changes of members.
use Rattle.std.specs.Prelude.{String, Result}
use Rattle.std.specs.BTreeMap.{BTreeMap}
use Rattle.std.specs.declared.alloc.Global.{Global}
use Rattle.toml_spans.specs.EntryViews.{branches_of, tree_of}
use Rattle.toml_spans.specs.Refusal.{Gives}
use Rattle.toml_spans.specs.Table as spec
use Rattle.toml_spans.specs.declared.entry.Entry.{Entry}
use Rattle.toml_spans.specs.declared.refusal.Refusal.{Refusal}
use Rattle.toml_spans.specs.declared.table.Definition.{Definition}
use Rattle.toml_spans.specs.declared.table.Definition.TheVariants.{Element, Pair, Table}

-- what is seen of what stands with a key: the tree of a pair, or a header's brackets
abbrev pub definition_of : Definition → spec.Definition
definition_of (Pair entry) = spec.pair (tree_of entry)
definition_of Table = spec.std_table
definition_of Element = spec.array_table

-- the members changed as the growth says, unless memory ran out
abbrev pub Grows : BTreeMap (String Global) Entry → BTreeMap (String Global) Entry
    → Result (Unit {0}) Refusal → spec.Growth → Type 0
Grows old new result grow = Gives (λ _. branches_of new) result (grow (branches_of old))
