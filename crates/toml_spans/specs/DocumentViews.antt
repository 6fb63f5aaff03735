-- What is seen of statements, and of a walk that one changes.
use Rattle.std.specs.Prelude.{List, String, Vec, Result}
use Rattle.std.specs.BTreeMap.{BTreeMap}
use Rattle.std.specs.declared.alloc.Global.{Global}
use Rattle.toml_spans.specs.Document as spec
use Rattle.toml_spans.specs.EntryViews.{branches_of}
use Rattle.toml_spans.specs.KeyViews.{parts_of, path_of}
use Rattle.toml_spans.specs.Refusal.{Gives}
use Rattle.toml_spans.specs.TableViews.{definition_of}
use Rattle.toml_spans.specs.declared.entry.Entry.{Entry}
use Rattle.toml_spans.specs.declared.key.KeyParts.{KeyParts}
use Rattle.toml_spans.specs.declared.key.Part.{Part}
use Rattle.toml_spans.specs.declared.refusal.Refusal.{Refusal}
use Rattle.toml_spans.specs.declared.table.Definition.{Definition}

-- what is seen of a statement: its key and what it defines
abbrev pub statement_of : KeyParts × Definition → spec.Statement
statement_of s = (parts_of s.0, definition_of s.1)

-- the walk with this root and this last header
abbrev pub walk_from : BTreeMap (String Global) Entry → List Part → spec.Walk
walk_from root section = record { root = branches_of root; section = path_of section }

-- the root and the section changed as a statement says, unless memory ran out
abbrev pub Defines : BTreeMap (String Global) Entry → Vec Part Global → KeyParts × Definition
    → BTreeMap (String Global) Entry → Vec Part Global → Result (Unit {0}) Refusal → Type 0
Defines root section s new_root new_section result =
    Gives (λ _. walk_from new_root new_section.items) result
    (spec.walk_on (walk_from root section.items) (parts_of s.0) (definition_of s.1))
