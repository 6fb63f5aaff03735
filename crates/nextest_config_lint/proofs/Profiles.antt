-- The values of a table, entry by entry.
use Rattle.std.specs.Prelude.{◌≡◌, List, [], ◌∷◌, ◌++◌, flat_map, Some, option_map, String, string_bytes}
use Rattle.std.proofs.Common.{ap, BTreeMap, Global, refl, sym, ◌∙◌}
use Rattle.std.specs.BTreeMap.{get}
use Rattle.std.specs.List.{AllByRecursion}
use Rattle.std.specs.String.{string_cmp}
use Rattle.toml.proofs.Views.{Entry, view-lookup}
use Rattle.toml.specs.Data.{get_member}
use Rattle.toml.specs.View.{members_view, table_view, view}
use Rattle.toml.specs.declared.value.Value.{Value}
use Rattle.toml_spans.specs.Step.{key, PathStep}
use Rattle.nextest_config_lint.specs.Settings.{if_there, SettingView, Collecting, names_of}

-- what comes of each entry
abbrev pub at_entries : Collecting → List PathStep → List Entry → List SettingView
at_entries collecting path [] = []
at_entries collecting path (entry ∷ rest) = collecting (path ++ (key (string_bytes entry.0) ∷ [])) (view entry.1) ++ at_entries collecting path rest

-- where the table has each entry at its key, that is what comes of its names
pub entries_are : (collecting : Collecting) (path : List PathStep) (held : BTreeMap (String Global) Value) (entries : List Entry)
    → AllByRecursion (λ entry. get string_cmp held entry.0 ≡ Some entry.1) entries
    → flat_map (λ name. if_there collecting path (key name) (get_member name (table_view held))) (names_of (members_view entries)) ≡ at_entries collecting path entries
entries_are collecting path held [] at = refl
entries_are collecting path held (entry ∷ rest) at =
    let here : get_member (string_bytes entry.0) (table_view held) ≡ Some (view entry.1) = sym (view-lookup (string_bytes entry.0) held.entries) ∙ ap (option_map view) at.0 in
    rw here (ap (λ (all : List SettingView). collecting (path ++ (key (string_bytes entry.0) ∷ [])) (view entry.1) ++ all) (entries_are collecting path held rest at.1))
