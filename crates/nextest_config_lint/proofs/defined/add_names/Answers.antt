use Rattle.std.proofs.Common.{ℕ, List, map, OnOk, string_bytes, sym, ◌≡◌}
use Rattle.std.proofs.lemmas.Result.{on_ok_weaker}
use Rattle.toml.specs.View.{table_view}
use Rattle.nextest_config_lint.proofs.DefinedNames.{adds_of_table, adds_then, adds_tool}
use Rattle.nextest_config_lint.proofs.ReportedReferences.{of_script}
use Rattle.nextest_config_lint.specs.Defined.{AddsNames, file_of, HasNamed, profiles_key, table_of}
use Rattle.nextest_config_elements.specs.declared.named.ScriptKind.TheVariants.{Setup, Wrapper}
use Rattle.nextest_config_lint.proofs.defined.add_names.Goals as goal

pub returns-in-Group : goal.returns-in-Group
returns-in-Group c = rw (c.in-Named.is, c.in-Group.is) (rw c.table.ensures at c.add_kept.ensures)

pub returns-in_ok-add_kept-in-Script-Setup : goal.returns-in_ok-add_kept-in-Script-Setup
returns-in_ok-add_kept-in-Script-Setup c =
    rw c.in-Named.is (of_script c.in-Named.kind _ Setup c.in-Script-Setup.is (rw c.in-Script-Setup.is at c.in-Script-Setup.field-0-is)
    (λ kind. OnOk c.add_kept-in-Script-Setup-2.result (AddsNames (HasNamed kind (file_of c.args.file.now)) (map string_bytes c.args.names.now.keys) (map string_bytes c.add_kept-in-Script-Setup-2.new.names.keys)))
    (on_ok_weaker c.add_kept-in-Script-Setup-2.result (adds_then _ _ _ _ _ (rw c.table_below.ensures at c.in_ok-add_kept-in-Script-Setup.ensures))
    (rw c.table-in-Script-Setup.ensures at c.add_kept-in-Script-Setup-2.ensures)))

pub returns-in-Script-Wrapper : goal.returns-in-Script-Wrapper
returns-in-Script-Wrapper c =
    rw c.in-Named.is (of_script c.in-Named.kind _ Wrapper c.in-Script-Wrapper.is (rw c.in-Script-Wrapper.is at c.in-Script-Wrapper.field-0-is)
    (λ kind. OnOk c.add_kept-in-Script-Wrapper.result (AddsNames (HasNamed kind (file_of c.args.file.now)) (map string_bytes c.args.names.now.keys) (map string_bytes c.add_kept-in-Script-Wrapper.new.names.keys)))
    (rw c.table_below-in-Script-Wrapper.ensures at c.add_kept-in-Script-Wrapper.ensures))

pub returns-in-Some : goal.returns-in-Some
returns-in-Some c =
    rw c.in-Profile.is (on_ok_weaker c.add_keys.result (adds_of_table (λ (key name : List ℕ). key ≡ name) (table_of profiles_key (file_of c.args.file.now)) (table_view c.in-Some.profiles.now) _ _ (sym c.in-Some.ensures)) c.add_keys.ensures)

pub returns-in-Tool-source : goal.returns-in-Tool-source
returns-in-Tool-source c =
    rw c.in-Tool.is (on_ok_weaker c.add_name.result (adds_tool _ c.in-Tool-source.tool c.as_str.result.now _ _ c.in-Tool-source.is c.as_str.ensures.value) c.add_name.ensures)
