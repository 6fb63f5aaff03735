-- All that is found in a document.
use Rattle.std.specs.Prelude.{◌≡◌, ℕ, List, [], ◌++◌, flat_map, Some}
use Rattle.toml.specs.Data.{Members, table}
use Rattle.nextest_config.specs.declared.nextest_version.edition.Edition.{Edition}
use Rattle.nextest_config.specs.declared.nextest_version.source.ConfigSourceKind.{ConfigSourceKind}
use Rattle.nextest_config_lint.specs.Defined.{file_with, ListFile}
use Rattle.nextest_config_lint.specs.Found.{AddsFound, AreFoundIn, AreFoundOf, Found}
use Rattle.nextest_config_lint.specs.References.JudgedFile.{in_list, IsJudgedIn, judged_in}
use Rattle.nextest_config_lint.specs.References.{IsReferenceFound}
use Rattle.nextest_config_lint.specs.Settings.{settings_of, SettingView}
use Rattle.nextest_config_elements.specs.Keys.{file_table}
use Rattle.nextest_config_lint.specs.Unknown.{IsKeyFound, TableKey, keys_below, keys_in}
use Rattle.nextest_config_lint.specs.Values.{AreFaultsFound, AreFeaturesFound, AreNotesFound, ReportsValues}
use Rattle.nextest_config_lint.specs.declared.document.FoundInValues.{FoundInValues}

-- the keys that are judged: those of the top, and those of the tables that have a place
abbrev pub keys_of_document : Members → List TableKey
keys_of_document members =
    keys_below file_table [] (table members) ++ flat_map keys_in (settings_of members)

-- the findings of a source of this kind: what is wrong, then what it says of features,
-- then its unknown keys, then what is found of references and rules between keys, as in the file at
-- this position of the list, and then the notes on its values
pub record AreFindings (edition : Edition) (kind : ConfigSourceKind) (files : List ListFile)
    (position : ℕ) (members : Members) (all_found : List Found) : Type 0 where
  pub faults : List Found
  pub features : List Found
  pub unknown : List Found
  pub references : List Found
  pub notes : List Found
  pub of_faults : AreFoundOf (AreFaultsFound edition) (settings_of members) faults
  pub of_features : AreFoundOf (AreFeaturesFound edition kind) (settings_of members) features
  pub of_unknown : AreFoundIn IsKeyFound (keys_of_document members) unknown
  pub of_references : AreFoundIn
      (IsReferenceFound (in_list edition files (file_with kind (Some members)) position))
      (settings_of members) references
  pub of_notes : AreFoundOf (AreNotesFound edition kind) (settings_of members) notes
  pub whole : all_found ≡ faults ++ (features ++ (unknown ++ (references ++ notes)))

-- ---- as they are kept

-- this was found of what was judged so far, by one that began so
pub record HasFound (start : FoundInValues) (settings : List SettingView) (found : FoundInValues)
    : Type 0 where
  pub file : found.file ≡ start.file
  pub values : ReportsValues start.file.edition start.file.source.now settings found.values
  pub unknown : AddsFound IsKeyFound (flat_map keys_in settings) [] found.unknown.items
  pub references : (files : List ListFile) (members : Members) → IsJudgedIn files members start.file
      → AddsFound (IsReferenceFound (judged_in files members start.file)) settings []
      found.references.items
