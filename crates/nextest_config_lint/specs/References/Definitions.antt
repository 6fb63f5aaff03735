-- What is found of the test groups and scripts that a file defines, after nextest's documentation.
use Rattle.std.specs.Prelude.{◌≡◌, ◌≢◌, ℕ, List, ◌++◌, codes, Option, Some}
use Rattle.toml.specs.Data.{as_table, Data, Members, no_members}
use Rattle.nextest_config.specs.declared.nextest_version.source.ConfigSourceKind.{ConfigSourceKind}
use Rattle.nextest_config.specs.declared.nextest_version.source.ConfigSourceKind.TheVariants.{DiscoveredRepository, ExplicitRepository, Tool}
use Rattle.nextest_config_lint.specs.Defined.{feature_of, HasNamed, IsFeatureMissing, IsNoTools, ListFile}
use Rattle.nextest_config_lint.specs.Found.{FoundKind, name_of_tool, outside_tool, setup_script_too, IsReportedIf, IsFirstReported}
use Rattle.nextest_config_elements.specs.declared.named.NamedKind.{NamedKind}
use Rattle.nextest_config_elements.specs.declared.named.NamedKind.TheVariants.{Group, Script}
use Rattle.nextest_config_elements.specs.declared.named.ScriptKind.{ScriptKind}
use Rattle.nextest_config_elements.specs.declared.named.ScriptKind.TheVariants.{Setup, Wrapper}
use Rattle.nextest_config_lint.specs.References.JudgedFile.{FileInList}

-- what the names begin with that a tool's file defines
abbrev pub tool_mark_of : List ℕ → List ℕ
tool_mark_of tool = codes "@tool:" ++ (tool ++ codes ":")

-- a text begins with another
abbrev pub BeginsWith : List ℕ → List ℕ → Type 0
BeginsWith front text = (rest : List ℕ) × (text ≡ front ++ rest)

-- what is reported of how a name of a kind begins that a file of this source defines
abbrev pub IsMarkReported : ConfigSourceKind → NamedKind → List ℕ → Option FoundKind → Type 0
IsMarkReported (Tool tool) kind name reported =
    IsReportedIf (BeginsWith (tool_mark_of tool) name → ⊥)
    (outside_tool kind (tool_mark_of tool)) reported
IsMarkReported ExplicitRepository kind name reported =
    IsReportedIf (BeginsWith (codes "@") name) (name_of_tool kind) reported
IsMarkReported DiscoveredRepository kind name reported =
    IsReportedIf (BeginsWith (codes "@") name) (name_of_tool kind) reported

-- the name of a wrapper script that the file has for a setup script, too
abbrev pub IsSetupToo : ListFile → NamedKind → List ℕ → Type 0
IsSetupToo file Group name = ⊥
IsSetupToo file (Script Setup) name = ⊥
IsSetupToo file (Script Wrapper) name = HasNamed (Script Setup) file name

-- what is reported of a name of a kind that a file defines, as it is kept: how it begins, or behind
-- that, whether it names a setup script, too
abbrev pub IsDefinitionReported : ListFile → NamedKind → List ℕ → Option FoundKind → Type 0
IsDefinitionReported file kind name = IsFirstReported (IsMarkReported file.kind kind name)
    (IsReportedIf (IsSetupToo file kind name) (setup_script_too name))

-- the value is a table with a key, in a file that is no tool's, and no file enables the feature
-- that scripts of the kind need
abbrev pub LacksFeature : FileInList → ScriptKind → Data → Type 0
LacksFeature at script value = IsNoTools at.file.kind
    × ((members : Members) × (as_table value ≡ Some members) × (members ≢ no_members))
    × IsFeatureMissing at.edition at.files (feature_of script)
