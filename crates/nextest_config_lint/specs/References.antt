-- What is found of names that refer to others, and of rules between keys, after nextest's
-- documentation.
pub mod Definitions
pub mod JudgedFile
pub mod Names
pub mod Overrides
pub mod Profiles
use Rattle.std.specs.Prelude.{◌≡◌, ℕ, List, [], ◌∷◌, ◌++◌, Option, Some, None, option_map}
use Rattle.toml.specs.Data.{as_str, Data}
use Rattle.toml_spans.specs.Step.{index, key, PathStep}
use Rattle.nextest_config_elements.specs.declared.field.Referent.{Referent}
use Rattle.nextest_config_elements.specs.declared.field.Referent.TheVariants.{Definition, Parent}
use Rattle.nextest_config_elements.specs.declared.field.Shape.{Shape}
use Rattle.nextest_config_elements.specs.declared.field.Shape.TheVariants.{Reference, References, RuledTable}
use Rattle.nextest_config_elements.specs.declared.field.TableRule.{TableRule}
use Rattle.nextest_config_lint.specs.Found.{default_filter_alone, default_filter_beside, feature_not_enabled, Found, found_at, FoundKind, reserved_profile, script_of_all, IsReportedIf}
use Rattle.nextest_config_lint.specs.Settings.{a_value, SettingView, Subject}
use Rattle.nextest_config_elements.specs.declared.named.NamedKind.TheVariants.{Group, Script}
use Rattle.nextest_config_lint.specs.References.JudgedFile.{FileInList}
use Rattle.nextest_config_lint.specs.References.Overrides.{default_filter_key, IsOfAll, IsOverrideReported}
use Rattle.nextest_config_lint.specs.References.Names.{IsNameReported, IsGroupTextReported, IsScriptTextReported}
use Rattle.nextest_config_lint.specs.References.Definitions.{IsDefinitionReported, LacksFeature}
use Rattle.nextest_config_lint.specs.References.Profiles.{IsReserved, IsParentReported}
use Rattle.nextest_config_elements.specs.declared.field.TableRule.TheVariants as rules

-- the key that a step is
abbrev pub key_of : PathStep → Option (List ℕ)
key_of (key name) = Some name
key_of (index number) = None

-- the key that a path ends with
abbrev pub last_key : List PathStep → Option (List ℕ)
last_key [] = None
last_key (step ∷ []) = key_of step
last_key (first ∷ second ∷ rest) = last_key (second ∷ rest)

-- the profile in which a value at a path stands
abbrev pub profile_of : List PathStep → Option (List ℕ)
profile_of (top ∷ key name ∷ rest) = Some name
profile_of path = None

-- what is reported of a text, if there is one
abbrev pub IsTextReported : (List ℕ → Option FoundKind → Type 0) → Option (List ℕ)
    → Option FoundKind → Type 0
IsTextReported IsReported None reported = reported ≡ None
IsTextReported IsReported (Some text) reported = IsReported text reported

-- what is reported of a table at a path, by a rule for it
abbrev pub IsRuleReported : FileInList → List PathStep → TableRule → Data → Option FoundKind
    → Type 0
IsRuleReported at path rules.Profile value reported =
    IsTextReported (λ name. IsReportedIf (IsReserved name) reserved_profile) (last_key path)
    reported
IsRuleReported at path rules.Override value reported = IsOverrideReported value reported
IsRuleReported at path rules.ScriptRule value reported =
    IsReportedIf (IsOfAll value) script_of_all reported
IsRuleReported at path (rules.Definition kind) value reported =
    IsTextReported (IsNameReported kind (IsDefinitionReported at.file kind)) (last_key path)
    reported
IsRuleReported at path (rules.Scripts script) value reported =
    IsReportedIf (LacksFeature at script value) (feature_not_enabled script) reported

-- what is reported of a text at a path, by what it names
abbrev pub IsReferenceReported : FileInList → List PathStep → Referent → List ℕ → Option FoundKind
    → Type 0
IsReferenceReported at path Parent text reported =
    IsTextReported (λ name. IsParentReported at.files at.position name text) (profile_of path)
    reported
IsReferenceReported at path (Definition Group) text reported =
    IsGroupTextReported at.files text reported
IsReferenceReported at path (Definition (Script script)) text reported =
    IsScriptTextReported script at.files text reported

-- what is reported of a value at a path, by its shape
abbrev pub IsValueReported : FileInList → List PathStep → Shape → Data → Option FoundKind → Type 0
IsValueReported at path (RuledTable rule) value reported =
    IsRuleReported at path rule value reported
IsValueReported at path (Reference referent) value reported =
    IsTextReported (IsReferenceReported at path referent) (as_str value) reported
IsValueReported at path (References referent) value reported =
    IsTextReported (IsReferenceReported at path referent) (as_str value) reported
IsValueReported at path shape value reported = reported ≡ None

-- what is reported of what is judged at a path, if it is a value
abbrev pub IsSubjectReported : FileInList → List PathStep → Subject → Option FoundKind → Type 0
IsSubjectReported at path (a_value shape parts value) reported =
    IsValueReported at path shape value reported
IsSubjectReported at path subject reported = reported ≡ None

-- the steps from what is judged to where something is reported of it: of a default filter its key
abbrev pub steps_to : FoundKind → List PathStep
steps_to default_filter_beside = key default_filter_key ∷ []
steps_to default_filter_alone = key default_filter_key ∷ []
steps_to kind = []

-- what is reported of what is judged at a path, where it is reported
abbrev pub placed_below : List PathStep → FoundKind → Found
placed_below path kind = found_at (path ++ steps_to kind) kind

-- what is found of what is judged
abbrev pub IsReferenceFound : FileInList → SettingView → Option Found → Type 0
IsReferenceFound at setting found = (reported : Option FoundKind)
    × IsSubjectReported at setting.path setting.subject reported
    × (found ≡ option_map (placed_below setting.path) reported)
