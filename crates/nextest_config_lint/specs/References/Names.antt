-- What is found of the names of test groups and scripts, after nextest's documentation.
use Rattle.std.specs.Prelude.{◌≡◌, ◌≢◌, ◌<◌, ◌≤◌, ◌⊎◌, ℕ, length, List, codes, Option, Some, None}
use Rattle.nextest_config_values.specs.Identifier.{AreComponents, IdentifierFlaw, IsIdentifier, IsIdentifierFault, NameFault}
use Rattle.nextest_config_values.specs.Read.Fault.{identifier}
use Rattle.nextest_config_elements.specs.Named.{other_kind}
use Rattle.nextest_config_lint.specs.Defined.{AreDocuments, AreNamesOf, DefinesNamed, HasTool, ListFile}
use Rattle.nextest_config_lint.specs.Found.{FoundKind, IsNearestSuggestion, Suggestion, no_name, other_script, undefined_name, IsReportedIf, IsFirstReported}
use Rattle.nextest_config_elements.specs.declared.named.NamedKind.{NamedKind}
use Rattle.nextest_config_elements.specs.declared.named.NamedKind.TheVariants.{Group, Script}
use Rattle.nextest_config_elements.specs.declared.named.ScriptKind.{ScriptKind}

-- the most words among which the nearest is sought
abbrev pub most_names : ℕ
most_names = 100

-- what a name may be meant for: the nearest of the words, where these are few, and else nothing
abbrev pub IsSought : List (List ℕ) → List ℕ → Option Suggestion → Type 0
IsSought words name hint =
    ((length words ≤ most_names) × IsNearestSuggestion words name hint)
    ⊎ ((most_names < length words) × (hint ≡ None))

-- an undefined name, with the nearest of those that may be meant
abbrev pub IsUndefinedReported : (List ℕ → Option Suggestion → FoundKind) → (List ℕ → Type 0)
    → List ℕ
    → Option FoundKind → Type 0
IsUndefinedReported undefined IsCandidate name reported = (words : List (List ℕ))
    × (hint : Option Suggestion)
    × AreNamesOf IsCandidate words × IsSought words name hint
    × (reported ≡ Some (undefined name hint))

-- the name of a tool of which the list has no file
abbrev pub IsOfAbsentTool : List ListFile → List ℕ → Type 0
IsOfAbsentTool files name = (tool rest : List ℕ) × AreComponents name tool rest
    × (HasTool files tool → ⊥)

-- no file defines the name of a kind, and none that isn't read or there may define it
pub record IsUndefined (kind : NamedKind) (files : List ListFile) (name : List ℕ) : Type 0 where
  pub all_read : AreDocuments files
  pub undefined : DefinesNamed kind files name → ⊥
  pub of_list : IsOfAbsentTool files name → ⊥

-- what is reported of an undefined name of a kind, with the nearest of those that are defined
abbrev pub IsNearestReported : NamedKind → List ListFile → List ℕ → Option FoundKind → Type 0
IsNearestReported kind files =
    IsUndefinedReported (undefined_name kind) (DefinesNamed kind files)

-- what is reported of an undefined name of a kind: of a script first whether it is one of the other
-- kind
abbrev pub IsMissingReported : NamedKind → List ListFile → List ℕ → Option FoundKind → Type 0
IsMissingReported Group files name reported = IsNearestReported Group files name reported
IsMissingReported (Script script) files name reported = IsFirstReported
    (IsReportedIf (DefinesNamed (Script (other_kind script)) files name)
    (other_script (other_kind script) name))
    (IsNearestReported (Script script) files name) reported

-- what is reported of a name of a kind, as it is kept: that it is undefined, or nothing
abbrev pub IsKeptReported : NamedKind → List ListFile → List ℕ → Option FoundKind → Type 0
IsKeptReported kind files name reported =
    (IsUndefined kind files name × IsMissingReported kind files name reported)
    ⊎ ((IsUndefined kind files name → ⊥) × (reported ≡ None))

-- what is reported of a text that is to be a name of a kind: that it is none, or what holds of it
-- as it is kept
abbrev pub IsNameReported : NamedKind → (List ℕ → Option FoundKind → Type 0) → List ℕ
    → Option FoundKind → Type 0
IsNameReported kind IsKept text reported =
    ((fault : NameFault IdentifierFlaw) × IsIdentifierFault text fault
    × (reported ≡ Some (no_name kind (identifier fault))))
    ⊎ ((name : List ℕ) × IsIdentifier text name × IsKept name reported)

-- what is reported of the text of `test-group`: of `@global` nothing
abbrev pub IsGroupTextReported : List ListFile → List ℕ → Option FoundKind → Type 0
IsGroupTextReported files text reported = ((text ≡ codes "@global") × (reported ≡ None))
    ⊎ ((text ≢ codes "@global") × IsNameReported Group (IsKeptReported Group files) text reported)

-- what is reported of a text that names a script of a kind
abbrev pub IsScriptTextReported : ScriptKind → List ListFile → List ℕ → Option FoundKind → Type 0
IsScriptTextReported script files = IsNameReported (Script script)
    (IsKeptReported (Script script) files)
