-- Findings without where they lie in memory.
use Rattle.std.specs.Prelude.{◌≡◌, ◌⊎◌, ℕ, IsSome, List, [], ◌∷◌, ◌++◌, map, Option, None, Some, option_and_then, option_map, option_to_list, string_bytes, Vec}
use Rattle.std.specs.declared.alloc.Global.{Global}
use Rattle.nextest_config_values.specs.Identifier.Error.{identifier_fault}
use Rattle.nextest_config_values.specs.Read.{identifier, Reason, reason_of}
use Rattle.nextest_config_values.specs.NearestWord.{IsNearest}
use Rattle.nextest_config_filters.specs.Fault.{Fault as TextFault, fault_of as text_fault_of}
use Rattle.toml_spans.specs.Step.{PathStep, step_of}
use Rattle.nextest_config_lint.specs.declared.finding.Finding.{Finding}
use Rattle.nextest_config_lint.specs.declared.finding.FindingKind.{FindingKind}
use Rattle.nextest_config_lint.specs.declared.finding.FindingKind.TheVariants as kinds
use Rattle.nextest_config_lint.specs.declared.finding.Hint.{Hint}
use Rattle.nextest_config_lint.specs.declared.finding.Hint.TheVariants.{Belongs, Toml, Word}
use Rattle.nextest_config_lint.specs.declared.finding.Scope.{Scope}
use Rattle.nextest_config_lint.specs.declared.finding.Mistake.{Mistake}
use Rattle.nextest_config_lint.specs.declared.finding.Mistake.TheVariants as mistakes
use Rattle.nextest_config_lint.specs.declared.finding.FindingSeverity.{FindingSeverity}
use Rattle.nextest_config_lint.specs.declared.finding.FindingSeverity.TheVariants.{Error, Note, Warning}
use Rattle.nextest_config_elements.specs.declared.named.NamedKind.{NamedKind}
use Rattle.nextest_config_elements.specs.declared.named.ScriptKind.{ScriptKind}

-- a suggestion: a word, something as TOML writes it, or the key of the same name elsewhere
pub data Suggestion : Type 0 where
  the_word : List ℕ → Suggestion
  the_toml : List ℕ → Suggestion
  the_key : Scope → Suggestion

-- what a hint suggests, without where it lies in memory
abbrev pub suggestion_of : Hint → Suggestion
suggestion_of (Word word) = the_word (string_bytes word)
suggestion_of (Toml text) = the_toml (string_bytes text)
suggestion_of (Belongs scope) = the_key scope

-- this holds of what a hint suggests, if there is one
abbrev pub Suggests : (Option Suggestion → Type 0) → Option Hint → Type 0
Suggests IsSuggested hint = IsSuggested (option_map suggestion_of hint)

-- for a name the word is suggested that it comes nearest to, if there is one
abbrev pub IsNearestSuggestion : List (List ℕ) → List ℕ → Option Suggestion → Type 0
IsNearestSuggestion words name hint = (word : Option (List ℕ)) × IsNearest words name word
    × (hint ≡ option_map the_word word)

-- what is wrong in a text that is no document: a key stands on this line already, a value is
-- misspelt for this word, or lacks its quotes
pub data Mistaken : Type 0 where
  repeated : List ℕ → ℕ → Mistaken
  misspelt : List ℕ → Mistaken
  unquoted : Mistaken

-- what a mistake says is wrong, without where it lies in memory
abbrev pub mistaken_of : Mistake → Mistaken
mistaken_of (mistakes.Repeated key line) = repeated (string_bytes key) line
mistaken_of (mistakes.Misspelt word) = misspelt (string_bytes word)
mistaken_of mistakes.Unquoted = unquoted

-- what is found, with what is reported of it: a name, of which kind it is, a text, how grave it is,
-- or what may be meant
pub data FoundKind : Type 0 where
  refused : Reason → FindingSeverity → Option Suggestion → FoundKind
  wrong_text : TextFault → FoundKind
  tool_names : List (List ℕ) → FoundKind
  unknown_name : List ℕ → Option Suggestion → FoundKind
  unknown_key : List ℕ → Option Suggestion → FoundKind
  undefined_name : NamedKind → List ℕ → Option Suggestion → FoundKind
  other_script : ScriptKind → List ℕ → FoundKind
  undefined_profile : List ℕ → Option Suggestion → FoundKind
  default_inherits : FoundKind
  inherits_itself : List ℕ → FoundKind
  override_of_all : FoundKind
  script_of_all : FoundKind
  default_filter_beside : FoundKind
  default_filter_alone : FoundKind
  reserved_profile : FoundKind
  no_name : NamedKind → Reason → FoundKind
  outside_tool : NamedKind → List ℕ → FoundKind
  name_of_tool : NamedKind → FoundKind
  setup_script_too : List ℕ → FoundKind
  feature_not_enabled : ScriptKind → FoundKind
  unjudged : FoundKind
  deprecated_array : List ℕ → FoundKind
  not_utf8 : FoundKind
  not_toml : List ℕ → Option Mistaken → FoundKind

-- what is found at a path
pub record Found : Type 0 where
  pub path : List PathStep
  pub kind : FoundKind

-- a refusal, how grave it is, and what may be meant
abbrev pub refused_with : FindingSeverity → Option Hint → Reason → FoundKind
refused_with severity hint reason = refused reason severity (option_map suggestion_of hint)

-- what a kind of finding reports, unless it is a refusal of memory
abbrev pub kind_view : FindingKind → Option FoundKind
kind_view (kinds.Fault fault severity hint) =
    option_map (refused_with severity hint) (reason_of fault)
kind_view (kinds.Text fault) = Some (wrong_text (text_fault_of fault))
kind_view (kinds.ToolFeatures features) = Some (tool_names (map string_bytes features.keys))
kind_view (kinds.UnknownFeature name hint) =
    Some (unknown_name (string_bytes name) (option_map suggestion_of hint))
kind_view (kinds.UnknownKey key hint) =
    Some (unknown_key (string_bytes key) (option_map suggestion_of hint))
kind_view (kinds.UndefinedName kind name hint) =
    Some (undefined_name kind (string_bytes name) (option_map suggestion_of hint))
kind_view (kinds.OtherScript script name) = Some (other_script script (string_bytes name))
kind_view (kinds.UndefinedProfile name hint) =
    Some (undefined_profile (string_bytes name) (option_map suggestion_of hint))
kind_view kinds.DefaultInherits = Some default_inherits
kind_view (kinds.InheritsItself profile) = Some (inherits_itself (string_bytes profile))
kind_view kinds.OverrideOfAll = Some override_of_all
kind_view kinds.ScriptOfAll = Some script_of_all
kind_view kinds.DefaultFilterBeside = Some default_filter_beside
kind_view kinds.DefaultFilterAlone = Some default_filter_alone
kind_view kinds.ReservedProfile = Some reserved_profile
kind_view (kinds.NoName kind error) =
    option_map (λ fault. no_name kind (identifier fault)) (identifier_fault error)
kind_view (kinds.OutsideTool kind mark) = Some (outside_tool kind (string_bytes mark))
kind_view (kinds.NameOfTool kind) = Some (name_of_tool kind)
kind_view (kinds.SetupScriptToo name) = Some (setup_script_too (string_bytes name))
kind_view (kinds.FeatureNotEnabled script) = Some (feature_not_enabled script)
kind_view kinds.UnjudgedDuration = Some unjudged
kind_view (kinds.DeprecatedArray table) = Some (deprecated_array (string_bytes table))
kind_view kinds.NotUtf8 = Some not_utf8
kind_view (kinds.NotToml message mistake) =
    Some (not_toml (string_bytes message) (option_map mistaken_of mistake))

-- what is found, at this path
abbrev pub found_at : List PathStep → FoundKind → Found
found_at path kind = record { path = path; kind = kind }

-- what a finding reports, with its path, unless it is a refusal of memory
abbrev pub found_of : Finding → Option Found
found_of finding = option_map (found_at (map step_of finding.path.items)) (kind_view finding.kind)

-- how grave what is found is
abbrev pub found_severity : FoundKind → FindingSeverity
found_severity (refused reason severity hint) = severity
found_severity (tool_names names) = Error
found_severity not_utf8 = Error
found_severity (not_toml message mistake) = Error
found_severity (wrong_text fault) = Warning
found_severity (unknown_name name hint) = Warning
found_severity (unknown_key key hint) = Warning
found_severity (undefined_name kind name hint) = Warning
found_severity (other_script script name) = Warning
found_severity (undefined_profile name hint) = Warning
found_severity default_inherits = Warning
found_severity (inherits_itself profile) = Warning
found_severity override_of_all = Warning
found_severity script_of_all = Warning
found_severity default_filter_beside = Warning
found_severity default_filter_alone = Warning
found_severity reserved_profile = Warning
found_severity (no_name kind reason) = Warning
found_severity (outside_tool kind mark) = Warning
found_severity (name_of_tool kind) = Warning
found_severity (setup_script_too name) = Warning
found_severity (feature_not_enabled script) = Warning
found_severity unjudged = Note
found_severity (deprecated_array table) = Note

-- the findings report these, in this order
abbrev pub Reports : List Finding → List Found → Type 0
Reports findings all_found = map found_of findings ≡ map Some all_found

-- the findings report a list of which this holds
abbrev pub ReportsSome : (List Found → Type 0) → Vec Finding Global → Type 0
ReportsSome AreFound findings = (all_found : List Found) × AreFound all_found
    × Reports findings.items all_found

-- ---- of one thing that is judged

-- this is reported where that holds, and else nothing
abbrev pub IsReportedIf : Type 0 → FoundKind → Option FoundKind → Type 0
IsReportedIf Holds kind reported = (Holds × (reported ≡ Some kind))
    ⊎ ((Holds → ⊥) × (reported ≡ None))

-- what is reported first, or where that is nothing, what is reported next
abbrev pub IsFirstReported : (Option FoundKind → Type 0) → (Option FoundKind → Type 0)
    → Option FoundKind → Type 0
IsFirstReported IsFirst IsNext reported =
    ((first : FoundKind) × IsFirst (Some first) × (reported ≡ Some first))
    ⊎ (IsFirst None × IsNext reported)

-- what is found is one of which this holds, without where it lies in memory
abbrev pub HoldsInView : (Option FoundKind → Type 0) → Option FindingKind → Type 0
HoldsInView IsReported kind = IsReported (option_and_then kind_view kind)

-- a kind of finding, if there is one, reports something
abbrev pub ReportsIfAny : Option FindingKind → Type 0
ReportsIfAny None = Unit {0}
ReportsIfAny (Some kind) = IsSome (kind_view kind)

-- ---- one for each

-- what is found of each element of a list, at most one thing of each, in order
abbrev pub AreFoundIn : {A : Type 0} → (A → Option Found → Type 0) → List A → List Found → Type 0
AreFoundIn IsFound [] all_found = all_found ≡ []
AreFoundIn IsFound (x ∷ xs) all_found =
    (here : Option Found) × (rest : List Found) × IsFound x here × AreFoundIn IsFound xs rest
    × (all_found ≡ option_to_list here ++ rest)

-- the lists of what is found of each element of a list, one after the other
abbrev pub AreFoundOf : {A : Type 0} → (A → List Found → Type 0) → List A → List Found → Type 0
AreFoundOf AreFound [] all_found = all_found ≡ []
AreFoundOf AreFound (x ∷ xs) all_found =
    (here : List Found) × (rest : List Found) × AreFound x here × AreFoundOf AreFound xs rest
    × (all_found ≡ here ++ rest)

-- what is found of this element comes after other findings
abbrev pub AddsOne : {A : Type 0} → (A → Option Found → Type 0) → A → List Finding → List Finding
    → Type 0
AddsOne IsFound x before now = (here : Option Found) × IsFound x here
    × (map found_of now ≡ map found_of before ++ map Some (option_to_list here))

-- what is found of these elements, at most one thing of each, comes after other findings
abbrev pub AddsFound : {A : Type 0} → (A → Option Found → Type 0) → List A → List Finding
    → List Finding → Type 0
AddsFound IsFound xs before now = (all_found : List Found) × AreFoundIn IsFound xs all_found
    × (map found_of now ≡ map found_of before ++ map Some all_found)
