-- How grave findings are, and how they print.
use Rattle.std.specs.Prelude.{ℕ, List, [], ◌∷◌, ◌++◌, codes, decimal, map, Option, Some, None, string_bytes}
use Rattle.nextest_config_values.specs.Identifier.Error.{identifier_fault, identifier_fault_text}
use Rattle.nextest_config_filters.specs.Fault.{fault_text, worded_fault_of}
use Rattle.toml_spans.specs.QuotedText.{quoted_text}
use Rattle.nextest_config_values.specs.Read.{kind_text, quoted_texts, text_or_memory}
use Rattle.toml_spans.specs.Step.{PathStep, printed_path, step_of}
use Rattle.nextest_config.specs.NextestVersion.{word_of}
use Rattle.nextest_config_lint.specs.Defined.{feature_of}
use Rattle.nextest_config_lint.specs.Found.{FoundKind, found_severity, kind_view}
use Rattle.nextest_config_elements.specs.Named.{named_text, plural_text, script_text}
use Rattle.nextest_config_lint.specs.declared.finding.Finding.{Finding}
use Rattle.nextest_config_lint.specs.declared.finding.FindingKind.{FindingKind}
use Rattle.nextest_config_lint.specs.declared.finding.FindingKind.TheVariants as kinds
use Rattle.nextest_config_lint.specs.declared.finding.Hint.{Hint}
use Rattle.nextest_config_lint.specs.declared.finding.Hint.TheVariants.{Belongs, Toml, Word}
use Rattle.nextest_config_lint.specs.declared.finding.Scope.{Scope}
use Rattle.nextest_config_lint.specs.declared.finding.Mistake.{Mistake}
use Rattle.nextest_config_lint.specs.declared.finding.Mistake.TheVariants as mistakes
use Rattle.nextest_config_lint.specs.declared.finding.Scope.TheVariants as scopes
use Rattle.nextest_config_lint.specs.declared.finding.FindingSeverity.{FindingSeverity}
use Rattle.nextest_config_lint.specs.declared.finding.FindingSeverity.TheVariants.{Error, Note, Warning}

-- how grave what is reported is; a refusal of memory, which reports nothing, is an error
abbrev pub reported_severity : Option FoundKind → FindingSeverity
reported_severity (Some kind) = found_severity kind
reported_severity None = Error

-- a kind of finding is as grave as what it reports
abbrev pub finding_severity : FindingKind → FindingSeverity
finding_severity kind = reported_severity (kind_view kind)

-- severities by number, the graver the greater
abbrev pub rank : FindingSeverity → ℕ
rank Note = 0
rank Warning = 1
rank Error = 2

-- ---- how they print

-- where a key belongs, in words
abbrev pub scope_text : Scope → List ℕ
scope_text scopes.Top = codes "at the top of the file"
scope_text scopes.Profile = codes "in a profile"
scope_text scopes.Override = codes "in an override"
scope_text scopes.Junit = codes "in junit"

-- what may be meant, as it is printed behind what is said
abbrev pub hint_text : Option Hint → List ℕ
hint_text (Some (Word word)) = codes ", did you mean " ++ quoted_text (string_bytes word)
hint_text (Some (Toml text)) = codes ", did you mean " ++ string_bytes text
hint_text (Some (Belongs scope)) = codes ", which belongs " ++ scope_text scope
hint_text None = []

-- what is wrong in a text that is no document, as it is printed behind what `toml` says
abbrev pub mistake_text : Option Mistake → List ℕ
mistake_text (Some (mistakes.Repeated key line)) = codes ", " ++ (quoted_text (string_bytes key)
    ++ (codes " stands on line " ++ (decimal line ++ codes " already")))
mistake_text (Some (mistakes.Misspelt word)) = codes ", did you mean " ++ string_bytes word
mistake_text (Some mistakes.Unquoted) = codes ", quotes missing?"
mistake_text None = []

-- what is said of a name, with what that may be meant for
abbrev pub name_text : List ℕ → List ℕ → Option Hint → List ℕ
name_text said name hint = (said ++ quoted_text name) ++ hint_text hint

-- how what is found prints, without its path
abbrev pub finding_kind_text : FindingKind → List ℕ
finding_kind_text (kinds.Fault fault severity hint) = kind_text fault ++ hint_text hint
finding_kind_text (kinds.Text fault) = fault_text (worded_fault_of fault)
finding_kind_text (kinds.UnknownFeature name hint) =
    name_text (codes "unknown feature ") (string_bytes name) hint
finding_kind_text (kinds.UnknownKey key hint) =
    name_text (codes "unknown key ") (string_bytes key) hint
finding_kind_text (kinds.UndefinedName kind name hint) =
    codes "no file defines the " ++ (named_text kind
    ++ name_text (codes " ") (string_bytes name) hint)
finding_kind_text (kinds.UndefinedProfile name hint) =
    name_text (codes "no file defines the profile ") (string_bytes name) hint
finding_kind_text (kinds.NotToml message mistake) = string_bytes message ++ mistake_text mistake
finding_kind_text kinds.DefaultInherits = codes "the profile \"default\" can't inherit"
finding_kind_text (kinds.InheritsItself profile) =
    codes "the profile " ++ (quoted_text (string_bytes profile) ++ codes " inherits from itself")
finding_kind_text kinds.OverrideOfAll =
    codes "an override needs a \"filter\" or a \"platform\""
finding_kind_text kinds.ScriptOfAll = codes "a script needs a \"filter\" or a \"platform\""
finding_kind_text kinds.DefaultFilterBeside =
    codes "an override has a \"filter\" or a \"default-filter\", and not both"
finding_kind_text kinds.DefaultFilterAlone = codes "a \"default-filter\" needs a \"platform\""
finding_kind_text kinds.ReservedProfile =
    codes "profile names that begin with \"default-\" are reserved"
finding_kind_text (kinds.OtherScript script name) =
    quoted_text (string_bytes name) ++ (codes " is a " ++ script_text script)
finding_kind_text (kinds.NoName kind error) =
    text_or_memory identifier_fault_text (identifier_fault error)
finding_kind_text (kinds.OutsideTool kind mark) =
    codes "a tool's " ++ (plural_text kind ++ (codes " begin with "
    ++ quoted_text (string_bytes mark)))
finding_kind_text (kinds.NameOfTool kind) =
    codes "only a tool's " ++ (plural_text kind ++ codes " begin with \"@\"")
finding_kind_text (kinds.SetupScriptToo name) =
    quoted_text (string_bytes name) ++ codes " is a setup script, too"
finding_kind_text (kinds.FeatureNotEnabled script) = script_text script
    ++ (codes "s need the experimental feature " ++ quoted_text (word_of (feature_of script)))
finding_kind_text (kinds.ToolFeatures features) =
    codes "experimental features in a tool configuration: "
    ++ quoted_texts (map string_bytes features.keys)
finding_kind_text kinds.UnjudgedDuration =
    codes "not judged here: a duration other than whole numbers, each with a unit"
finding_kind_text (kinds.DeprecatedArray table) =
    codes "the array form is deprecated, use a table: " ++ string_bytes table
finding_kind_text kinds.NotUtf8 = codes "not UTF-8"

-- a path before what is found there, unless it is empty
abbrev pub path_front : List PathStep → List ℕ
path_front [] = []
path_front (step ∷ rest) = printed_path (step ∷ rest) ++ codes ": "

-- how a finding prints: its path, unless that is empty, and what is found there
abbrev pub finding_text : Finding → List ℕ
finding_text finding = path_front (map step_of finding.path.items) ++ finding_kind_text finding.kind
