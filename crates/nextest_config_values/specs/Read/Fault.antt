-- A refused TOML value without where it lies in memory, and how it prints.
use Rattle.std.specs.Prelude.{ℕ, ◌≡◌, ℤ, List, [], ◌∷◌, ◌++◌, codes, map, string_bytes, Option, Some, None, option_map}
use Rattle.std.specs.Fmt.{signed_decimal}
use Rattle.semver.specs.Identifiers.{parts_of, parts_text}
use Rattle.semver.specs.Parse.{Parts}
use Rattle.toml.specs.Data.{Data}
use Rattle.nextest_config_values.specs.Identifier.Error.{IdentifierFlaw, NameFault, ToolNameFlaw, identifier_fault, identifier_fault_text, tool_name_fault, tool_name_fault_text}
use Rattle.toml_spans.specs.Step.{PathStep, step_of}
use Rattle.nextest_config_values.specs.Read.Step.{path_along, path_of}
use Rattle.toml_spans.specs.QuotedText.{quoted_text}
use Rattle.nextest_config_values.specs.Read.Text.{FaultOrMemory, found_text, text_or_memory, words_of, words_text}
use Rattle.nextest_config_values.specs.declared.read.fault.ReadFault.{ReadFault}
use Rattle.nextest_config_values.specs.declared.read.fault.FaultKind.{FaultKind}
use Rattle.nextest_config_values.specs.declared.read.value_fault.FaultCause.{FaultCause}
use Rattle.nextest_config_values.specs.declared.read.value_fault.FaultCause.TheVariants as causes
use Rattle.nextest_config_values.specs.declared.read.value_fault.ValueFault.{ValueFault}
use Rattle.nextest_config_values.specs.declared.read.fault.FaultKind.TheVariants as kinds
use Rattle.nextest_config_values.specs.declared.read.fault.Rule.{Rule}
use Rattle.nextest_config_values.specs.declared.read.fault.Rule.TheVariants as rules_of

-- a rule that was broken
pub data BrokenRule : Type 0 where
  pre_release : BrokenRule
  build_metadata : BrokenRule
  not_version : List ℕ → BrokenRule
  required_above_recommended : Parts → Parts → BrokenRule
  array_form : BrokenRule
  jitter_without_delay : BrokenRule
  count_zero : BrokenRule
  delay_zero : BrokenRule
  max_delay_zero : BrokenRule
  max_delay_below_delay : BrokenRule
  priority_outside : ℤ → BrokenRule

-- a reason: what was found and what was expected, the path of a missing key, a broken rule, or a
-- refused name
pub data Reason : Type 0 where
  invalid_type : List ℕ → List ℕ → Reason
  invalid_value : List ℕ → List ℕ → Reason
  unknown_variant : List ℕ → List (List ℕ) → Reason
  unknown_field : List ℕ → List (List ℕ) → Reason
  missing_field : List ℕ → Reason
  custom : BrokenRule → Reason
  identifier : NameFault IdentifierFlaw → Reason
  tool_name : NameFault ToolNameFlaw → Reason

-- what is told of a refused value at a path
pub record ReadFaultView : Type 0 where
  pub path : List ℕ
  pub reason : Reason

-- why a value is refused: it is no duration; it lacks a key; or for a reason that is told alike at
-- every path
pub data Cause : Type 0 where
  no_duration : List ℕ → Cause
  missing_key : List ℕ → Cause
  for_reason : Reason → Cause

-- a refused value: the steps from it to what is wrong, and why that is refused
pub record Fault : Type 0 where
  pub steps : List PathStep
  pub cause : Cause

-- the rule that is broken
abbrev pub broken_rule : Rule → BrokenRule
broken_rule rules_of.PreRelease = pre_release
broken_rule rules_of.BuildMetadata = build_metadata
broken_rule (rules_of.NotVersion text) = not_version (string_bytes text)
broken_rule (rules_of.RequiredAboveRecommended required recommended) =
    required_above_recommended (parts_of required) (parts_of recommended)
broken_rule rules_of.ArrayForm = array_form
broken_rule rules_of.JitterWithoutDelay = jitter_without_delay
broken_rule rules_of.CountZero = count_zero
broken_rule rules_of.DelayZero = delay_zero
broken_rule rules_of.MaxDelayZero = max_delay_zero
broken_rule rules_of.MaxDelayBelowDelay = max_delay_below_delay
broken_rule (rules_of.Priority priority) = priority_outside priority

-- what a kind of fault says, unless memory was refused
abbrev pub reason_of : FaultKind → Option Reason
reason_of (kinds.InvalidType found expected) = Some (invalid_type (string_bytes found) expected.now)
reason_of (kinds.InvalidValue found expected) =
    Some (invalid_value (string_bytes found) expected.now)
reason_of (kinds.UnknownVariant found expected) =
    Some (unknown_variant (string_bytes found) (words_of expected.now))
reason_of (kinds.UnknownField found expected) =
    Some (unknown_field (string_bytes found) (words_of expected.now))
reason_of (kinds.MissingField key) = Some (missing_field (string_bytes key))
reason_of (kinds.Custom rule) = Some (custom (broken_rule rule))
reason_of (kinds.Identifier error) = option_map identifier (identifier_fault error)
reason_of (kinds.ToolName error) = option_map tool_name (tool_name_fault error)
reason_of kinds.Memory = None

-- what a cause says, unless memory was refused
abbrev pub cause_of : FaultCause → Option Cause
cause_of (causes.NoDuration found) = Some (no_duration (string_bytes found))
cause_of (causes.Missing key) = Some (missing_key (string_bytes key))
cause_of (causes.Kind kind) = option_map for_reason (reason_of kind)

-- the fault with these steps and this cause
abbrev pub fault_with : List PathStep → Cause → Fault
fault_with steps cause = record { steps = steps; cause = cause }

-- what a fault says, unless memory was refused
abbrev pub fault_of : ValueFault → Option Fault
fault_of fault = option_map (fault_with (map step_of fault.steps.items)) (cause_of fault.cause)

-- the fault says that memory was refused
abbrev pub IsMemory : ValueFault → Type 0
IsMemory fault = fault.cause ≡ causes.Kind kinds.Memory

-- this reason, told at this path
abbrev pub read_fault_with : List ℕ → Reason → ReadFaultView
read_fault_with path reason = record { path = path; reason = reason }

-- what a fault tells, unless memory was refused
abbrev pub read_fault_view : ReadFault → Option ReadFaultView
read_fault_view fault =
    option_map (read_fault_with (string_bytes fault.path)) (reason_of fault.kind)

-- the fault tells that memory was refused, at the empty path
abbrev pub TellsMemory : ReadFault → Type 0
TellsMemory fault = (string_bytes fault.path ≡ []) × (fault.kind ≡ kinds.Memory)

-- ---- what is told of a fault

-- what a reader of durations expects
abbrev pub duration_expected : List ℕ
duration_expected = codes "a duration"

-- a cause, as it is told at a path
abbrev pub reason_at : List ℕ → Cause → Reason
reason_at path (no_duration found) = invalid_value found duration_expected
reason_at path (missing_key key) = missing_field (path_of path key)
reason_at path (for_reason reason) = reason

-- what is told of the fault of a value at a path
abbrev pub read_fault_at : List ℕ → Fault → ReadFaultView
read_fault_at at fault = let path = path_along at fault.steps in
    read_fault_with path (reason_at path fault.cause)

-- ---- how they print

-- how a broken rule prints
abbrev pub rule_text : BrokenRule → List ℕ
rule_text pre_release = codes "pre-release identifiers are not supported in nextest-version"
rule_text build_metadata = codes "build metadata is not supported in nextest-version"
rule_text (not_version text) = codes "invalid version " ++ quoted_text text
rule_text (required_above_recommended required recommended) =
    codes "required version ("
    ++ (parts_text required
    ++ (codes ") must not be greater than recommended version ("
    ++ (parts_text recommended ++ codes ")")))
rule_text array_form = codes "the array form of `experimental` isn't supported, use a table"
rule_text jitter_without_delay =
    codes "`jitter` cannot be true if `delay` isn't specified or is zero"
rule_text count_zero = codes "`count` cannot be zero with exponential backoff"
rule_text delay_zero = codes "`delay` cannot be zero with exponential backoff"
rule_text max_delay_zero = codes "`max-delay` cannot be zero with exponential backoff"
rule_text max_delay_below_delay =
    codes "`max-delay` cannot be less than delay with exponential backoff"
rule_text (priority_outside priority) =
    codes "priority " ++ (signed_decimal priority ++ codes " must be between -100 and 100")

-- what was found and what was expected, as a reason prints them
abbrev pub mismatch_text : List ℕ → List ℕ → List ℕ
mismatch_text found expected = found ++ (codes ", expected " ++ expected)

-- an unknown name, whose first backquote stands before it, and the known ones, as a reason prints
-- them
abbrev pub unknown_text : List ℕ → List (List ℕ) → List ℕ
unknown_text found expected = found ++ (codes "`, expected " ++ words_text expected)

-- how a reason prints
abbrev pub reason_text : Reason → List ℕ
reason_text (invalid_type found expected) = codes "invalid type: " ++ mismatch_text found expected
reason_text (invalid_value found expected) = codes "invalid value: " ++ mismatch_text found expected
reason_text (unknown_variant found expected) = codes "unknown variant `"
    ++ unknown_text found expected
reason_text (unknown_field found expected) = codes "unknown field `" ++ unknown_text found expected
reason_text (missing_field key) = codes "missing configuration field \"" ++ (key ++ codes "\"")
reason_text (custom rule) = rule_text rule
reason_text (identifier fault) = identifier_fault_text fault
reason_text (tool_name fault) = tool_name_fault_text fault

-- the path before a reason, unless it is empty
abbrev pub path_text : List ℕ → List ℕ
path_text [] = []
path_text (b ∷ rest) = (b ∷ rest) ++ codes ": "

-- how what is told prints
abbrev pub fault_text : ReadFaultView → List ℕ
fault_text told = path_text told.path ++ reason_text told.reason

-- how a kind of fault prints
abbrev pub kind_text : FaultKind → List ℕ
kind_text kind = text_or_memory reason_text (reason_of kind)

-- how a broken rule prints, whatever the format asks for: nothing is said of numbers
abbrev pub styled_rule_text : BrokenRule → Option (List ℕ)
styled_rule_text (required_above_recommended required recommended) = None
styled_rule_text (priority_outside priority) = None
styled_rule_text rule = Some (rule_text rule)

-- how a kind of fault prints, whatever the format asks for
abbrev pub styled_kind_text : FaultKind → Option (List ℕ)
styled_kind_text (kinds.Custom rule) = styled_rule_text (broken_rule rule)
styled_kind_text kind = Some (kind_text kind)

-- ---- the faults of a value

-- the value itself is refused
abbrev pub fault_here : Cause → Fault
fault_here cause = fault_with [] cause

-- the fault of what stands at a step, as one of the whole value
abbrev pub fault_below : PathStep → Fault → Fault
fault_below step fault = fault_with (step ∷ fault.steps) fault.cause

-- a value whose kind isn't the expected one
abbrev pub wrong_type : Data → List ℕ → Fault
wrong_type value expected = fault_here (for_reason (invalid_type (found_text value) expected))

-- a value of the right kind that isn't the expected one
abbrev pub wrong_value : Data → List ℕ → Fault
wrong_value value expected = fault_here (for_reason (invalid_value (found_text value) expected))

-- a text that is none of the expected words
abbrev pub unknown_word : List ℕ → List (List ℕ) → Fault
unknown_word text expected = fault_here (for_reason (unknown_variant text expected))

-- a key of a table that is none of the expected ones
abbrev pub unknown_key : List ℕ → List (List ℕ) → Fault
unknown_key key expected = fault_here (for_reason (unknown_field key expected))

-- a table that lacks this key
abbrev pub missing : List ℕ → Fault
missing key = fault_here (missing_key key)

-- ---- refusals

-- memory is wanted whatever the value is
abbrev pub Always : Type 0
Always = Unit {0}

-- the refusal is a fault of which this holds; or memory was refused, and that only where it was
-- wanted
abbrev pub Refuses : (Fault → Type 0) → Type 0 → ValueFault → Type 0
Refuses IsFault wanted fault = FaultOrMemory (fault_of fault) (IsMemory fault × wanted) IsFault

-- the refusal is this fault, or memory was refused
abbrev pub RefusesAs : Fault → ValueFault → Type 0
RefusesAs expected = Refuses (λ fault. fault ≡ expected) Always

-- the refusal is one of these faults, or memory was refused though there is one
abbrev pub RefusesOne : (Fault → Type 0) → ValueFault → Type 0
RefusesOne IsFault = Refuses IsFault ((fault : Fault) × IsFault fault)

-- the refusal is what a kind of fault says, of the value itself, or memory was refused
abbrev pub RefusesKind : FaultKind → ValueFault → Type 0
RefusesKind kind fault = FaultOrMemory (reason_of kind) (IsMemory fault)
    (λ reason. RefusesAs (fault_here (for_reason reason)) fault)

-- the refusal tells this, or that memory was refused
abbrev pub TellsAs : ReadFaultView → ReadFault → Type 0
TellsAs expected fault =
    FaultOrMemory (read_fault_view fault) (TellsMemory fault) (λ told. told ≡ expected)

-- the kind of fault says why a name is refused; or memory was refused, and the kind says that
abbrev pub IsNameKind : {Flaw : Type 0} → (NameFault Flaw → Reason) → Option (NameFault Flaw)
    → FaultKind → Type 0
IsNameKind reason told kind =
    FaultOrMemory told (kind ≡ kinds.Memory) (λ fault. reason_of kind ≡ Some (reason fault))
