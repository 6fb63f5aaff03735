-- The codes of findings.
use Rattle.std.specs.Prelude.{◌≡◌, ℕ, List, [], ◌∷◌, codes, Option, Some, None}
use Rattle.std.proofs.Common.{rules}
use Rattle.nextest_config_values.specs.Read.{BrokenRule, Reason, reason_of, value_of}
use Rattle.nextest_config_values.specs.declared.read.fault.FaultKind.{FaultKind}
use Rattle.nextest_config_values.specs.Read.Fault as faults
use Rattle.nextest_config_filters.specs.Fault.{code_of}
use Rattle.nextest_config_filters.specs.declared.fault.TextFaultCode.{TextFaultCode}
use Rattle.nextest_config_filters.specs.declared.fault.TextFaultCode.TheVariants as texts
use Rattle.nextest_config_lint.specs.Found.{FoundKind}
use Rattle.nextest_config_lint.specs.Found as found
use Rattle.nextest_config_lint.specs.declared.code.FindingCode.{FindingCode}
use Rattle.nextest_config_lint.specs.declared.code.FindingCode.TheVariants as code
use Rattle.nextest_config_elements.specs.declared.named.NamedKind.{NamedKind}
use Rattle.nextest_config_elements.specs.declared.named.NamedKind.TheVariants as kinds

-- ---- their words

-- the word of a code, by which it is printed and asked for
abbrev pub code_word : FindingCode → List ℕ
code_word code.NotUtf8 = codes "not-utf8"
code_word code.NotToml = codes "not-toml"
code_word code.InvalidType = codes "invalid-type"
code_word code.InvalidValue = codes "invalid-value"
code_word code.UnknownVariant = codes "unknown-variant"
code_word code.UnknownField = codes "unknown-field"
code_word code.MissingField = codes "missing-field"
code_word code.PreRelease = codes "pre-release"
code_word code.BuildMetadata = codes "build-metadata"
code_word code.NotVersion = codes "not-version"
code_word code.RequiredAboveRecommended = codes "required-above-recommended"
code_word code.JitterWithoutDelay = codes "jitter-without-delay"
code_word code.CountZero = codes "count-zero"
code_word code.DelayZero = codes "delay-zero"
code_word code.MaxDelayZero = codes "max-delay-zero"
code_word code.MaxDelayBelowDelay = codes "max-delay-below-delay"
code_word code.Priority = codes "priority"
code_word code.ArrayForm = codes "array-form"
code_word code.ToolFeatures = codes "tool-features"
code_word code.UnknownFeature = codes "unknown-feature"
code_word code.UnknownKey = codes "unknown-key"
code_word code.UndefinedGroup = codes "undefined-group"
code_word code.UndefinedProfile = codes "undefined-profile"
code_word code.DefaultInherits = codes "default-inherits"
code_word code.InheritsItself = codes "inherits-itself"
code_word code.OverrideOfAll = codes "override-of-all"
code_word code.ReservedProfile = codes "reserved-profile"
code_word code.GroupName = codes "group-name"
code_word code.UndefinedScript = codes "undefined-script"
code_word code.ScriptName = codes "script-name"
code_word code.FeatureNotEnabled = codes "feature-not-enabled"
code_word code.OverrideDefaultFilter = codes "override-default-filter"
code_word code.FilterSyntax = codes "filter-syntax"
code_word code.UnknownPredicate = codes "unknown-predicate"
code_word code.BannedPredicate = codes "banned-predicate"
code_word code.FilterArgument = codes "filter-argument"
code_word code.PlatformSyntax = codes "platform-syntax"
code_word code.PlatformWord = codes "platform-word"
code_word code.UnjudgedDuration = codes "unjudged-duration"
code_word code.DeprecatedArray = codes "deprecated-array"

-- all codes, in the order in which they are listed
abbrev pub codes_in_order : List FindingCode
codes_in_order =
    code.NotUtf8
    ∷ code.NotToml
    ∷ code.InvalidType
    ∷ code.InvalidValue
    ∷ code.UnknownVariant
    ∷ code.UnknownField
    ∷ code.MissingField
    ∷ code.PreRelease
    ∷ code.BuildMetadata
    ∷ code.NotVersion
    ∷ code.RequiredAboveRecommended
    ∷ code.JitterWithoutDelay
    ∷ code.CountZero
    ∷ code.DelayZero
    ∷ code.MaxDelayZero
    ∷ code.MaxDelayBelowDelay
    ∷ code.Priority
    ∷ code.ArrayForm
    ∷ code.ToolFeatures
    ∷ code.UnknownFeature
    ∷ code.UnknownKey
    ∷ code.UndefinedGroup
    ∷ code.UndefinedProfile
    ∷ code.DefaultInherits
    ∷ code.InheritsItself
    ∷ code.OverrideOfAll
    ∷ code.ReservedProfile
    ∷ code.GroupName
    ∷ code.UndefinedScript
    ∷ code.ScriptName
    ∷ code.FeatureNotEnabled
    ∷ code.OverrideDefaultFilter
    ∷ code.FilterSyntax
    ∷ code.UnknownPredicate
    ∷ code.BannedPredicate
    ∷ code.FilterArgument
    ∷ code.PlatformSyntax
    ∷ code.PlatformWord
    ∷ code.UnjudgedDuration
    ∷ code.DeprecatedArray
    ∷ []

pub code_reads_back : (one : FindingCode)
    → value_of code_word codes_in_order (code_word one) ≡ Some one
code_reads_back one = search rules

-- ---- of what is found

-- the code for a rule that is broken
abbrev pub rule_code : BrokenRule → FindingCode
rule_code faults.array_form = code.ArrayForm
rule_code faults.pre_release = code.PreRelease
rule_code faults.build_metadata = code.BuildMetadata
rule_code (faults.not_version text) = code.NotVersion
rule_code (faults.required_above_recommended required recommended) = code.RequiredAboveRecommended
rule_code faults.jitter_without_delay = code.JitterWithoutDelay
rule_code faults.count_zero = code.CountZero
rule_code faults.delay_zero = code.DelayZero
rule_code faults.max_delay_zero = code.MaxDelayZero
rule_code faults.max_delay_below_delay = code.MaxDelayBelowDelay
rule_code (faults.priority_outside priority) = code.Priority

-- the code for a refusal: that of its kind, or of the rule that is broken
abbrev pub reason_code : Reason → FindingCode
reason_code (faults.invalid_type found expected) = code.InvalidType
reason_code (faults.invalid_value found expected) = code.InvalidValue
reason_code (faults.unknown_variant found expected) = code.UnknownVariant
reason_code (faults.unknown_field found expected) = code.UnknownField
reason_code (faults.missing_field key) = code.MissingField
reason_code (faults.custom rule) = rule_code rule
reason_code (faults.identifier fault) = code.InvalidValue
reason_code (faults.tool_name fault) = code.InvalidValue

-- the code for what a fault reports; of a refusal of memory, which reports nothing, `invalid-value`
abbrev pub reason_reported_code : Option Reason → FindingCode
reason_reported_code (Some reason) = reason_code reason
reason_reported_code None = code.InvalidValue

-- the code for a fault, by what it reports
abbrev pub fault_code : FaultKind → FindingCode
fault_code fault = reason_reported_code (reason_of fault)

-- the code for what is wrong with a text
abbrev pub text_code : TextFaultCode → FindingCode
text_code texts.FilterSyntax = code.FilterSyntax
text_code texts.UnknownPredicate = code.UnknownPredicate
text_code texts.BannedPredicate = code.BannedPredicate
text_code texts.FilterArgument = code.FilterArgument
text_code texts.PlatformSyntax = code.PlatformSyntax
text_code texts.PlatformWord = code.PlatformWord

-- the code for an undefined name of a kind
abbrev pub undefined_code : NamedKind → FindingCode
undefined_code kinds.Group = code.UndefinedGroup
undefined_code (kinds.Script script) = code.UndefinedScript

-- the code for a text that is no name of a kind here
abbrev pub name_code : NamedKind → FindingCode
name_code kinds.Group = code.GroupName
name_code (kinds.Script script) = code.ScriptName

-- the code of what is found, which for a refused value is that of the refusal
abbrev pub found_code : FoundKind → FindingCode
found_code (found.refused reason severity hint) = reason_code reason
found_code (found.wrong_text fault) = text_code (code_of fault.kind)
found_code (found.tool_names names) = code.ToolFeatures
found_code (found.unknown_name name hint) = code.UnknownFeature
found_code (found.unknown_key name hint) = code.UnknownKey
found_code (found.undefined_name kind name hint) = undefined_code kind
found_code (found.other_script script name) = code.UndefinedScript
found_code (found.undefined_profile name hint) = code.UndefinedProfile
found_code found.default_inherits = code.DefaultInherits
found_code (found.inherits_itself name) = code.InheritsItself
found_code found.override_of_all = code.OverrideOfAll
found_code found.script_of_all = code.OverrideOfAll
found_code found.default_filter_beside = code.OverrideDefaultFilter
found_code found.default_filter_alone = code.OverrideDefaultFilter
found_code found.reserved_profile = code.ReservedProfile
found_code (found.no_name kind reason) = name_code kind
found_code (found.outside_tool kind mark) = name_code kind
found_code (found.name_of_tool kind) = name_code kind
found_code (found.setup_script_too name) = code.ScriptName
found_code (found.feature_not_enabled script) = code.FeatureNotEnabled
found_code found.unjudged = code.UnjudgedDuration
found_code (found.deprecated_array table) = code.DeprecatedArray
found_code found.not_utf8 = code.NotUtf8
found_code (found.not_toml message mistake) = code.NotToml

-- the code of what a finding reports; of a refusal of memory, which reports nothing,
-- `invalid-value`
abbrev pub reported_code : Option FoundKind → FindingCode
reported_code (Some kind) = found_code kind
reported_code None = code.InvalidValue
