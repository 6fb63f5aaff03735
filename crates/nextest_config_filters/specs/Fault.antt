-- What is wrong with a text, and how it prints.
use Rattle.std.specs.Prelude.{◌≤◌, length, ℕ, List, [], ◌∷◌, ◌++◌, codes, string_bytes, Option, Some, None, option_map}
use Rattle.std.specs.Str.{IsCharBoundary}
use Rattle.toml_spans.specs.QuotedText.{quoted_text}
use Rattle.nextest_config_filters.specs.Filter.Predicate.{name_of}
use Rattle.nextest_config_filters.specs.Platform.Flaw.{code_of_platform, platform_text}
use Rattle.nextest_config_filters.specs.declared.fault.Expected.{Expected}
use Rattle.nextest_config_filters.specs.declared.fault.Expected.TheVariants as expect
use Rattle.nextest_config_filters.specs.declared.fault.FilterFlaw.{FilterFlaw}
use Rattle.nextest_config_filters.specs.declared.fault.FilterFlaw.TheVariants as flaws
use Rattle.nextest_config_filters.specs.declared.fault.TextFault.{TextFault}
use Rattle.nextest_config_filters.specs.declared.fault.TextFaultCode.{TextFaultCode}
use Rattle.nextest_config_filters.specs.declared.fault.TextFaultCode.TheVariants as fault_codes
use Rattle.nextest_config_filters.specs.declared.fault.TextFaultKind.{TextFaultKind}
use Rattle.nextest_config_filters.specs.declared.fault.TextFaultKind.TheVariants as kinds
use Rattle.nextest_config_filters.specs.declared.platform.flaw.PlatformFlaw.{PlatformFlaw}

-- a fault without where its texts lie in memory: what is found there, and what may be meant
pub data Kind : Type 0 where
  filter : (flaw : FilterFlaw) (found : List ℕ) (hint : Option (List ℕ)) → Kind
  platform : (flaw : PlatformFlaw) (found : List ℕ) (hint : Option (List ℕ)) → Kind

-- the bytes from begin to end are at fault
pub record Fault : Type 0 where
  pub begin : ℕ
  pub end : ℕ
  pub kind : Kind

-- what is found, without the words in which a regular expression is refused
abbrev pub found_of : FilterFlaw → List ℕ → List ℕ
found_of flaws.InvalidRegex words = []
found_of flaw found = found

abbrev pub kind_of : TextFaultKind → Kind
kind_of (kinds.Filter flaw found hint) =
    filter flaw (found_of flaw (string_bytes found)) (option_map string_bytes hint)
kind_of (kinds.Platform flaw found hint) =
    platform flaw (string_bytes found) (option_map string_bytes hint)

abbrev pub fault_of : TextFault → Fault
fault_of fault = record { begin = fault.begin; end = fault.end; kind = kind_of fault.kind }

-- with these words
abbrev pub worded_kind_of : TextFaultKind → Kind
worded_kind_of (kinds.Filter flaw found hint) =
    filter flaw (string_bytes found) (option_map string_bytes hint)
worded_kind_of (kinds.Platform flaw found hint) =
    platform flaw (string_bytes found) (option_map string_bytes hint)

abbrev pub worded_fault_of : TextFault → Fault
worded_fault_of fault =
    record { begin = fault.begin; end = fault.end; kind = worded_kind_of fault.kind }

-- the range lies in the text, and its ends at borders of characters
pub record IsRangeIn (text : List ℕ) (begin end : ℕ) : Type 0 where
  pub in_order : begin ≤ end
  pub fits : end ≤ length text
  pub begins_character : IsCharBoundary text begin
  pub ends_character : IsCharBoundary text end

-- ---- codes

abbrev pub code_of_expected : Expected → TextFaultCode
code_of_expected expect.HostOrTarget = fault_codes.FilterArgument
code_of_expected expect.ClosingOfRegex = fault_codes.FilterArgument
code_of_expected expected = fault_codes.FilterSyntax

abbrev pub code_of_flaw : FilterFlaw → TextFaultCode
code_of_flaw (flaws.Unexpected expected) = code_of_expected expected
code_of_flaw flaws.Empty = fault_codes.FilterSyntax
code_of_flaw flaws.NotClosed = fault_codes.FilterSyntax
code_of_flaw flaws.NotOpen = fault_codes.FilterSyntax
code_of_flaw flaws.UnknownPredicate = fault_codes.UnknownPredicate
code_of_flaw flaws.AsksForItself = fault_codes.BannedPredicate
code_of_flaw flaw = fault_codes.FilterArgument

abbrev pub code_of : Kind → TextFaultCode
code_of (filter flaw found hint) = code_of_flaw flaw
code_of (platform flaw found hint) = code_of_platform flaw

-- ---- texts

-- what is found, or that it is the end
abbrev pub found_text : List ℕ → List ℕ
found_text [] = codes "the end"
found_text (b ∷ bytes) = quoted_text (b ∷ bytes)

abbrev pub expected_text : Expected → List ℕ
expected_text expect.Expression = codes "an expression"
expected_text expect.PredicateAndArgument = codes "a predicate with its argument"
expected_text (expect.Opening predicate) =
    codes "\"(\" behind " ++ quoted_text (name_of predicate)
expected_text expect.Operator = codes "an operator or the end"
expected_text expect.HostOrTarget = codes "\"host\" or \"target\""
expected_text expect.ClosingOfRegex = codes "\")\" behind the regular expression"

abbrev pub flaw_text : FilterFlaw → List ℕ → List ℕ
flaw_text flaws.Empty found = codes "a filter expression is empty"
flaw_text (flaws.Unexpected expected) found =
    codes "expected " ++ (expected_text expected ++ (codes ", found " ++ found_text found))
flaw_text flaws.NotClosed found = codes "this \"(\" isn't closed"
flaw_text flaws.NotOpen found = codes "nothing is open that this \")\" closes"
flaw_text flaws.UnknownPredicate found = codes "unknown predicate " ++ quoted_text found
flaw_text flaws.AsksForItself found =
    codes "a default-filter can't ask for \"default\", which is itself"
flaw_text (flaws.UnwantedArgument predicate) found =
    quoted_text (name_of predicate) ++ codes " takes no argument"
flaw_text (flaws.NoArgument predicate) found =
    quoted_text (name_of predicate) ++ codes " needs an argument"
flaw_text (flaws.SecondArgument predicate) found =
    quoted_text (name_of predicate) ++ codes " takes one argument, a comma in it is written \\,"
flaw_text flaws.UnknownEscape found =
    codes "unknown escape `" ++ (found ++ codes "`, a regular expression is written /../")
flaw_text flaws.UnknownCode found = codes "unknown escape `\\u`, expected `\\u{..}`"
flaw_text flaws.RegexNotClosed found =
    codes "this \"/\" begins a regular expression that isn't closed"
flaw_text flaws.InvalidRegex words = codes "not a regular expression: " ++ words

abbrev pub hint_text : Option (List ℕ) → List ℕ
hint_text None = []
hint_text (Some hint) = codes ", did you mean " ++ quoted_text hint

abbrev pub kind_text : Kind → List ℕ
kind_text (filter flaw found hint) = flaw_text flaw found ++ hint_text hint
kind_text (platform flaw found hint) = platform_text flaw found ++ hint_text hint

abbrev pub fault_text : Fault → List ℕ
fault_text fault = kind_text fault.kind
