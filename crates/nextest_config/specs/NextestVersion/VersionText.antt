-- Version texts: the three numbers of SemVer 2.0.0 (item 2) joined by dots, and nextest's short
-- form `x.y`, which stands for `x.y.0`.
use Rattle.std.specs.Prelude.{◌≡◌, ◌≢◌, ℕ, ◌<◌, ◌^◌, List, [], ◌∷◌, ◌++◌, length, slice_index, ◌⊎◌}
use Rattle.std.specs.List.{AllByRecursion}
use Rattle.std.specs.Str.Parse.{AllDigits, digits_value}
use Rattle.semver.specs.Parse.{Parts}
pub use Rattle.toml_spans.specs.Characters.{digit_zero, dot, hyphen, plus_sign}
use Rattle.nextest_config_values.specs.Read.{broken_rule, BrokenRule, build_metadata, not_version, pre_release}
use Rattle.nextest_config_values.specs.declared.read.fault.FaultKind.{FaultKind}
use Rattle.nextest_config_values.specs.declared.read.fault.FaultKind.TheVariants as kinds

-- the three numbers of a version: major, minor and patch
abbrev pub Numbers : Type 0
Numbers = ℕ × ℕ × ℕ

-- the version of these numbers, with no pre-release and no build metadata
abbrev pub plain : Numbers → Parts
plain numbers = (numbers.0, numbers.1, numbers.2, [], [])

-- a number below 2^64 in decimal digits, with no leading zero (SemVer 2.0.0, item 2)
pub record IsNumeral (text : List ℕ) (number : ℕ) : Type 0 where
  pub some : 0 < length text
  pub digits : AllDigits 10 text
  pub no_leading_zero : slice_index text 0 ≡ digit_zero → length text ≡ 1
  pub value : digits_value 10 text ≡ number
  pub fits : number < 2 ^ 64

-- the text is `x.y.z`, with these numbers (SemVer 2.0.0, item 2)
pub record IsThree (text : List ℕ) (numbers : Numbers) : Type 0 where
  pub major : List ℕ
  pub minor : List ℕ
  pub patch : List ℕ
  pub whole : text ≡ major ++ (dot ∷ (minor ++ (dot ∷ patch)))
  pub major_is : IsNumeral major numbers.0
  pub minor_is : IsNumeral minor numbers.1
  pub patch_is : IsNumeral patch numbers.2

-- the text is `x.y`, with these numbers, of which the third is zero
pub record IsTwo (text : List ℕ) (numbers : Numbers) : Type 0 where
  pub major : List ℕ
  pub minor : List ℕ
  pub whole : text ≡ major ++ (dot ∷ minor)
  pub major_is : IsNumeral major numbers.0
  pub minor_is : IsNumeral minor numbers.1
  pub patch_is : numbers.2 ≡ 0

-- the text has this version
abbrev pub IsVersionText : List ℕ → Numbers → Type 0
IsVersionText text numbers = IsThree text numbers ⊎ IsTwo text numbers

-- a byte that begins neither a pre-release nor build metadata
abbrev pub IsPlain : ℕ → Type 0
IsPlain byte = (byte ≢ hyphen) × (byte ≢ plus_sign)

-- the first hyphen or plus sign of the text is this mark
pub record HasFirstMark (mark : ℕ) (text : List ℕ) : Type 0 where
  pub before : List ℕ
  pub after : List ℕ
  pub whole : text ≡ before ++ (mark ∷ after)
  pub first : AllByRecursion IsPlain before

-- the text has no version, since it breaks this rule (SemVer 2.0.0, items 9 and 10, for the marks)
abbrev pub IsVersionFault : List ℕ → BrokenRule → Type 0
IsVersionFault text pre_release = HasFirstMark hyphen text
IsVersionFault text build_metadata = HasFirstMark plus_sign text
IsVersionFault text (not_version written) = (written ≡ text) × AllByRecursion IsPlain text
    × ((numbers : Numbers) → ¬ IsVersionText text numbers)
IsVersionFault text _ = ⊥

-- these are the parts of the text's version
abbrev pub HasVersion : List ℕ → Parts → Type 0
HasVersion text parts = (numbers : Numbers) × IsVersionText text numbers × (parts ≡ plain numbers)

-- the refusal of a text without a version: the rule that it breaks; or memory was refused
abbrev pub BreaksVersion : List ℕ → FaultKind → Type 0
BreaksVersion text (kinds.Custom rule) = IsVersionFault text (broken_rule rule)
BreaksVersion text kinds.Memory = Unit {0}
BreaksVersion text _ = ⊥
