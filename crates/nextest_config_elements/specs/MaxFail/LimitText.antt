-- Fail limits as texts: `all`, or a count, with or without a colon and a mode (nextest's
-- configuration reference).
use Rattle.std.specs.Prelude.{◌≡◌, ◌≢◌, ℕ, ◌<◌, ◌^◌, ℤ, pos, neg_ℤ, ◌≤ℤ◌, ◌<ℤ◌, List, [], ◌++◌, codes, ◌⊎◌, Option, Some, None, string_bytes, FitsSigned}
use Rattle.std.specs.Int.{w64}
use Rattle.std.specs.Str.{str_to_ascii_lowercase}
use Rattle.nextest_config_values.specs.Identifier.{HasNoColon, IsCutAtColon}
use Rattle.nextest_config_values.specs.Read.{FaultOrMemory}
use Rattle.nextest_config_elements.specs.MaxFail.Limit.{mode_word}
use Rattle.nextest_config_elements.specs.MaxFail.NumberText.{IsNumberText}
use Rattle.nextest_config_elements.specs.declared.max_fail.CountFault.{CountFault}
use Rattle.nextest_config_elements.specs.declared.max_fail.CountFault.TheVariants.{Empty, InvalidDigit, TooLarge, TooSmall}
use Rattle.nextest_config_elements.specs.declared.max_fail.MaxFail.{MaxFail}
use Rattle.nextest_config_elements.specs.declared.max_fail.MaxFail.TheVariants.{Count, All}
use Rattle.nextest_config_elements.specs.declared.max_fail.MaxFailParseError.{MaxFailParseError}
use Rattle.nextest_config_elements.specs.declared.max_fail.MaxFailParseError.TheVariants as errors
use Rattle.nextest_config_elements.specs.declared.max_fail.TerminateMode.{TerminateMode}
use Rattle.nextest_config_elements.specs.declared.max_fail.TerminateMode.TheVariants.{Wait}

-- the text is `all`, in any ASCII letter case
abbrev pub IsAllText : List ℕ → Type 0
IsAllText text = str_to_ascii_lowercase text ≡ codes "all"

-- the text is a count, and what stands after its first colon, if it has one
abbrev pub IsParted : List ℕ → List ℕ → Option (List ℕ) → Type 0
IsParted text count None = HasNoColon text × (count ≡ text)
IsParted text count (Some word) = IsCutAtColon text count word

-- the mode of this word, and without a word `wait`
abbrev pub MeansMode : Option (List ℕ) → TerminateMode → Type 0
MeansMode None mode = mode ≡ Wait
MeansMode (Some word) mode = mode_word mode ≡ word

-- the text isn't `all`, and has this count and this mode
pub record HasCount (text count : List ℕ) (mode : TerminateMode) : Type 0 where
  pub not_all : ¬ (IsAllText text)
  pub word : Option (List ℕ)
  pub parted : IsParted text count word
  pub meant : MeansMode word mode

-- the count is this number, which is positive and fits an isize
pub record IsCountText (count : List ℕ) (max_fail : ℕ) : Type 0 where
  pub number : IsNumberText count (pos max_fail)
  pub positive : 0 < max_fail
  pub fits : max_fail < 2 ^ 63

-- the limit with this count and this mode
abbrev pub IsCountLimit : List ℕ → TerminateMode → MaxFail → Type 0
IsCountLimit count mode limit = (max_fail : ℕ) × IsCountText count max_fail
    × (limit ≡ Count max_fail mode)

-- the text has this limit
abbrev pub IsLimitText : List ℕ → MaxFail → Type 0
IsLimitText text All = IsAllText text
IsLimitText text (Count max_fail mode) = (count : List ℕ) × HasCount text count mode
    × IsCountText count max_fail

-- ---- why a text has none

-- why a text has no limit: the word after the colon, the count and its reason, or a number that
-- isn't positive
pub data LimitFault : Type 0 where
  bad_mode : List ℕ → LimitFault
  bad_count : List ℕ → CountFault → LimitFault
  not_positive : LimitFault

-- what a refusal says, unless memory was refused
abbrev pub limit_fault : MaxFailParseError → Option LimitFault
limit_fault (errors.Mode text) = Some (bad_mode (string_bytes text))
limit_fault (errors.Count text reason) = Some (bad_count (string_bytes text) reason)
limit_fault errors.NotPositive = Some not_positive
limit_fault errors.Memory = None

-- the word is no mode's
abbrev pub IsNoMode : List ℕ → Type 0
IsNoMode word = (mode : TerminateMode) → mode_word mode ≢ word

-- why a count is no number of an isize
abbrev pub IsCountFault : List ℕ → CountFault → Type 0
IsCountFault count Empty = count ≡ []
IsCountFault count InvalidDigit = (count ≢ []) × ((number : ℤ) → ¬ (IsNumberText count number))
IsCountFault count TooLarge = (number : ℤ) × IsNumberText count number × (pos (2 ^ 63) ≤ℤ number)
IsCountFault count TooSmall = (number : ℤ) × IsNumberText count number
    × (number <ℤ neg_ℤ (pos (2 ^ 63)))

-- the count is a number of an isize, zero or below
abbrev pub IsNotPositive : List ℕ → Type 0
IsNotPositive count = (number : ℤ) × IsNumberText count number × FitsSigned w64 number
    × (number ≤ℤ pos 0)

-- the fault of a count
abbrev pub IsBadCount : List ℕ → LimitFault → Type 0
IsBadCount count (bad_mode word) = ⊥
IsBadCount count (bad_count written reason) = (written ≡ count) × IsCountFault count reason
IsBadCount count not_positive = IsNotPositive count

-- what stands after the first colon is no mode's word
abbrev pub IsBadMode : List ℕ → LimitFault → Type 0
IsBadMode text fault = ¬ (IsAllText text) × (count word : List ℕ) × IsCutAtColon text count word
    × IsNoMode word × (fault ≡ bad_mode word)

-- the fault of a text without a limit: that of its mode, or after a mode that of its count
abbrev pub IsLimitFault : List ℕ → LimitFault → Type 0
IsLimitFault text fault = IsBadMode text fault
    ⊎ ((count : List ℕ) × (mode : TerminateMode) × HasCount text count mode
    × IsBadCount count fault)

-- the refusal is a fault of which this holds, or memory was refused
abbrev pub RefusesLimit : (LimitFault → Type 0) → MaxFailParseError → Type 0
RefusesLimit IsFault error = FaultOrMemory (limit_fault error) (error ≡ errors.Memory) IsFault

-- how the fault of a text without a limit prints
abbrev pub limit_fault_text : LimitFault → List ℕ
limit_fault_text (bad_mode text) = codes "invalid terminate mode '"
    ++ (text ++ codes "', expected 'wait' or 'immediate'")
limit_fault_text (bad_count text Empty) = codes "cannot parse integer from empty string parsing ''"
limit_fault_text (bad_count text InvalidDigit) = codes "invalid digit found in string parsing '"
    ++ (text ++ codes "'")
limit_fault_text (bad_count text TooLarge) =
    codes "number too large to fit in target type parsing '" ++ (text ++ codes "'")
limit_fault_text (bad_count text TooSmall) =
    codes "number too small to fit in target type parsing '" ++ (text ++ codes "'")
limit_fault_text not_positive = codes "max-fail may not be <= 0"
