-- The words of the command line.
use Rattle.std.specs.Prelude.{◌≡◌, ℕ, Bool, true, false, ◌&&◌, List, [], ◌∷◌, ◌++◌, codes, map, string_bytes, Option, Some, None, Result, Ok, Err, String, nat_eq, if◌then◌else◌}
use Rattle.std.specs.Cmp.Lexicographic.{pointwise}
use Rattle.std.specs.declared.alloc.Global.{Global}
use Rattle.semver.specs.Identifiers.{parts_of}
use Rattle.semver.specs.Parse.{Parts, version_parts}
use Rattle.semver.specs.declared.error.Error.{Error}
use Rattle.nextest_config_report.specs.declared.exit_status.ExitStatus.{ExitStatus}
use Rattle.nextest_config_report.specs.declared.exit_status.ExitStatus.TheVariants.{NoOutcome, Refused}
use Rattle.nextest_config.specs.declared.nextest_version.edition.Edition.{Edition}
use Rattle.nextest_config.specs.declared.nextest_version.edition.Edition.TheVariants.{ArrayAllowed, TableOnly}
use Rattle.nextest_config_check.specs.declared.command_line.Check.{Check}
use Rattle.nextest_config_check.specs.declared.command_line.WordsFault.{WordsFault}
use Rattle.nextest_config_check.specs.declared.command_line.WordsFault.TheVariants as words

-- what the words ask for: a check of the current version, with the check overridden or not, under
-- an edition; or they are refused with a text
pub data CommandLine : Type 0 where
  check : Parts → Bool → Edition → CommandLine
  complain : List ℕ → CommandLine

-- how the program is called
abbrev pub usage_text : List ℕ
usage_text = codes "usage: nextest_config_check CURRENT [--override] [--table-only]"

-- the refusal of words that are no call of the program: how it is called
abbrev pub usage : CommandLine
usage = complain (usage_text ++ codes "\n")

-- how the refusal of a word that is no version prints
abbrev pub not_version_text : List ℕ → List ℕ
not_version_text word = codes "not a version: " ++ word

-- what a word asks for, by the version (SemVer 2.0.0) that it spells, if it spells one
abbrev pub check_of : List ℕ → Bool → Edition → Result Parts Error → CommandLine
check_of word overridden edition (Ok current) = check current overridden edition
check_of word overridden edition (Err e) = complain (not_version_text word ++ codes "\n")

-- the word is this one
abbrev pub is_word : List ℕ → List ℕ → Bool
is_word word other = pointwise nat_eq word other

-- what the flags ask for, in their order: whether the check is overridden, and the edition
abbrev pub flags_of : List (List ℕ) → Option (Bool × Edition)
flags_of [] = Some (false, ArrayAllowed)
flags_of (flag ∷ []) = if is_word flag (codes "--override") then Some (true, ArrayAllowed)
    else (if is_word flag (codes "--table-only") then Some (false, TableOnly) else None)
flags_of (first ∷ second ∷ []) = if is_word first (codes "--override")
    && is_word second (codes "--table-only") then Some (true, TableOnly) else None
flags_of arguments = None

-- what a word asks for under its flags, where they are the program's; else `usage`
abbrev pub check_with : List ℕ → Option (Bool × Edition) → CommandLine
check_with current None = usage
check_with current (Some (overridden, edition)) =
    check_of current overridden edition (version_parts current)

-- what the words of the command line ask for, without the program's name
abbrev pub command_line_from : List (List ℕ) → CommandLine
command_line_from [] = usage
command_line_from (current ∷ flags) = check_with current (flags_of flags)

-- what these words ask for
abbrev pub command_line_of : List (String Global) → CommandLine
command_line_of words = command_line_from (map string_bytes words)

-- where the words are refused with a text, the fact holds of it
abbrev pub IfComplaint : CommandLine → (List ℕ → Type 0) → Type 0
IfComplaint (check current overridden edition) fact = Unit {0}
IfComplaint (complain text) fact = fact text

-- where the words ask for a check, the fact holds of it
abbrev pub IfCheck : CommandLine → (Parts → Bool → Edition → Type 0) → Type 0
IfCheck (check current overridden edition) fact = fact current overridden edition
IfCheck (complain text) fact = Unit {0}

-- what a fault of the words prints
abbrev pub words_fault_text : WordsFault → List ℕ
words_fault_text words.Usage = usage_text
words_fault_text (words.NotVersion word) = not_version_text word.now
words_fault_text words.Memory = codes "out of memory"

-- the words are refused with this fault; memory runs out only where they ask for a check
abbrev pub IsWordsFault : CommandLine → WordsFault → Type 0
IsWordsFault line words.Usage = line ≡ usage
IsWordsFault line (words.NotVersion word) =
    line ≡ complain (not_version_text word.now ++ codes "\n")
IsWordsFault line words.Memory = IfComplaint line (λ text. ⊥)

-- the words ask for this check
abbrev pub AsksCheck : CommandLine → Check → Type 0
AsksCheck line asked = line ≡ check (parts_of asked.current) asked.override_version_check
    asked.edition

-- how the program ends after a fault of the words
abbrev pub words_status : WordsFault → ExitStatus
words_status words.Usage = Refused
words_status (words.NotVersion word) = Refused
words_status words.Memory = NoOutcome
