-- What is reported of a text, from its first character that is no space on.
use Rattle.std.specs.Prelude.{◌≡◌, ℕ, ◌≤◌, ◌==◌, ◌||◌, Bool, true, false, List, [], ◌∷◌, codes, drop, length, Option, Some, None, if◌then◌else◌}
use Rattle.std.specs.Char.{is_whitespace}
use Rattle.std.specs.List.{list_any}
use Rattle.std.specs.Str.{drop_trailing_whitespace as without_spaces_behind}
use Rattle.nextest_config_filters.specs.Front.{behind, bytes_of, closing}
use Rattle.nextest_config_filters.specs.Platform.Key.{families, systems}
use Rattle.nextest_config_filters.specs.Platform.Reading.{not_closed}
use Rattle.nextest_config_filters.specs.Platform.Walk.{Finds, first_level, next, Outcome, passes, start, State, wrong}
use Rattle.nextest_config_filters.specs.Steps.{Leads}
use Rattle.nextest_config_filters.specs.Text.{is_one_of}
use Rattle.nextest_config_filters.specs.declared.platform.flaw.PlatformFlaw.{PlatformFlaw}
use Rattle.nextest_config_filters.specs.declared.platform.flaw.PlatformFlaw.TheVariants as flaws

-- ---- outside of `cfg(..)`

-- a character of ``( ) = ! , & | < > " ' ` ; { } [ ]``
abbrev pub is_mark : ℕ → Bool
is_mark c = list_any (λ mark. mark == c) (codes "()=!,&|<>\"'`;{}[]")

-- that stands in no name of a target
abbrev pub in_no_name : ℕ → Bool
in_no_name c = is_whitespace c || is_mark c

-- what is wrong with a word that stands for a target
abbrev pub name_flaw : List ℕ → Option PlatformFlaw
name_flaw name =
    if is_one_of name families then Some flaws.FamilyName
    else if is_one_of name systems then Some flaws.SystemName
    else if list_any in_no_name name then Some flaws.NoName
    else None

-- all of the text but the spaces at its end is reported
abbrev pub outcome_by : Option PlatformFlaw → List ℕ → List ℕ → Outcome
outcome_by None name cs = passes
outcome_by (Some flaw) name cs = wrong (record {
  from = bytes_of cs;
  behind = bytes_of (drop (length name) cs);
  flaw = flaw;
  found = name;
})

abbrev pub outside : List ℕ → Outcome
outside cs = outcome_by (name_flaw (without_spaces_behind cs)) (without_spaces_behind cs) cs

-- ---- `cfg(..)`

-- the last character is a `)`, or there is none and this is so
abbrev pub is_closed : Bool → List ℕ → Bool
is_closed so_far [] = so_far
is_closed so_far (c ∷ cs) = is_closed (c == closing) cs

-- by whether the text ends with a parenthesis
abbrev pub IsCfgOutcome : Bool → List ℕ → List ℕ → Outcome → Type 0
IsCfgOutcome false cs opened outcome = outcome ≡ wrong (not_closed (first_level cs opened))
IsCfgOutcome true cs opened outcome = Finds (start cs opened) outcome

-- by what stands behind `cfg(`
abbrev pub IsOutcomeBy : Option (List ℕ) → List ℕ → Outcome → Type 0
IsOutcomeBy None cs outcome = outcome ≡ outside cs
IsOutcomeBy (Some opened) cs outcome =
    IsCfgOutcome (is_closed false (without_spaces_behind cs)) cs opened outcome

abbrev pub IsOutcome : List ℕ → Outcome → Type 0
IsOutcome cs outcome = IsOutcomeBy (behind (codes "cfg(") cs) cs outcome

-- no more than eight groups are ever open behind this state
abbrev pub StaysShallow : State → Type 0
StaysShallow from = (state : State) → Leads next from state → length state.outer ≤ 8

abbrev pub IsShallow : List ℕ → Type 0
IsShallow cs = (opened : List ℕ) → behind (codes "cfg(") cs ≡ Some opened
    → StaysShallow (start cs opened)
