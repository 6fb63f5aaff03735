-- What may be read at a place: how it goes on, or what is reported.
use Rattle.std.specs.Prelude.{ℕ, List, [], ◌∷◌, chars}
use Rattle.nextest_config_filters.specs.Front.{behind_standing, closing, opening, standing}
use Rattle.nextest_config_filters.specs.declared.fault.Expected.{Expected}
use Rattle.nextest_config_filters.specs.declared.fault.FilterFlaw.{FilterFlaw}
use Rattle.nextest_config_filters.specs.declared.fault.FilterFlaw.TheVariants as flaws
use Rattle.nextest_config_filters.specs.declared.filter.reading.Expects.{Expects}
use Rattle.nextest_config_filters.specs.declared.filter.reading.FaultAt.{FaultAt as OwnFaultAt}
use Rattle.nextest_config_filters.specs.declared.filter.reading.Reading.{Reading as OwnReading}
use Rattle.nextest_config_filters.specs.declared.filter.reading.Reading.TheVariants as readings

-- a fault before its hint: the characters at fault, what is behind them, what is wrong, and what
-- is found
pub record FaultAt : Type 0 where
  pub what : List ℕ
  pub behind : List ℕ
  pub flaw : FilterFlaw
  pub found : List ℕ

-- how a reading ends: it goes on in a state with what stands behind, a parenthesis opens or closes
-- before that, the text ends, it isn't judged from here, or a fault is reported
pub data Reading : Type 0 where
  goes_on : (expects : Expects) (rest : List ℕ) → Reading
  opens : (rest : List ℕ) → Reading
  closes : (rest : List ℕ) → Reading
  ends : Reading
  unjudged : Reading
  reports : (reported : FaultAt) → Reading

-- ---- of the code's own, without where it lies in memory

abbrev pub fault_view : OwnFaultAt → FaultAt
fault_view reported = record {
  what = chars reported.what.now;
  behind = chars reported.behind.now;
  flaw = reported.flaw;
  found = chars reported.found.now;
}

abbrev pub reading_of : OwnReading → Reading
reading_of (readings.GoesOn expects rest) = goes_on expects (chars rest.now)
reading_of (readings.Opens rest) = opens (chars rest.now)
reading_of (readings.Closes rest) = closes (chars rest.now)
reading_of readings.Ends = ends
reading_of readings.Unjudged = unjudged
reading_of (readings.Reports reported) = reports (fault_view reported)

-- ---- what is reported

-- these characters are reported, which are what is found
abbrev pub fault_at : List ℕ → List ℕ → FilterFlaw → FaultAt
fault_at what behind flaw = record { what = what; behind = behind; flaw = flaw; found = what }

-- something else is expected than what stands here
abbrev pub unexpected : Expected → List ℕ → Reading
unexpected expected cs =
    reports (fault_at (standing cs) (behind_standing cs) (flaws.Unexpected expected))

-- the parenthesis before these characters isn't closed
abbrev pub not_closed : List ℕ → FaultAt
not_closed cs = fault_at (opening ∷ []) cs flaws.NotClosed

-- nothing is open that the parenthesis before these characters closes
abbrev pub not_open : List ℕ → FaultAt
not_open cs = fault_at (closing ∷ []) cs flaws.NotOpen
