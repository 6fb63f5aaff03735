-- What may be read at a place of a platform: how it goes on, or what is reported.
use Rattle.std.specs.Prelude.{ℕ, List, [], chars}
use Rattle.nextest_config_filters.specs.Front.{before, bytes_of, without_first}
use Rattle.nextest_config_filters.specs.declared.platform.flaw.PlatformFlaw.{PlatformFlaw}
use Rattle.nextest_config_filters.specs.declared.platform.flaw.PlatformFlaw.TheVariants as flaws
use Rattle.nextest_config_filters.specs.declared.platform.reading.FaultAt.{FaultAt as OwnFaultAt}
use Rattle.nextest_config_filters.specs.declared.platform.reading.Level.{Level}
use Rattle.nextest_config_filters.specs.declared.platform.reading.Reading.{Reading as OwnReading}
use Rattle.nextest_config_filters.specs.declared.platform.reading.Reading.TheVariants as readings

-- a fault before its hint: how many bytes are left where it begins and behind it, what is wrong,
-- and what is found
pub record FaultAt : Type 0 where
  pub from : ℕ
  pub behind : ℕ
  pub flaw : PlatformFlaw
  pub found : List ℕ

-- how a reading ends: a comma or a member stands before the rest, a group opens before it, a
-- parenthesis closes at its front, the last one stands before it, it isn't judged from here, or
-- a fault is reported
pub data Reading : Type 0 where
  separates : (rest : List ℕ) → Reading
  member : (rest : List ℕ) → Reading
  opens : (level : Level) (rest : List ℕ) → Reading
  closes : (rest : List ℕ) → Reading
  ends : (rest : List ℕ) → Reading
  unjudged : Reading
  reports : (reported : FaultAt) → Reading

-- ---- of the code's own, without where it lies in memory

abbrev pub fault_view : OwnFaultAt → FaultAt
fault_view reported = record {
  from = reported.from;
  behind = reported.behind;
  flaw = reported.flaw;
  found = chars reported.found.now;
}

abbrev pub reading_of : OwnReading → Reading
reading_of (readings.Separates rest) = separates (chars rest.now)
reading_of (readings.Member rest) = member (chars rest.now)
reading_of (readings.Opens level rest) = opens level (chars rest.now)
reading_of (readings.Closes rest) = closes (chars rest.now)
reading_of (readings.Ends rest) = ends (chars rest.now)
reading_of readings.Unjudged = unjudged
reading_of (readings.Reports reported) = reports (fault_view reported)

-- ---- what is reported

-- what stands at a place up to a rest of it
abbrev pub fault_up_to : List ℕ → List ℕ → PlatformFlaw → FaultAt
fault_up_to cs rest flaw = record {
  from = bytes_of cs;
  behind = bytes_of rest;
  flaw = flaw;
  found = before cs rest;
}

-- so many bytes, of which nothing is found
abbrev pub fault_between : ℕ → ℕ → PlatformFlaw → FaultAt
fault_between from behind flaw =
    record { from = from; behind = behind; flaw = flaw; found = [] }

-- the parenthesis of a level isn't closed
abbrev pub not_closed : Level → FaultAt
not_closed level = fault_between level.opening level.opened flaws.NotClosed

-- nothing is open that the parenthesis at the front of these characters closes
abbrev pub not_open : List ℕ → FaultAt
not_open cs = fault_up_to cs (without_first cs) flaws.NotOpen

-- something is wrong with all that a level has, up to this rest
abbrev pub fault_of_level : Level → List ℕ → PlatformFlaw → FaultAt
fault_of_level level rest flaw = fault_between level.from (bytes_of rest) flaw
