-- Times, as a duration that nextest reads.
use Rattle.std.specs.Prelude.{ℕ, ◌/◌, ◌%◌, ◌==◌, Bool, not, List, ◌∷◌, [], ◌++◌, codes, decimal, filter, if◌then◌else◌}
use Rattle.std.specs.List.{join_by}

-- how often a unit goes into a time, and its word
abbrev pub Part : Type 0
Part = ℕ × List ℕ

-- a microsecond, in nanoseconds
abbrev pub microsecond : ℕ
microsecond = 1_000

-- a millisecond, in nanoseconds
abbrev pub millisecond : ℕ
millisecond = 1_000_000

-- a second, in nanoseconds
abbrev pub second : ℕ
second = 1_000_000_000

-- a minute, in nanoseconds
abbrev pub minute : ℕ
minute = 60_000_000_000

-- an hour, in nanoseconds
abbrev pub hour : ℕ
hour = 3_600_000_000_000

-- a day, in nanoseconds
abbrev pub day : ℕ
day = 86_400_000_000_000

-- a week, in nanoseconds
abbrev pub week : ℕ
week = 604_800_000_000_000

-- how often each unit goes into so many nanoseconds, the greatest first, each into what the one
-- before it leaves
abbrev pub time_parts : ℕ → List Part
time_parts time =
    (time / week, codes "w")
    ∷ (time % week / day, codes "d")
    ∷ (time % day / hour, codes "h")
    ∷ (time % hour / minute, codes "m")
    ∷ (time % minute / second, codes "s")
    ∷ (time % second / millisecond, codes "ms")
    ∷ (time % millisecond / microsecond, codes "us")
    ∷ (time % microsecond, codes "ns")
    ∷ []

-- the unit goes in
abbrev pub goes_in : Part → Bool
goes_in (number, unit) = not (number == 0)

-- NUMBERUNIT
abbrev pub part_text : Part → List ℕ
part_text (number, unit) = decimal number ++ unit

-- the parts of a time with a blank between two, without those of units that don't go in; 0s where
-- none goes in
abbrev pub time_text : ℕ → List ℕ
time_text time = if time == 0 then codes "0s"
    else join_by part_text (codes " ") (filter goes_in (time_parts time))
