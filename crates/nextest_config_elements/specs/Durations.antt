-- Lengths of time in nanoseconds.
use Rattle.std.specs.Prelude.{◌*◌, ℕ}

-- so many milliseconds, in nanoseconds
abbrev pub milliseconds : ℕ → ℕ
milliseconds n = n * 1_000_000

-- so many seconds, in nanoseconds
abbrev pub seconds : ℕ → ℕ
seconds n = n * 1_000_000_000
