-- Whether a text is a very long duration.
use Rattle.std.proofs.Common.{◌≡◌, ◌↔◌, ℕ, List, arith, false}
use Rattle.std.proofs.lemmas.Bool.{le-leb, leb-true}
use Rattle.std.specs.Prelude.{◌≤◌, IsTrue, nat_le}
use Rattle.nextest_config_values.specs.Duration.{IsDuration, IsDurationFault, never_duration_and_fault, one_duration}
use Rattle.nextest_config_values.specs.declared.duration.DurationFault.{DurationFault}
use Rattle.nextest_config_profiles.specs.Report.NoLimit.{IsVeryLongText, very_large}

pub is_long : (text : List ℕ) (nanoseconds bound : ℕ) (given : ℕ) → IsDuration text nanoseconds → given ≡ nanoseconds → bound ≡ very_large
    → IsTrue (nat_le bound given) ↔ IsVeryLongText text
is_long text nanoseconds bound given duration same large = (
  λ long. (nanoseconds, duration, rw (← same, ← large) (leb-true bound given long)),
  λ very_long. le-leb bound given (rw (same, large, one_duration text nanoseconds very_long.0 duration very_long.1) very_long.2),
)

pub is_no_long : (text : List ℕ) (fault : DurationFault) → IsDurationFault text fault → IsTrue false ↔ IsVeryLongText text
is_no_long text fault refused = (
  λ long. absurd (cc long),
  λ very_long. absurd (never_duration_and_fault text very_long.0 fault very_long.1 refused),
)

pub never_below : (text : List ℕ) (nanoseconds bound given : ℕ) → IsDuration text nanoseconds → given ≡ nanoseconds → bound ≡ very_large
    → bound ≤ given → (other : ℕ) → IsDuration text other → very_large ≤ other
never_below text nanoseconds bound given duration same large not_below other written =
    omega (arith, not_below, same, large, one_duration text nanoseconds other duration written)

pub never_read : (text : List ℕ) (fault : DurationFault) → IsDurationFault text fault → (other : ℕ) → IsDuration text other → very_large ≤ other
never_read text fault refused other written = absurd (never_duration_and_fault text other fault written refused)
