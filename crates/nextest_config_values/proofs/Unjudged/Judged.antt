-- Whether the without_fractions_and_gaps text is a duration.
use Rattle.std.proofs.Common.{◌≢◌, ◌↔◌, ℕ, List, Result, Ok, Err, codes, refl, inr, ⊎_elim}
use Rattle.std.specs.Prelude.{IfErr, IfOk, IsTrue, is_ok}
use Rattle.std.specs.Duration.{as_nanos}
use Rattle.std.specs.declared.time.Duration.{Duration}
use Rattle.nextest_config_values.specs.Duration.{IsDuration, IsDurationFault, never_duration_and_fault}
use Rattle.nextest_config_values.specs.declared.duration.DurationFault.{DurationFault}
use Rattle.nextest_config_values.specs.Duration.Unjudged.{MayBeDuration, without_fractions_and_gaps}

-- a text that isn't a bare 0 may be a duration where its without_fractions_and_gaps text is read as one
pub judged : (text : List ℕ) (result : Result Duration DurationFault) → text ≢ codes "0"
    → IfOk result (λ duration. IsDuration (without_fractions_and_gaps text) (as_nanos duration)) → IfErr result (IsDurationFault (without_fractions_and_gaps text)) → IsTrue (is_ok result) ↔ MayBeDuration text
judged text (Ok duration) other accepted refused = (λ ok. inr (as_nanos duration, accepted), λ may. refl)
judged text (Err fault) other accepted refused =
    (λ ok. cc ok, ⊎_elim (λ zero. absurd (other zero)) (λ some. absurd (never_duration_and_fault (without_fractions_and_gaps text) some.0 fault some.1 refused)))
