-- What the answer of a reader says of what is meant, where results take no memory.
use Rattle.std.proofs.Common.{◌≡◌, ℕ, Bool, false, true, Option, Some, None, Result, Ok, Err, subst}
use Rattle.std.proofs.Math.Logic.{⊎_elim}
use Rattle.std.proofs.lemmas.Bool.{lt-ltb, ltb-true}
use Rattle.std.specs.Prelude.{◌↔◌, ◌<◌, nat_lt, IfErr, IfOk, IsTrue, List, MatchOption}
use Rattle.std.specs.Option.{unwrap_or}
use Rattle.std.specs.Result.{result_ok}
use Rattle.toml.specs.Data.{as_bool, as_str, Data, get_member, Members}
use Rattle.nextest_config_values.proofs.Faults.{wanted_of}
use Rattle.nextest_config_values.specs.Duration.{duration_reading}
use Rattle.nextest_config_values.specs.Read.{bool_reading, either, or_default, Reading, RefusesBy, required}
use Rattle.nextest_config_values.specs.declared.read.value_fault.ValueFault.{ValueFault}

module _ {D X : Type 0} (reading : Reading D X) (value : D) where
  -- a refusal then says that nothing is meant, also where memory ran out
  pub none_meant : (fault : ValueFault) → ¬ reading.takes_memory value → RefusesBy reading value fault → (x : X) → ¬ reading.means value x
  none_meant fault free refused = ⊎_elim (λ takes. absurd (free takes)) (λ none. none) (wanted_of reading value fault refused)

  -- `ok` of the answer then has what is meant, or nothing is meant
  pub meant_or_none : {T : Type 0} (seen : T → X) (r : Result T ValueFault) (read : Option T) → read ≡ result_ok r → ¬ reading.takes_memory value → IfOk r (λ t. reading.means value (seen t)) → IfErr r (RefusesBy reading value)
      → MatchOption read ((x : X) → ¬ reading.means value x) (λ t. reading.means value (seen t))
  meant_or_none seen (Ok t) read is_ok free meant refused = rw is_ok meant
  meant_or_none seen (Err fault) read is_ok free meant refused = rw is_ok (none_meant fault free refused)

  -- a value means another thing exactly where that is the same
  pub same_meant : (x y : X) (answer : Bool) → reading.means value x → (IsTrue answer ↔ (x ≡ y)) → IsTrue answer ↔ reading.means value y
  same_meant x y answer meant same = ((λ yes. subst (reading.means value) (same.0 yes) meant), (λ other. same.1 (reading.law.one_meaning value x y meant other)))

-- a truth that isn't read counts as false
pub truth_or_false : {D : Type 0} (reading : Reading D Bool) (value : D) (read : Option Bool) → MatchOption read ((x : Bool) → ¬ reading.means value x) (reading.means value) → IsTrue (unwrap_or read false) ↔ reading.means value true
truth_or_false reading value (Some truth) meant = same_meant reading value truth true truth meant ((λ same. same), (λ same. same))
truth_or_false reading value None none = ((λ yes. cc yes), (λ meant. absurd (none true meant)))

-- ---- results that take no memory

either_free : {K : Type 0} {Takes : K → Type 0} {Rest : Type 0} (found : Option K) → ((k : K) → ¬ Takes k) → ¬ Rest → ¬ either found Takes Rest
either_free (Some k) free rest = free k
either_free None free rest = rest

bool_free : (value : Data) → ¬ bool_reading.takes_memory value
bool_free value = either_free (as_bool value) (λ truth none. none) (λ none. none)

duration_free : (value : Data) → ¬ duration_reading.takes_memory value
duration_free value = either_free (as_str value) (λ text none. none) (λ none. none)

pub duration_at_free : (key : List ℕ) (members : Members) → ¬ (required key duration_reading).takes_memory members
duration_at_free key members = either_free (get_member key members) duration_free (λ none. none)

pub delay_free : (key : List ℕ) (delay : ℕ) (members : Members) → ¬ (or_default key delay duration_reading).takes_memory members
delay_free key delay members = either_free (get_member key members) duration_free (λ none. none)

pub jitter_free : (key : List ℕ) (jitter : Bool) (members : Members) → ¬ (or_default key jitter bool_reading).takes_memory members
jitter_free key jitter members = either_free (get_member key members) bool_free (λ none. none)

-- ---- one value below another

pub below_meant : {D : Type 0} (first second : Reading D ℕ) (value : D) (x y : ℕ) → first.means value x → second.means value y
    → IsTrue (nat_lt x y) ↔ ((m : ℕ) × first.means value m × ((n : ℕ) × second.means value n × (m < n)))
below_meant first second value x y of_first of_second = (
  (λ below. (x, of_first, (y, of_second, ltb-true x y below))),
  (λ such. lt-ltb x y (subst (λ m. m < y) (first.law.one_meaning value such.0 x such.1 of_first) (subst (λ n. such.0 < n) (second.law.one_meaning value such.2.0 y such.2.1 of_second) such.2.2))),
)
