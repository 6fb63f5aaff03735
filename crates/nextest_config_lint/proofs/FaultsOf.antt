-- What holds of all faults of a reading, from its parts.
use Rattle.std.specs.Prelude.{◌≡◌, ◌⊎◌, Option, Some, None}
use Rattle.std.proofs.Common.{refl, inl, inr}
use Rattle.nextest_config_values.specs.Read.Fault.{Fault}
use Rattle.nextest_config_values.specs.Read.{either, Then}

-- it holds of each fault
abbrev pub AllFaults : (Fault → Type 0) → (Fault → Type 0) → Type 0
AllFaults P IsFault = (fault : Fault) → IsFault fault → P fault

pub no_fault : (P : Fault → Type 0) → AllFaults P (λ fault. ⊥)
no_fault P fault a = absurd a

pub by_kind : (P : Fault → Type 0) {K : Type 0} (faults : K → Fault → Type 0) (rest : Fault → Type 0) (found : Option K)
    → ((k : K) → found ≡ Some k → AllFaults P (faults k)) → AllFaults P rest → AllFaults P (either found faults rest)
by_kind P faults rest (Some k) each other = each k refl
by_kind P faults rest None each other = other

pub in_turn : (P : Fault → Type 0) {X : Type 0} (first : Fault → Type 0) (means : X → Type 0) (later : X → Fault → Type 0)
    → AllFaults P first → ((x : X) → AllFaults P (later x)) → AllFaults P (Then first means later)
in_turn P first means later at_first after fault (inl a) = at_first fault a
in_turn P first means later at_first after fault (inr (x, meant, a)) = after x fault a

-- of a check, and of what comes after it
pub checked : (P : Fault → Type 0) (first later : Fault → Type 0) (Passes : Type 0) → AllFaults P first → AllFaults P later
    → AllFaults P (λ fault. first fault ⊎ (Passes × later fault))
checked P first later Passes at_first after fault (inl a) = at_first fault a
checked P first later Passes at_first after fault (inr (passed, a)) = after fault a
