-- Refusals: what follows from a refusal, and refusals of readings that are put together.
use Rattle.std.proofs.Common.{◌≡◌, ◌⊎◌, ℕ, List, Option, Some, None, Result, Ok, IsOk, inl, inr, refl, sym, subst, rules}
use Rattle.std.proofs.Math.Logic.{⊎_map}
use Rattle.std.specs.Result.{IfErr, IsErrAnd}
use Rattle.std.specs.Prelude.{IfSome, MatchResult}
use Rattle.nextest_config_values.specs.Identifier.{Grammar, IsNormalFault, NameFault}
use Rattle.nextest_config_values.specs.Read.Fault.{Fault}
use Rattle.nextest_config_values.specs.Read.{Always, for_reason, fault_below, fault_here, fault_of, FaultOrMemory, inner_at, IsMemory, IsNameKind, IsRefusal, no_data, PathStep, Reading, Refuses, RefusesAs, RefusesAt, RefusesBy, RefusesKind, RefusesOne, TellsAs, TellsMemory, read_fault_at}
use Rattle.nextest_config_values.specs.declared.read.fault.FaultKind.{FaultKind}
use Rattle.nextest_config_values.specs.declared.read.fault.ReadFault.{ReadFault}
use Rattle.nextest_config_values.specs.declared.read.value_fault.ValueFault.{ValueFault}

pub fault_mapped : {F A B : Type 0} {P Q : F → Type 0} (told : Option F) → FaultOrMemory told A P → (A → B) → ((fault : F) → P fault → Q fault) → FaultOrMemory told B Q
fault_mapped told h f g = search rules

pub refused_mapped : {P Q : Fault → Type 0} {V W : Type 0} (fault : ValueFault) → Refuses P V fault → (V → W) → ((f : Fault) → P f → Q f) → Refuses Q W fault
refused_mapped fault refused f g = fault_mapped (fault_of fault) refused (λ memory. (memory.0, f memory.1)) g

-- a refusal as this fault, which is one of these
pub refused_as : {W : Type 0} (IsFault : Fault → Type 0) (expected : Fault) (fault : ValueFault) → W → IsFault expected → RefusesAs expected fault → Refuses IsFault W fault
refused_as IsFault expected fault wanted has refused = refused_mapped fault refused (λ memory. wanted) (λ f same. subst IsFault (sym same) has)

pub refused_as_one : (IsFault : Fault → Type 0) (expected : Fault) (fault : ValueFault) → IsFault expected → RefusesAs expected fault → RefusesOne IsFault fault
refused_as_one IsFault expected fault has = refused_as IsFault expected fault (expected, has) has

pub refused_memory : (IsFault : Fault → Type 0) {wanted : Type 0} (fault : ValueFault) → IsMemory fault → wanted → Refuses IsFault wanted fault
refused_memory IsFault fault memory wanted = rw memory (refl, wanted)

-- a refusal that `?` passes on
pub passed_on : {T E : Type 0} (IsPassed : E → Type 0) (result : Result T E) (fault : E) → IsErrAnd result (λ passed. passed ≡ fault)
    → IsPassed fault → IfErr result IsPassed
passed_on IsPassed result fault err refused = search rules

-- a refusal that says this of each one says it of one
pub refused_for : {D T E : Type 0} (IsPassed : D → E → Type 0) (result : Result T E) → IfErr result (λ e. (d : D) → IsPassed d e) → (d : D) → IfErr result (IsPassed d)
refused_for IsPassed result refused d = search rules

-- ---- of a reading

module _ {D X : Type 0} (reading : Reading D X) (value : D) where
  -- as this fault, which the value has
  pub refused_by : (expected : Fault) (fault : ValueFault) → reading.faults value expected → RefusesAs expected fault → RefusesBy reading value fault
  refused_by expected fault has refused = record { told = refused_as (reading.faults value) expected fault (inr (λ x meant. reading.law.never_both value x expected meant has)) has refused }

  -- as one fault of these
  pub refused_by_one : {IsFault : Fault → Type 0} (fault : ValueFault) → RefusesOne IsFault fault → ((f : Fault) → IsFault f → reading.faults value f) → RefusesBy reading value fault
  refused_by_one fault refused step = record { told = refused_mapped fault refused (λ one. inr (λ x meant. reading.law.never_both value x one.0 meant (step one.0 one.1))) step }

  -- the result takes memory, or there is none
  pub wanted_of : (fault : ValueFault) → RefusesBy reading value fault → reading.takes_memory value ⊎ ((x : X) → ¬ reading.means value x)
  wanted_of fault refused = by_told (fault_of fault) refused.told where
    by_told : (told : Option Fault) → FaultOrMemory told (IsMemory fault × (reading.takes_memory value ⊎ ((x : X) → ¬ reading.means value x))) (reading.faults value) → reading.takes_memory value ⊎ ((x : X) → ¬ reading.means value x)
    by_told told faulty = search rules

  -- a value that means something, and whose result takes no memory, is read
  pub read_whole : {T : Type 0} (result : Result T ValueFault) → IfErr result (RefusesBy reading value) → (x : X) → reading.means value x → ¬ reading.takes_memory value → IsOk result
  read_whole result refused x meant free = search rules

  -- what is told of the refusal at a path
  pub refused_at : (at : List ℕ) (fault : ValueFault) (told : ReadFault) → RefusesBy reading value fault → (IsMemory fault → TellsMemory told)
      → IfSome (fault_of fault) (λ f. TellsAs (read_fault_at at f) told) → RefusesAt reading value at told
  refused_at at fault told refused memory tells = search rules

  -- what is told of the refusal at a path, where `map_err` tells it
  pub refused_where : {Y : Type 0} {tells : ValueFault → ReadFault → Type 0} (at : List ℕ) (read : Result Y ValueFault) (told : Result Y ReadFault) → IfErr read (RefusesBy reading value)
      → MatchResult read (λ x. told ≡ Ok x) (λ fault. IsErrAnd told (tells fault))
      → ((fault : ValueFault) (t : ReadFault) → tells fault t → (IsMemory fault → TellsMemory t) × IfSome (fault_of fault) (λ f. TellsAs (read_fault_at at f) t))
      → IfErr told (RefusesAt reading value at)
  refused_where at read told refused is_told tells = search rules

-- ---- of readings that are put together

-- of what stands at a step
module _ {D E X : Type 0} (step : PathStep) (reading : Reading E X) (part : E) (value : D) where
  pub refused_below : (below fault : ValueFault) → RefusesBy reading part below → (IsMemory below → IsMemory fault)
      → IfSome (fault_of below) (λ f. RefusesAs (fault_below step f) fault) → RefusesBy (inner_at step reading part) value fault
  refused_below below fault refused memory tells = by_fault (fault_of below) refused.told tells where
    by_fault : (known : Option Fault) → FaultOrMemory known (IsMemory below × (reading.takes_memory part ⊎ ((x : X) → ¬ reading.means part x))) (reading.faults part)
        → IfSome known (λ f. RefusesAs (fault_below step f) fault) → RefusesBy (inner_at step reading part) value fault
    by_fault known faulty tells = search rules

module _ {X Y : Type 0} {means : X → Type 0} {IsFault : Fault → Type 0} {T : Type 0} {fault : ValueFault} where
  -- of one that says more of the value
  pub in_whole : {said : Y → Type 0} {IsSaid : Fault → Type 0} {U : Type 0} → IsRefusal means IsFault T fault → (T → U) → (((x : X) → ¬ means x) → (y : Y) → ¬ said y) → ((f : Fault) → IsFault f → IsSaid f)
      → IsRefusal said IsSaid U fault
  in_whole refused takes none step = record { told = refused_mapped fault refused.told (⊎_map takes none) step }

  -- of what another result is made of
  pub in_made : {make : X → Y} → IsRefusal means IsFault T fault → IsRefusal (λ y. (x : X) × means x × (y ≡ make x)) IsFault T fault
  in_made refused = in_whole refused (λ takes. takes) (λ none y meant. none meant.0 meant.1) (λ f faulty. faulty)

  -- of a first part
  pub in_first : {later_means : X → Y → Type 0} {later : Fault → Type 0} {U : Type 0} → IsRefusal means IsFault T fault → IsRefusal (λ y. (x : X) × means x × later_means x y) (λ f. IsFault f ⊎ later f) (T ⊎ U) fault
  in_first refused = in_whole refused inl (λ none y meant. none meant.0 meant.1) (λ f faulty. inl faulty)

-- after a first part
pub in_later : {D X Y : Type 0} (first : Reading D X) (value : D) {x : X} {later_means : X → Y → Type 0} {IsFault : Fault → Type 0} {later : X → Fault → Type 0} {T : Type 0} {U : X → Type 0} {fault : ValueFault} → first.means value x
    → IsRefusal (later_means x) (later x) (U x) fault
    → IsRefusal (λ y. (v : X) × first.means value v × later_means v y) (λ f. IsFault f ⊎ ((v : X) × first.means value v × later v f)) (T ⊎ ((v : X) × first.means value v × U v)) fault
in_later first value {x} {later_means} meant refused = in_whole refused (λ takes. inr (x, meant, takes))
    (λ none y other. none y (subst (λ v. later_means v y) (first.law.one_meaning value other.0 x other.1 meant) other.2))
    (λ f faulty. inr (x, meant, faulty))

-- ---- of a name

pub refused_name : {Flaw : Type 0} (grammar : Grammar Flaw) {X : Type 0} {means : X → Type 0} (text : List ℕ) (told : Option (NameFault Flaw)) (of_memory : Type 0) (kind : FaultKind) (fault : ValueFault)
    → FaultOrMemory told of_memory (IsNormalFault grammar.IsFlaw text) → IsNameKind grammar.reason told kind → RefusesKind kind fault
    → IsRefusal means (λ f. (name : NameFault Flaw) × IsNormalFault grammar.IsFlaw text name × (f ≡ fault_here (for_reason (grammar.reason name)))) Always fault
refused_name grammar text (Some name) of_memory kind fault flawed_so kind_is refused =
    record { told = refused_as _ (fault_here (for_reason (grammar.reason name))) fault (inl no_data) (name, flawed_so, refl) (rw kind_is at refused) }
refused_name grammar text None of_memory kind fault flawed_so kind_is refused =
    record { told = refused_memory _ fault (rw kind_is at refused) (inl no_data) }
