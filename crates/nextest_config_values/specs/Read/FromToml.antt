-- What a reader of TOML values is: what values mean, what is wrong with them, and how it refuses.
use Rattle.std.specs.Prelude.{◌≡◌, ◌⊎◌, ℕ, List}
use Rattle.nextest_config_values.specs.Once.{HasMeaningOrFault}
use Rattle.nextest_config_values.specs.Read.Fault.{Fault, Refuses, TellsMemory, read_fault_at, read_fault_view, ReadFaultView}
use Rattle.nextest_config_values.specs.Read.Text.{FaultOrMemory}
use Rattle.nextest_config_values.specs.declared.read.fault.ReadFault.{ReadFault}
use Rattle.nextest_config_values.specs.declared.read.value_fault.ValueFault.{ValueFault}

-- each value has one result and no fault, or no result and one fault; running out of memory is no
-- fault
pub record IsReading {D X : Type 0} (means : D → X → Type 0) (faults : D → Fault → Type 0) : Type 0
  where
    pub meaning_or_fault : (value : D) → HasMeaningOrFault (means value) (faults value)
    pub one_meaning : (value : D) (x y : X) → means value x → means value y → x ≡ y
    pub one_fault : (value : D) (f g : Fault) → faults value f → faults value g → f ≡ g
    pub never_both : (value : D) (x : X) (f : Fault) → means value x → faults value f → ⊥

-- what values mean, what is wrong with them, and whose results take memory
pub record Reading (D X : Type 0) : Type 1 where
  pub means : D → X → Type 0
  pub faults : D → Fault → Type 0
  pub takes_memory : D → Type 0
  pub law : IsReading means faults

-- memory is wanted where the result takes some or there is none
abbrev pub WantsMemory : {X : Type 0} → (X → Type 0) → Type 0 → Type 0
WantsMemory {X} means takes = takes ⊎ ((x : X) → ¬ means x)

-- the refusal is such a fault; or memory was refused where it was wanted
pub record IsRefusal {X : Type 0} (means : X → Type 0) (IsFault : Fault → Type 0) (takes : Type 0)
    (fault : ValueFault) : Type 0 where
  pub told : Refuses IsFault (WantsMemory means takes) fault

-- a value is refused by a reading: for a fault of it; or memory was refused where it was wanted
abbrev pub RefusesBy : {D X : Type 0} → Reading D X → D → ValueFault → Type 0
RefusesBy reading value =
    IsRefusal (reading.means value) (reading.faults value) (reading.takes_memory value)

-- what is told of the fault of a value at a path
abbrev pub faults_at : {D X : Type 0} → Reading D X → D → List ℕ → ReadFaultView → Type 0
faults_at reading value at told =
    (fault : Fault) × reading.faults value fault × (told ≡ read_fault_at at fault)

-- a value at a path is refused by a reading: its fault is told there; or memory was refused where
-- it was wanted
abbrev pub RefusesAt : {D X : Type 0} → Reading D X → D → List ℕ → ReadFault → Type 0
RefusesAt reading value at fault = FaultOrMemory (read_fault_view fault)
    (TellsMemory fault × WantsMemory (reading.means value) (reading.takes_memory value))
    (faults_at reading value at)
