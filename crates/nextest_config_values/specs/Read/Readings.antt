-- Readings that are put together: of a part, by kind, in turn, and after a check.
use Rattle.std.specs.Prelude.{◌≡◌, ◌⊎◌, ℕ, List, Option, Some, None}
use Rattle.std.proofs.Common.{refl, sym, ap, ◌∙◌, subst, inl, inr, rules}
use Rattle.toml.specs.Data.{Data}
use Rattle.nextest_config_values.specs.Decisions.{IsDecided, IsFoundOrNone}
use Rattle.nextest_config_values.specs.Once.{HasMeaningOrFault}
use Rattle.nextest_config_values.specs.Read.Fault.{Always, for_reason, BrokenRule, custom, Fault, fault_below, fault_here, wrong_type, wrong_value}
use Rattle.nextest_config_values.specs.Read.FromToml.{Reading}
use Rattle.toml_spans.specs.Step.{PathStep}

-- this result, whatever the value is
abbrev pub only : {D X : Type 0} → X → Reading D X
only result = record {
  means = λ value x. x ≡ result;
  faults = λ value fault. ⊥;
  takes_memory = λ value. ⊥;
  law = record {
    meaning_or_fault = λ value. inl (result, refl);
    one_meaning = λ value x y a b. a ∙ sym b;
    one_fault = λ value f g a b. absurd a;
    never_both = λ value x f a b. b;
  };
}

-- no value is taken: each has this fault
abbrev pub no_value : {D X : Type 0} → (D → Fault) → Reading D X
no_value fault_of = record {
  means = λ value x. ⊥;
  faults = λ value fault. fault ≡ fault_of value;
  takes_memory = λ value. ⊥;
  law = record {
    meaning_or_fault = λ value. inr (fault_of value, refl);
    one_meaning = λ value x y a b. absurd a;
    one_fault = λ value f g a b. a ∙ sym b;
    never_both = λ value x f a b. a;
  };
}

pub meaning_or_fault_that : {X : Type 0} {Holds : X → Type 0} → IsFoundOrNone Holds
    → (fault : Fault)
    → HasMeaningOrFault Holds (λ f. ((x : X) → ¬ Holds x) × (f ≡ fault))
meaning_or_fault_that (inl found) fault = inl found
meaning_or_fault_that (inr none) fault = inr (fault, (none, refl))

-- the one result of which this holds; where it holds of none, the value has this fault
abbrev pub one_that : {D X : Type 0} → (Holds : X → Type 0)
    → ((x y : X) → Holds x → Holds y → x ≡ y) → IsFoundOrNone Holds → (D → Fault)
    → Reading D X
one_that {D} {X} Holds one found fault_of = record {
  means = λ value. Holds;
  faults = λ value fault. ((x : X) → ¬ Holds x) × (fault ≡ fault_of value);
  takes_memory = λ value. ⊥;
  law = record {
    meaning_or_fault = λ value. meaning_or_fault_that found (fault_of value);
    one_meaning = λ value. one;
    one_fault = λ value f g a b. a.1 ∙ sym b.1;
    never_both = λ value x f a b. b.0 x a;
  };
}

-- a value of another kind (of those of TOML 1.1) than the expected one
abbrev pub wrong_kind : {X : Type 0} → List ℕ → Reading Data X
wrong_kind expected = no_value (λ value. wrong_type value expected)

-- a value of the right kind that isn't the expected one
abbrev pub outside : {X : Type 0} → List ℕ → Reading Data X
outside expected = no_value (λ value. wrong_value value expected)

-- the results are kept in memory
abbrev pub in_memory : {D X : Type 0} → Reading D X → Reading D X
in_memory reading = record {
  means = reading.means;
  faults = reading.faults;
  takes_memory = λ value. Always;
  law = reading.law;
}

pub meaning_or_fault_made : {X Y F : Type 0} {means : X → Type 0} {is_fault : F → Type 0}
    (make : X → Y)
    → HasMeaningOrFault means is_fault
    → HasMeaningOrFault (λ y. (x : X) × means x × (y ≡ make x)) is_fault
meaning_or_fault_made make (inl (x, meant)) = inl (make x, (x, meant, refl))
meaning_or_fault_made make (inr wrong) = inr wrong

-- what is made of the results
abbrev pub made_of : {D X Y : Type 0} → (X → Y) → Reading D X → Reading D Y
made_of {D} {X} make reading = record {
  means = λ value y. (x : X) × reading.means value x × (y ≡ make x);
  faults = reading.faults;
  takes_memory = reading.takes_memory;
  law = record {
    meaning_or_fault = λ value. meaning_or_fault_made make (reading.law.meaning_or_fault value);
    one_meaning = λ value y z a b. a.2
        ∙ ap make (reading.law.one_meaning value a.0 b.0 a.1 b.1) ∙ sym b.2;
    one_fault = reading.law.one_fault;
    never_both = λ value y f a. reading.law.never_both value a.0 f a.1;
  };
}

-- what a value holds, as the value's own
abbrev pub inner : {D E X : Type 0} → Reading E X → E → Reading D X
inner reading part = record {
  means = λ value. reading.means part;
  faults = λ value. reading.faults part;
  takes_memory = λ value. reading.takes_memory part;
  law = record {
    meaning_or_fault = λ value. reading.law.meaning_or_fault part;
    one_meaning = λ value. reading.law.one_meaning part;
    one_fault = λ value. reading.law.one_fault part;
    never_both = λ value. reading.law.never_both part;
  };
}

-- a fault of what stands at a step, as one of the whole value
abbrev pub IsFaultBelow : PathStep → (Fault → Type 0) → Fault → Type 0
IsFaultBelow step IsFault fault = (below : Fault) × IsFault below × (fault ≡ fault_below step below)

pub meaning_or_fault_below : {X : Type 0} {means : X → Type 0} {IsFault : Fault → Type 0}
    (step : PathStep) → HasMeaningOrFault means IsFault
    → HasMeaningOrFault means (IsFaultBelow step IsFault)
meaning_or_fault_below step (inl meant) = inl meant
meaning_or_fault_below step (inr (fault, wrong)) =
    inr (fault_below step fault, (fault, wrong, refl))

-- what stands at a step of a value
abbrev pub inner_at : {D E X : Type 0} → PathStep → Reading E X → E → Reading D X
inner_at step reading part = record {
  means = λ value. reading.means part;
  faults = λ value. IsFaultBelow step (reading.faults part);
  takes_memory = λ value. reading.takes_memory part;
  law = record {
    meaning_or_fault = λ value. meaning_or_fault_below step (reading.law.meaning_or_fault part);
    one_meaning = λ value. reading.law.one_meaning part;
    one_fault = λ value f g a b. a.2
        ∙ ap (fault_below step) (reading.law.one_fault part a.0 b.0 a.1 b.1) ∙ sym b.2;
    never_both = λ value x f a b. reading.law.never_both part x b.0 a b.1;
  };
}

-- ---- by kind

-- what is said of what was found, or else the rest
abbrev pub either : {K : Type 0} {A : Type 1} → Option K → (K → A) → A → A
either (Some found) says rest = says found
either None says rest = rest

module _ {D K X : Type 0} (by : K → Reading D X) (rest : Reading D X) (value : D) where
  abbrev MeansFound : Option K → X → Type 0
  MeansFound found = either found (λ k. (by k).means value) (rest.means value)

  abbrev FaultsFound : Option K → Fault → Type 0
  FaultsFound found = either found (λ k. (by k).faults value) (rest.faults value)

  pub meaning_or_fault_found : (found : Option K)
      → HasMeaningOrFault (MeansFound found) (FaultsFound found)
  meaning_or_fault_found (Some k) = (by k).law.meaning_or_fault value
  meaning_or_fault_found None = rest.law.meaning_or_fault value

  pub one_meaning_found : (found : Option K) (x y : X) → MeansFound found x → MeansFound found y
      → x ≡ y
  one_meaning_found (Some k) = (by k).law.one_meaning value
  one_meaning_found None = rest.law.one_meaning value

  pub one_fault_found : (found : Option K) (f g : Fault) → FaultsFound found f
      → FaultsFound found g → f ≡ g
  one_fault_found (Some k) = (by k).law.one_fault value
  one_fault_found None = rest.law.one_fault value

  pub never_both_found : (found : Option K) (x : X) (f : Fault) → MeansFound found x
      → FaultsFound found f → ⊥
  never_both_found (Some k) = (by k).law.never_both value
  never_both_found None = rest.law.never_both value

-- a value of the kind that this accessor tells by what it holds, and any other by the rest
abbrev pub kind : {D K X : Type 0} → (D → Option K) → (K → Reading D X) → Reading D X → Reading D X
kind accessor by rest = record {
  means = λ value. either (accessor value) (λ k. (by k).means value) (rest.means value);
  faults = λ value. either (accessor value) (λ k. (by k).faults value) (rest.faults value);
  takes_memory = λ value.
      either (accessor value) (λ k. (by k).takes_memory value) (rest.takes_memory value);
  law = record {
    meaning_or_fault = λ value. meaning_or_fault_found by rest value (accessor value);
    one_meaning = λ value. one_meaning_found by rest value (accessor value);
    one_fault = λ value. one_fault_found by rest value (accessor value);
    never_both = λ value. never_both_found by rest value (accessor value);
  };
}

-- ---- in turn

-- what is wrong first, or after a first part that means something
abbrev pub Then : {X F : Type 0} → (F → Type 0) → (X → Type 0) → (X → F → Type 0) → F → Type 0
Then {X} first means later fault = first fault ⊎ ((x : X) × means x × later x fault)

-- one thing is wrong in turn, where one is wrong first, one after a first part, and not both
pub one_then : {X F : Type 0} {first : F → Type 0} {means : X → Type 0} {later : X → F → Type 0}
    → ((f g : F) → first f → first g → f ≡ g) → ((x : X) (f : F) → means x → first f → ⊥)
    → ((x y : X) → means x → means y → x ≡ y) → ((x : X) (f g : F) → later x f → later x g → f ≡ g)
    → (f g : F) → Then first means later f → Then first means later g → f ≡ g
one_then one never same later_one f g a b = search rules

module _ {D X Y : Type 0} (first : Reading D X) (later : X → Reading D Y) (value : D) where
  abbrev MeansThen : Y → Type 0
  MeansThen y = (x : X) × first.means value x × (later x).means value y

  abbrev FaultsThen : Fault → Type 0
  FaultsThen = Then (first.faults value) (first.means value) (λ x. (later x).faults value)

  from_later : (x : X) → first.means value x
      → HasMeaningOrFault ((later x).means value) ((later x).faults value)
      → HasMeaningOrFault MeansThen FaultsThen
  from_later x meant (inl (y, also)) = inl (y, (x, meant, also))
  from_later x meant (inr (fault, wrong)) = inr (fault, inr (x, meant, wrong))

  from_first : HasMeaningOrFault (first.means value) (first.faults value)
      → HasMeaningOrFault MeansThen FaultsThen
  from_first (inl (x, meant)) = from_later x meant ((later x).law.meaning_or_fault value)
  from_first (inr (fault, wrong)) = inr (fault, inl wrong)

  pub meaning_or_fault_then : HasMeaningOrFault MeansThen FaultsThen
  meaning_or_fault_then = from_first (first.law.meaning_or_fault value)

  pub one_meaning_then : (y z : Y) → MeansThen y → MeansThen z → y ≡ z
  one_meaning_then y z a b = (later a.0).law.one_meaning value y z a.2
      (subst (λ (v : X). (later v).means value z)
      (first.law.one_meaning value b.0 a.0 b.1 a.1) b.2)

  pub one_fault_then : (f g : Fault) → FaultsThen f → FaultsThen g → f ≡ g
  one_fault_then = one_then (first.law.one_fault value) (first.law.never_both value)
      (first.law.one_meaning value) (λ x. (later x).law.one_fault value)

  pub never_both_then : (y : Y) (f : Fault) → MeansThen y → FaultsThen f → ⊥
  never_both_then y f (x, meant, a) (inl b) = first.law.never_both value x f meant b
  never_both_then y f (x, meant, a) (inr (w, also, b)) = (later x).law.never_both value y f a
      (subst (λ (v : X). (later v).faults value f) (first.law.one_meaning value w x also meant) b)

-- a first part, and what comes after it
abbrev pub then : {D X Y : Type 0} → Reading D X → (X → Reading D Y) → Reading D Y
then {D} {X} first later = record {
  means = λ value y. (x : X) × first.means value x × (later x).means value y;
  faults = λ value. Then (first.faults value) (first.means value) (λ x. (later x).faults value);
  takes_memory = λ value. first.takes_memory value
      ⊎ ((x : X) × first.means value x × (later x).takes_memory value);
  law = record {
    meaning_or_fault = meaning_or_fault_then first later;
    one_meaning = one_meaning_then first later;
    one_fault = one_fault_then first later;
    never_both = never_both_then first later;
  };
}

-- ---- after a check

-- a check finds one fault of a value that it doesn't pass, and none of one that it does
pub record Check (D : Type 0) : Type 1 where
  pub passes : D → Type 0
  pub faults : D → Fault → Type 0
  pub passes_or_faults : (value : D) → passes value ⊎ ((f : Fault) × faults value f)
  pub one_fault : (value : D) (f g : Fault) → faults value f → faults value g → f ≡ g
  pub never_both : (value : D) (f : Fault) → passes value → faults value f → ⊥

-- the check finds this fault, or the value passes, and this is wrong with it
abbrev pub FaultsAfter : {D : Type 0} → Check D → D → (Fault → Type 0) → Fault → Type 0
FaultsAfter check value later fault = check.faults value fault
    ⊎ (check.passes value × later fault)

module _ {D : Type 0} (check : Check D) (value : D) {later : Fault → Type 0} where
  passed_after : {A : Type 0} → check.passes value → A ⊎ ((f : Fault) × later f)
      → (check.passes value × A) ⊎ ((f : Fault) × FaultsAfter check value later f)
  passed_after passed (inl a) = inl (passed, a)
  passed_after passed (inr (f, wrong)) = inr (f, inr (passed, wrong))

  pub passes_or_faults_after : {A : Type 0} → A ⊎ ((f : Fault) × later f)
      → (check.passes value × A) ⊎ ((f : Fault) × FaultsAfter check value later f)
  passes_or_faults_after also = elim (check.passes_or_faults value) [
    | inl passed ↦ passed_after passed also
    | inr (f, wrong) ↦ inr (f, inl wrong)
  ]

  pub one_fault_after : ((f g : Fault) → later f → later g → f ≡ g) → (f g : Fault)
      → FaultsAfter check value later f → FaultsAfter check value later g → f ≡ g
  one_fault_after one f g a b = search (rules, check.one_fault, check.never_both, one)

  pub never_both_after : {A : Type 0} → ((f : Fault) → A → later f → ⊥) → (f : Fault)
      → check.passes value × A → FaultsAfter check value later f → ⊥
  never_both_after never f a b = search (rules, check.never_both, never)

pub meaning_or_fault_passed : {X F : Type 0} {Passes : Type 0} {means : X → Type 0}
    {is_fault : F → Type 0}
    → (Passes × ((x : X) × means x)) ⊎ ((f : F) × is_fault f)
    → HasMeaningOrFault (λ x. Passes × means x) is_fault
meaning_or_fault_passed (inl (passed, (x, meant))) = inl (x, (passed, meant))
meaning_or_fault_passed (inr wrong) = inr wrong

-- a check, and what comes after it
abbrev pub after_check : {D X : Type 0} → Check D → Reading D X → Reading D X
after_check check reading = record {
  means = λ value x. check.passes value × reading.means value x;
  faults = λ value. FaultsAfter check value (reading.faults value);
  takes_memory = reading.takes_memory;
  law = record {
    meaning_or_fault = λ value. meaning_or_fault_passed
        (passes_or_faults_after check value (reading.law.meaning_or_fault value));
    one_meaning = λ value x y a b. reading.law.one_meaning value x y a.1 b.1;
    one_fault = λ value. one_fault_after check value (reading.law.one_fault value);
    never_both = λ value x. never_both_after check value (reading.law.never_both value x);
  };
}

pub obeyed_or_broken : {IsBroken : Type 0} → IsDecided IsBroken → (fault : Fault)
    → (¬ IsBroken) ⊎ ((f : Fault) × (IsBroken × (f ≡ fault)))
obeyed_or_broken (inl broken) fault = inr (fault, (broken, refl))
obeyed_or_broken (inr obeyed) fault = inl obeyed

-- a value that breaks this rule
abbrev pub broken_by : BrokenRule → Fault
broken_by broken = fault_here (for_reason (custom broken))

-- a rule that is broken is the fault
abbrev pub rule_check : {D : Type 0} → (IsBroken : Type 0) → IsDecided IsBroken → BrokenRule
    → Check D
rule_check IsBroken decided broken = record {
  passes = λ value. ¬ IsBroken;
  faults = λ value fault. IsBroken × (fault ≡ broken_by broken);
  passes_or_faults = λ value. obeyed_or_broken decided (broken_by broken);
  one_fault = λ value f g a b. a.1 ∙ sym b.1;
  never_both = λ value f a b. a b.0;
}

-- a rule, and what comes after it
abbrev pub rule : {D X : Type 0} → (IsBroken : Type 0) → IsDecided IsBroken → BrokenRule
    → Reading D X → Reading D X
rule IsBroken decided broken = after_check (rule_check IsBroken decided broken)

-- two checks in turn
abbrev pub both : {D : Type 0} → Check D → Check D → Check D
both check second = record {
  passes = λ value. check.passes value × second.passes value;
  faults = λ value. FaultsAfter check value (second.faults value);
  passes_or_faults = λ value. passes_or_faults_after check value (second.passes_or_faults value);
  one_fault = λ value. one_fault_after check value (second.one_fault value);
  never_both = λ value. never_both_after check value (second.never_both value);
}

-- whether a value means something
abbrev pub meaning : {D X : Type 0} → Reading D X → Check D
meaning {D} {X} reading = record {
  passes = λ value. (x : X) × reading.means value x;
  faults = reading.faults;
  passes_or_faults = reading.law.meaning_or_fault;
  one_fault = reading.law.one_fault;
  never_both = λ value f a. reading.law.never_both value a.0 f a.1;
}

-- ---- of nothing

-- nothing is read: what is judged was read before
abbrev pub NoData : Type 0
NoData = Unit {0}

-- what is handed to a reading of nothing
abbrev pub no_data : NoData
no_data = tt
