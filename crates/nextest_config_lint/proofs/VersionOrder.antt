-- The order of versions, from what the reader of `nextest-version` refuses.
use Rattle.std.specs.Prelude.{◌≡◌, ◌==◌, ℕ, true, false, List, [], ◌∷◌, is_none, IsSome, length, map, Option, Some, None, option_map}
use Rattle.std.proofs.Common.{ap, arith, inl, inr, refl, ◌∙◌}
use Rattle.toml.specs.Data.{as_table, Data, get_member, Members, table}
use Rattle.semver.specs.Parse.{Parts}
use Rattle.toml_spans.specs.Step.{PathStep}
use Rattle.nextest_config_values.specs.Read.Fault.{Cause, Fault}
use Rattle.nextest_config_values.specs.Read.Readings.{IsFaultBelow}
use Rattle.nextest_config_values.specs.Read.{Always, either, FaultOrMemory, fault_with, optional}
use Rattle.nextest_config.specs.NextestVersion.{in_order, recommended_key, required_key, version_reading, version_table, Versions, versions_reading}
use Rattle.nextest_config_lint.specs.Rules.{if_table, IsOutOfOrder, order_check, out_of_order}

-- a fault below a step isn't here
never_here : (step : PathStep) (faults : Data → Fault → Type 0) (found : Option Data) (fault : Fault) → either found (λ value. IsFaultBelow step (faults value)) (λ f. ⊥) fault → fault.steps ≡ [] → ⊥
never_here step faults (Some value) fault (below, wrong, is) here = cc (ap (λ (f : Fault). f.steps) is, here)
never_here step faults None fault wrong here = wrong

pub by_versions : (held : Members) (a b : Option Parts) (fault : Fault) → (optional required_key version_reading).means held a → (optional recommended_key version_reading).means held b
    → (in_order a b).faults tt fault → IsOutOfOrder held fault
by_versions held (Some a) (Some b) fault there there_too (inl (below, is)) = out_of_order held a b fault there there_too below is
by_versions held (Some a) (Some b) fault there there_too (inr (kept, wrong)) = absurd wrong
by_versions held (Some a) None fault there there_too wrong = absurd wrong
by_versions held None b fault there there_too wrong = absurd wrong

table_order : (held : Members) (fault : Fault) → version_table.faults held fault → fault.steps ≡ [] → IsOutOfOrder held fault
table_order held fault (inl wrong) here = absurd (never_here _ version_reading.faults (get_member required_key held) fault wrong here)
table_order held fault (inr (a, there, inl wrong)) here = absurd (never_here _ version_reading.faults (get_member recommended_key held) fault wrong here)
table_order held fault (inr (a, there, inr (b, there_too, wrong))) here = by_versions held a b fault there there_too wrong

-- a fault of the table itself is that of its order
pub here_is_order : (value : Data) (fault : Fault) → IsSome (as_table value) → versions_reading.faults value fault → fault.steps ≡ [] → (if_table order_check).faults value fault
here_is_order (table held) fault some wrong here = table_order held fault wrong here
here_is_order value fault some wrong here = absurd (cc some)

order_is_fault : (held : Members) (fault : Fault) → IsOutOfOrder held fault → version_table.faults held fault
order_is_fault held fault out = inr (Some out.required, out.there.0, inr (Some out.recommended, out.there.1, inl (out.is_below, out.is)))

order_here : (held : Members) (fault : Fault) → IsOutOfOrder held fault → fault.steps ≡ []
order_here held fault out = ap (λ (f : Fault). f.steps) out.is

-- where another fault is found, the versions are in order
pub elsewhere_in_order : (value : Data) (fault : Fault) → versions_reading.faults value fault → (fault.steps ≡ [] → ⊥) → (if_table order_check).passes value
elsewhere_in_order (table held) fault wrong elsewhere = λ other out. elsewhere (ap (λ (f : Fault). f.steps) (version_table.law.one_fault held fault other wrong (order_is_fault held other out)) ∙ order_here held other out)
elsewhere_in_order value fault wrong elsewhere = tt

-- and where the value means something
pub read_in_order : (value : Data) (asked : Versions) → versions_reading.means value asked → (if_table order_check).passes value
read_in_order (table held) asked means = λ fault out. version_table.law.never_both held asked fault means (order_is_fault held fault out)
read_in_order value asked means = tt

-- ---- a refusal

module _ (M W : Type 0) (P : Fault → Type 0) where
  -- a refusal of memory is one for whatever is refused
  pub memory_stays : (Q : Fault → Type 0) (reported : Option Fault) → true ≡ is_none reported → FaultOrMemory reported (M × W) P → FaultOrMemory reported (M × Always) Q
  memory_stays Q None none refused = (refused.0, tt)
  memory_stays Q (Some fault) none refused = cc none

  -- a refusal for a fault here
  pub refused_here : (Q : Fault → Type 0) (steps : List PathStep) (cause : Option Cause) → steps ≡ [] → false ≡ is_none (option_map (fault_with steps) cause)
      → FaultOrMemory (option_map (fault_with steps) cause) (M × W) P → ((fault : Fault) → fault.steps ≡ [] → P fault → Q fault)
      → FaultOrMemory (option_map (fault_with steps) cause) (M × Always) Q
  refused_here Q steps (Some cause) here some refused weaker = weaker (fault_with steps cause) here refused
  refused_here Q steps None here some refused weaker = cc some

  -- a refusal for a fault elsewhere
  pub reported_elsewhere : (Q : Type 0) (steps : List PathStep) (cause : Option Cause) → (steps ≡ [] → ⊥) → false ≡ is_none (option_map (fault_with steps) cause)
      → FaultOrMemory (option_map (fault_with steps) cause) (M × W) P → ((fault : Fault) → (fault.steps ≡ [] → ⊥) → P fault → Q) → Q
  reported_elsewhere Q steps (Some cause) elsewhere some refused weaker = weaker (fault_with steps cause) elsewhere refused
  reported_elsewhere Q steps None elsewhere some refused weaker = cc some

-- steps that are none, or some
pub none_left : {A B : Type 0} (f : A → B) (xs : List A) → length xs ≡ 0 → map f xs ≡ []
none_left f [] none = refl
none_left f (x ∷ xs) none = absurd (omega (arith, none))

pub some_left : {A B : Type 0} (f : A → B) (xs : List A) (count : ℕ) → count ≡ length xs → false ≡ (count == 0) → map f xs ≡ [] → ⊥
some_left f [] count is some none = let zero_count : count ≡ 0 = omega (arith, is) in cc (rw zero_count at some)
some_left f (x ∷ xs) count is some none = cc none
