-- Whether a value passes a check, by what the check of it answers.
use mathlib.Core.Logic.Iff as iff
use Rattle.std.specs.Prelude.{◌≡◌, ◌↔◌, ◌&&◌, ◌++◌, [], ◌∷◌, Bool, false, true, List, refl, IfErr, IfOk, IsSome, IsTrue, MatchResult, Ok, Err, OnOk, Option, Some, None, Result}
use Rattle.toml_spans.proofs.Elements.{all_joined, all_left, all_right}
use Rattle.nextest_config.specs.declared.nextest_version.edition.Edition.TheVariants.{TableOnly}
use Rattle.nextest_config_values.specs.Read.Fault.{Always, fault_of, Fault, Refuses}
use Rattle.nextest_config_values.specs.Read.{Check, FaultOrMemory}
use Rattle.nextest_config_values.specs.declared.read.value_fault.ValueFault.{ValueFault}
use Rattle.nextest_config_lint.proofs.RetriesRead.{checked_none}
use Rattle.nextest_config_lint.specs.FindingsLaws.{HasNoFault, HaveNoFault}
use Rattle.nextest_config_lint.specs.Settings.{SettingView}

-- a refusal for which memory was there tells a fault
reported : (M : Type 0) (IsFault : Fault → Type 0) (found : Option Fault) → IsSome found → FaultOrMemory found M IsFault → (fault : Fault) × IsFault fault
reported M IsFault (Some fault) some refused = (fault, refused)
reported M IsFault None some refused = cc some

module _ {D : Type 0} (check : Check D) (value : D) where
  -- the answer to a check is whether the value passes it
  pub passes_if : (checked : Result (Unit {0}) ValueFault) (answer : Bool) → OnOk checked (check.passes value) → IfErr checked (Refuses (check.faults value) Always)
      → MatchResult checked (λ _. IsTrue answer) (λ fault. IsSome (fault_of fault) × (answer ≡ false))
      → IsTrue answer ↔ check.passes value
  passes_if (Ok unit) answer passes refused answered = ((λ _. passes), λ _. answered)
  passes_if (Err refusal) answer passes refused (some, wrong) = let (fault, is) = reported _ _ (fault_of refusal) some refused in
      rw wrong ((λ never. cc never), λ passes. absurd (check.never_both value fault passes is))

  -- and so is whether nothing is wrong with it
  pub are_right_if : {E : Type 0} (checked : Result (Unit {0}) ValueFault) (answer : Result Bool E) → OnOk checked (check.passes value) → IfErr checked (Refuses (check.faults value) Always)
      → IfOk answer (λ right. MatchResult checked (λ _. IsTrue right) (λ fault. IsSome (fault_of fault) × (right ≡ false)))
      → IfOk answer (λ right. IsTrue right ↔ ((fault : Fault) → check.faults value fault → ⊥))
  are_right_if checked (Ok right) passes refused answered = iff.trans (passes_if checked right passes refused answered) (iff.symm (checked_none check value))
  are_right_if checked (Err error) passes refused answered = tt

-- nothing is wrong with any of these, nor with one more
pub one_more_right : (before : List SettingView) (setting : SettingView) (were is : Bool)
    → IsTrue were ↔ HaveNoFault TableOnly before → IsTrue is ↔ HasNoFault TableOnly setting → IsTrue (were && is) ↔ HaveNoFault TableOnly (before ++ (setting ∷ []))
one_more_right before setting true is so_far here = (
  (λ right. all_joined (HasNoFault TableOnly) before (setting ∷ []) (so_far.0 refl) (here.0 right, tt)),
  (λ none. here.1 (all_right (HasNoFault TableOnly) before (setting ∷ []) none).0),
)
one_more_right before setting false is so_far here =
    ((λ never. cc never), λ none. so_far.1 (all_left (HasNoFault TableOnly) before (setting ∷ []) none))
