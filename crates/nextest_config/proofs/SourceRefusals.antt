-- Refusals of parts, as refusals of the whole.
use Rattle.std.proofs.Common.{[], inl, inr, Option, Result, rules}
use Rattle.std.proofs.lemmas.Result.{IfErr-weaker}
use Rattle.std.specs.Result.{IfErr, IsErrAnd}
use Rattle.toml.specs.Data.{Members}
use Rattle.nextest_config_values.proofs.Faults.{fault_mapped}
use Rattle.nextest_config_values.specs.Read.{FaultOrMemory, Reading, RefusesAt, Then}
use Rattle.nextest_config_values.specs.declared.read.fault.ReadFault.{ReadFault}
use Rattle.nextest_config.specs.NextestVersion.{IsSettingKind, IsWrongSetting, RefusesSource, Wrong, wrong_of}
use Rattle.nextest_config.specs.declared.nextest_version.error_kind.ConfigParseErrorKind.{ConfigParseErrorKind}

-- what follows where a fault, or running out of memory, is spoken of twice
pub told_twice : {F A B C : Type 0} {P Q : F → Type 0} (told : Option F) → FaultOrMemory told A P → FaultOrMemory told B Q → (A → B → C) → ((fault : F) → P fault → Q fault → C) → C
told_twice told h k f g = search rules

module _ {T : Type 0} (result : Result T ConfigParseErrorKind) where
  -- of a setting, as one of its source
  pub wrong_setting : {X : Type 0} (reading : Reading Members X) (members : Members) (fault : ReadFault) → IsErrAnd result (IsSettingKind fault) → RefusesAt reading members [] fault
      → IfErr result (RefusesSource (IsWrongSetting reading members))
  wrong_setting reading table fault err refused = search rules

  -- of a first part
  pub wrong_first : {X : Type 0} (first : Wrong → Type 0) (means : X → Type 0) (later : X → Wrong → Type 0) → IfErr result (RefusesSource first) → IfErr result (RefusesSource (Then first means later))
  wrong_first first means later = IfErr-weaker result _ _ (λ kind refused. fault_mapped (wrong_of kind) refused (λ memory. memory) (λ wrong first. inl first))

  -- after a first part
  pub wrong_later : {X : Type 0} (first : Wrong → Type 0) (means : X → Type 0) (later : X → Wrong → Type 0) (x : X) → means x → IfErr result (RefusesSource (later x)) → IfErr result (RefusesSource (Then first means later))
  wrong_later first means later x meant = IfErr-weaker result _ _ (λ kind refused. fault_mapped (wrong_of kind) refused (λ memory. memory) (λ wrong after. inr (x, meant, after)))
