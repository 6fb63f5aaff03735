-- What is told of a fault.
use Rattle.std.proofs.Common.{◌≡◌, ◌↔◌, ◌++◌, [], ◌∷◌, Bool, true, false, IfSome, inl, inr, is_none, IsTrue, List, Option, None, Some, option_map, refl, Result, Ok, Err, subst, MatchResult, OnOk, IfErr, IfOk}
use Rattle.std.specs.declared.alloc.AllocError.{AllocError}
use Rattle.std.proofs.lemmas.Option.{same_Some}
use Rattle.std.proofs.lemmas.Result.{IfOk-weaker}
use Rattle.nextest_config_values.specs.Read.Fault.{Always, Cause, Fault, fault_of, Refuses}
use Rattle.nextest_config_values.specs.declared.read.value_fault.ValueFault.{ValueFault}
use Rattle.nextest_config_values.specs.Read.{FaultOrMemory, fault_with, Reason, reason_at}
use Rattle.toml_spans.specs.Step.{PathStep, printed_path}
use Rattle.nextest_config_filters.specs.Fault.{Fault as TextFault}
use Rattle.nextest_config.specs.declared.nextest_version.edition.Edition.{Edition}
use Rattle.nextest_config.specs.declared.nextest_version.source.ConfigSourceKind.{ConfigSourceKind}
use Rattle.nextest_config_lint.specs.Faults.{IsFoundOf}
use Rattle.nextest_config_lint.specs.Found.{Found, found_at, FoundKind, found_of, Suggestion, refused, unjudged, wrong_text}
use Rattle.nextest_config_lint.specs.Hints.{IsFaultHint}
use Rattle.nextest_config_lint.specs.Settings.{SettingView}
use Rattle.nextest_config_lint.specs.Severity.{IsSeverity}
use Rattle.nextest_config_lint.specs.Subjects.{IsLeftOpen, IsRight, IsWrong}
use Rattle.nextest_config_lint.specs.Texts.{IsTextFault}
use Rattle.nextest_config_lint.specs.Values.{accepted, faulty, left_open, miswritten, ReportsFault, ReportsText, ReportsValue}
use Rattle.nextest_config_lint.specs.declared.finding.Finding.{Finding}
use Rattle.nextest_config_lint.specs.declared.finding.FindingSeverity.{FindingSeverity}
use Rattle.nextest_config_lint.specs.declared.values.ValueFindings.{ValueFindings}

-- what is found of a refusal is told, from its cause and what is told of that at its path
abbrev pub IsReportedOf : SettingView → List PathStep → Option Cause → List PathStep → Option FoundKind → Type 0
IsReportedOf setting steps cause found_path kind = IfSome (option_map (fault_with steps) cause)
    (λ reported. (found : Found) × IsFoundOf setting reported found × (option_map (found_at found_path) kind ≡ Some found))

pub refused_reported : (setting : SettingView) (steps found_path : List PathStep) (cause : Option Cause) (reason : Option Reason) (severity : FindingSeverity) (hint : Option Suggestion)
    → IfSome (option_map (fault_with steps) cause) (λ reported. IsSeverity setting reported severity)
    → IfSome (option_map (fault_with steps) cause) (λ reported. IsFaultHint setting reported hint) → found_path ≡ setting.path ++ steps → IfSome cause (λ reported. reason ≡ Some (reason_at (printed_path found_path) reported))
    → IsReportedOf setting steps cause found_path (option_map (λ reported. refused reported severity hint) reason)
refused_reported setting steps found_path None reason severity hint grave meant path_is reported = tt
refused_reported setting steps found_path (Some cause) reason severity hint grave meant path_is reported = (
  found_at found_path (refused (reason_at (printed_path found_path) cause) severity hint),
  record { path_is = path_is; kind_is = (severity, hint, grave, meant, rw path_is refl) },
  rw reported refl,
)

-- and so is that a duration isn't judged
pub unjudged_reported : (setting : SettingView) (steps found_path : List PathStep) (cause : Option Cause) → found_path ≡ setting.path ++ steps
    → IfSome (option_map (fault_with steps) cause) (λ reported. Some (found_at found_path unjudged) ≡ Some (found_at (setting.path ++ reported.steps) unjudged))
unjudged_reported setting steps found_path None path_is = tt
unjudged_reported setting steps found_path (Some cause) path_is = rw path_is refl

-- ---- the findings of a value that has a fault

-- a duration that isn't judged
pub note_reported : (setting : SettingView) (reported : Option Fault) (answer : Bool) (finding : Finding) (found : ValueFindings)
    → false ≡ is_none reported → IfSome reported (λ fault. IsTrue answer ↔ IsLeftOpen setting.subject fault) → answer ≡ true
    → IfSome reported (λ fault. found_of finding ≡ Some (found_at (setting.path ++ fault.steps) unjudged))
    → found.faults.items ≡ [] → found.features.items ≡ [] → found.notes.items ≡ finding ∷ [] → ReportsFault setting reported found
note_reported setting None answer finding found some decides so reports no_faults no_features note = absurd (cc some)
note_reported setting (Some fault) answer finding found some decides so reports no_faults no_features note = (
  fault,
  left_open fault,
  refl,
  inl (decides.0 (rw so refl), refl),
  λ kind. record {
    faults = ([], refl, rw no_faults refl);
    features = ([], refl, rw no_features refl);
    notes = rw (note, reports) refl;
  },
)

-- any other fault
pub fault_reported : (setting : SettingView) (reported : Option Fault) (answer : Bool) (finding : Finding) (found : ValueFindings)
    → false ≡ is_none reported → IfSome reported (λ fault. IsTrue answer ↔ IsLeftOpen setting.subject fault) → answer ≡ false
    → IfSome reported (λ fault. (it : Found) × IsFoundOf setting fault it × (found_of finding ≡ Some it))
    → found.faults.items ≡ finding ∷ [] → found.features.items ≡ [] → found.notes.items ≡ [] → ReportsFault setting reported found
fault_reported setting None answer finding found some decides so reports fault_item no_features no_notes = absurd (cc some)
fault_reported setting (Some fault) answer finding found some decides so (it, is, reports) fault_item no_features no_notes = (
  fault,
  faulty fault,
  refl,
  inr ((λ unjudged. cc (decides.1 unjudged, so)), refl),
  λ kind. record {
    faults = (it ∷ [], (it, is, refl), rw (fault_item, reports) refl);
    features = ([], refl, rw no_features refl);
    notes = rw no_notes refl;
  },
)

-- the findings of a fault of what is judged are those of what is judged
pub of_fault : (edition : Edition) (kind : ConfigSourceKind) (setting : SettingView) (reported : Option Fault) (memory : Type 0) (found : ValueFindings)
    → FaultOrMemory reported memory (IsWrong edition setting.subject) → ReportsFault setting reported found → ReportsValue edition kind setting found
of_fault edition kind setting None memory found refuses (fault, outcome, is, comes, reports) = absurd (cc is)
of_fault edition kind setting (Some this) memory found refuses (fault, outcome, is, inl (left, so), reports) =
    let wrong = subst (IsWrong edition setting.subject) (same_Some this fault is) refuses in
    (outcome, rw so (wrong, left), reports kind)
of_fault edition kind setting (Some this) memory found refuses (fault, outcome, is, inr (other, so), reports) =
    let wrong = subst (IsWrong edition setting.subject) (same_Some this fault is) refuses in
    (outcome, rw so (wrong, other), reports kind)

-- ---- the findings of a text

pub text_reported : (setting : SettingView) (fault : TextFault) (finding : Finding) (found : ValueFindings) → IsTextFault setting.subject fault
    → found_of finding ≡ Some (found_at setting.path (wrong_text fault))
    → found.faults.items ≡ finding ∷ [] → found.features.items ≡ [] → found.notes.items ≡ [] → ReportsText setting found
text_reported setting fault finding found wrong reports fault_item no_features no_notes = (
  miswritten fault,
  wrong,
  λ kind. record {
    faults = (found_at setting.path (wrong_text fault) ∷ [], refl, rw (fault_item, reports) refl);
    features = ([], refl, rw no_features refl);
    notes = rw no_notes refl;
  },
)

-- what is found of a text that has its shape is what is found of what is judged
pub of_text : (edition : Edition) (kind : ConfigSourceKind) (setting : SettingView) (found : ValueFindings) → IsRight edition setting.subject → ReportsText setting found
    → ReportsValue edition kind setting found
of_text edition kind setting found right (accepted, sound, reports) = (accepted, (right, sound), reports kind)
of_text edition kind setting found right (miswritten fault, wrong, reports) = (miswritten fault, (right, wrong), reports kind)
of_text edition kind setting found right (outcome, none, reports) = absurd none

-- what is found of what is checked
pub of_checked : (edition : Edition) (kind : ConfigSourceKind) (setting : SettingView) (checked : Result (Unit {0}) ValueFault) (reported : Result ValueFindings AllocError)
    → OnOk checked (IsRight edition setting.subject) → IfErr checked (Refuses (IsWrong edition setting.subject) Always)
    → MatchResult checked (λ it. IfOk reported (ReportsText setting)) (λ fault. IfOk reported (ReportsFault setting (fault_of fault))) → IfOk reported (ReportsValue edition kind setting)
of_checked edition kind setting (Ok it) reported right wrong reports = IfOk-weaker reported _ _ (λ found. of_text edition kind setting found right) reports
of_checked edition kind setting (Err fault) reported right wrong reports = IfOk-weaker reported _ _ (λ found. of_fault edition kind setting (fault_of fault) _ found wrong) reports

-- what is found of a fault that is made
pub of_made : (edition : Edition) (kind : ConfigSourceKind) (setting : SettingView) (made : ValueFault) (reported : Result ValueFindings AllocError)
    → Refuses (IsWrong edition setting.subject) Always made → IfOk reported (ReportsFault setting (fault_of made)) → IfOk reported (ReportsValue edition kind setting)
of_made edition kind setting made reported wrong reports = IfOk-weaker reported _ _ (λ found. of_fault edition kind setting (fault_of made) _ found wrong) reports
