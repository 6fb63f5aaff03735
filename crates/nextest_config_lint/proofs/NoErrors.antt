-- Where no finding is an error.
use mathlib.Core.Logic.Iff as iff
use Rattle.std.specs.Prelude.{◌≡◌, ◌≢◌, ◌↔◌, ℕ, Bool, List, [], ◌∷◌, ◌++◌, true, false, if◌then◌else◌, Option, Some, None, option_to_list}
use Rattle.std.proofs.Common.{refl, subst, sym, ◌∙◌, inl, inr}
use Rattle.std.specs.List.{AllByRecursion}
use Rattle.toml.specs.Data.{Data, Members}
use Rattle.nextest_config_values.specs.Read.Fault.{Fault}
use Rattle.toml_spans.proofs.Elements.{all_always, all_joined, all_left, all_right}
use Rattle.nextest_config.specs.NextestVersion.{Features, ObeysToolRule}
use Rattle.nextest_config.specs.declared.nextest_version.edition.Edition.{Edition}
use Rattle.nextest_config.specs.declared.nextest_version.source.ConfigSourceKind.{ConfigSourceKind}
use Rattle.nextest_config.specs.declared.nextest_version.source.ConfigSourceKind.TheVariants.{DiscoveredRepository, ExplicitRepository, Tool}
use Rattle.toml_spans.specs.Step.{PathStep}
use Rattle.nextest_config_lint.proofs.FindingsOnce.{one_outcome}
use Rattle.nextest_config_lint.proofs.ReferencesFound.{reference_at}
use Rattle.nextest_config_lint.specs.Defined.{file_with, ListFile}
use Rattle.nextest_config_lint.specs.Document.{AreFindings, keys_of_document}
use Rattle.nextest_config_lint.specs.Faults.{IsFoundOf}
use Rattle.nextest_config_lint.specs.Features.{AreNamedFound, features_text, IsNameFound}
use Rattle.nextest_config_lint.specs.FindingsLaws.{HasNoErrorAt, IsNoError, IsNoErrorBy, IsNoErrorOf, IsWithoutError}
use Rattle.nextest_config_lint.specs.Found.{AreFoundIn, AreFoundOf, deprecated_array, Found, found_at}
use Rattle.nextest_config_lint.specs.References.JudgedFile.{FileInList, in_list}
use Rattle.nextest_config_lint.specs.References.{IsReferenceFound}
use Rattle.nextest_config_lint.specs.Settings.{is_known, settings_of, SettingView}
use Rattle.nextest_config_lint.specs.Unknown.{IsKeyFound, IsKeyFoundFor, TableKey}
use Rattle.nextest_config_lint.specs.Severity.{IsSeverity}
use Rattle.nextest_config_lint.specs.declared.finding.FindingSeverity.{FindingSeverity}
use Rattle.nextest_config_lint.specs.declared.finding.FindingSeverity.TheVariants.{Error}
use Rattle.nextest_config_lint.specs.Values.{accepted, AreFaults, AreFaultsFound, AreFeatures, AreFeaturesFound, AreNotesFound, faulty, left_open, miswritten, names_features, notes_of, Outcome}

-- none of these findings is an error
abbrev pub AreNoErrors : List Found → Type 0
AreNoErrors all_found = AllByRecursion IsNoError all_found

-- none of two lists in a row is one, where none of both is
in_both : (xs ys : List Found) → AreNoErrors (xs ++ ys) ↔ (AreNoErrors xs × AreNoErrors ys)
in_both xs ys = (λ h. (all_left IsNoError xs ys h, all_right IsNoError xs ys h), λ h. all_joined IsNoError xs ys h.0 h.1)

-- what is found of each is no error exactly where each is well
warned_where : {A : Type 0} (IsFound : A → Option Found → Type 0) (IsWell : A → Type 0)
    → ((x : A) (here : Option Found) → IsFound x here → AreNoErrors (option_to_list here) ↔ IsWell x)
    → (xs : List A) (all_found : List Found) → AreFoundIn IsFound xs all_found → AreNoErrors all_found ↔ AllByRecursion IsWell xs
warned_where IsFound IsWell where_well [] all_found none = rw none iff.rfl
warned_where IsFound IsWell where_well (x ∷ xs) all_found (here, rest, is, are, whole) =
    let behind = warned_where IsFound IsWell where_well xs rest are in
    rw whole (iff.trans (in_both (option_to_list here) rest) (iff.and (where_well x here is) behind))

-- what is found of each is no error, where what is found of one never is
always_warned : {A : Type 0} (IsFound : A → Option Found → Type 0)
    → ((x : A) (here : Option Found) → IsFound x here → AreNoErrors (option_to_list here))
    → (xs : List A) (all_found : List Found) → AreFoundIn IsFound xs all_found → AreNoErrors all_found
always_warned IsFound always xs all_found are =
    (warned_where IsFound (λ x. Unit {0}) (λ x here is. (λ h. tt, λ u. always x here is)) xs all_found are).1 (all_always (λ x. tt) xs)

-- ---- of keys

key_warned : (is : Bool) (setting : TableKey) (here : Option Found) → IsKeyFoundFor is setting here → AreNoErrors (option_to_list here)
key_warned true setting here found = rw found tt
key_warned false setting here (hint, meant, found) = rw found ((λ same. cc same), tt)

-- ---- of features

name_warned : (path : List PathStep) (value : Data) (name : List ℕ) (here : Option Found) → IsNameFound path value name here → AreNoErrors (option_to_list here)
name_warned path value name here (step, hint, leads, meant, found) = rw found ((λ same. cc same), tt)

named_warned : (kind : ConfigSourceKind) (path : List PathStep) (value : Data) (features : Features) (all_found : List Found) → AreNamedFound kind path value features all_found
    → AreNoErrors all_found ↔ ObeysToolRule kind features
named_warned (Tool name) path value features all_found (inl (none, is)) = (λ h. none, λ h. rw is tt)
named_warned (Tool name) path value features all_found (inr (some, (names, are, is))) =
    (λ h. absurd ((subst AreNoErrors is h).0 refl), λ none. absurd (some none))
named_warned ExplicitRepository path value features all_found are = (λ h. tt, λ h. always_warned (IsNameFound path value) (name_warned path value) features.unknown all_found are)
named_warned DiscoveredRepository path value features all_found are = (λ h. tt, λ h. always_warned (IsNameFound path value) (name_warned path value) features.unknown all_found are)

-- ---- of values

-- neither what is wrong with a value nor what it names is an error
abbrev AreBothNoErrors : List Found → List Found → Type 0
AreBothNoErrors faults features = AreNoErrors faults × AreNoErrors features

both_empty : (faults features : List Found) → faults ≡ [] → features ≡ [] → AreBothNoErrors faults features
both_empty faults features no_faults no_features = (rw no_faults tt, rw no_features tt)

severity_warned : (setting : SettingView) (fault : Fault) (severity : FindingSeverity) → IsSeverity setting fault severity → (severity ≢ Error) ↔ IsNoErrorOf setting fault
severity_warned setting fault severity (inl (taken, is)) = (λ h. inl taken, λ h. rw is (λ same. cc same))
severity_warned setting fault severity (inr (not_taken, is)) = (
  λ h. inr (rw is at h),
  λ h. elim h [
    | inl taken ↦ absurd (not_taken taken)
    | inr below ↦ rw is below
  ],
)

fault_warned : (setting : SettingView) (fault : Fault) (found : Found) → IsFoundOf setting fault found → IsNoError found ↔ IsNoErrorOf setting fault
fault_warned setting fault found is = rw is.kind_is.4 (severity_warned setting fault is.kind_is.0 is.kind_is.2)

by_outcome_warned : (kind : ConfigSourceKind) (setting : SettingView) (outcome : Outcome) (faults features : List Found)
    → AreFaults setting outcome faults → AreFeatures kind setting outcome features → AreBothNoErrors faults features ↔ IsNoErrorBy kind setting outcome
by_outcome_warned kind setting accepted faults features h k = (λ none. tt, λ none. both_empty faults features h k)
by_outcome_warned kind setting (left_open fault) faults features h k = (λ none. tt, λ none. both_empty faults features h k)
by_outcome_warned kind setting (miswritten fault) faults features h k =
    (λ none. tt, λ none. (rw h ((λ same. cc same), tt), rw k tt))
by_outcome_warned kind setting (names_features value named) faults features h k =
    let warned = named_warned kind setting.path value named.features features k in
    (λ none. warned.0 none.1, λ obeys. (rw h tt, warned.1 obeys))
by_outcome_warned kind setting (faulty fault) faults features (found, is, whole) k =
    let warned = fault_warned setting fault found is in
    (λ none. warned.0 (subst AreNoErrors whole none.0).0, λ below. (rw whole (warned.1 below, tt), rw k tt))

value_warned : (edition : Edition) (kind : ConfigSourceKind) (setting : SettingView) (faults features : List Found)
    → AreFaultsFound edition setting faults → AreFeaturesFound edition kind setting features → AreBothNoErrors faults features ↔ HasNoErrorAt edition kind setting
value_warned edition kind setting faults features (outcome, is, are) (other, also, are_too) =
    let warned = by_outcome_warned kind setting outcome faults features are
    (subst (λ it. AreFeatures kind setting it features) (one_outcome edition setting other outcome also is) are_too) in (
      λ none. (outcome, is, warned.0 none),
      λ well. warned.1 (subst (IsNoErrorBy kind setting) (one_outcome edition setting well.0 outcome well.1 is) well.2),
    )

values_warned : (edition : Edition) (kind : ConfigSourceKind) (settings : List SettingView) (faults features : List Found)
    → AreFoundOf (AreFaultsFound edition) settings faults → AreFoundOf (AreFeaturesFound edition kind) settings features
    → AreBothNoErrors faults features ↔ AllByRecursion (HasNoErrorAt edition kind) settings
values_warned edition kind [] faults features h k = (λ none. tt, λ none. both_empty faults features h k)
values_warned edition kind (setting ∷ settings) faults features (here, rest, is, are, whole) (there, others, also, are_too, too) =
    let first = value_warned edition kind setting here there is also in
    let behind = values_warned edition kind settings rest others are are_too in
    let of_faults = in_both here rest in
    let of_features = in_both there others in
    rw (whole, too) (
      λ none. (first.0 ((of_faults.0 none.0).0, (of_features.0 none.1).0), behind.0 ((of_faults.0 none.0).1, (of_features.0 none.1).1)),
      λ well. let now = first.1 well.0 in let later = behind.1 well.1 in (of_faults.1 (now.0, later.0), of_features.1 (now.1, later.1)),
    )

-- ---- of notes

array_warned : (path : List PathStep) (is_array : Bool) (named : List ℕ) → AreNoErrors (if is_array then found_at path (deprecated_array named) ∷ [] else [])
array_warned path true named = ((λ same. cc same), tt)
array_warned path false named = tt

notes_warned : (kind : ConfigSourceKind) (setting : SettingView) (outcome : Outcome) → AreNoErrors (notes_of kind setting outcome)
notes_warned kind setting accepted = tt
notes_warned kind setting (faulty fault) = tt
notes_warned kind setting (miswritten fault) = tt
notes_warned kind setting (left_open fault) = ((λ same. cc same), tt)
notes_warned (Tool name) setting (names_features value named) = tt
notes_warned kind setting (names_features value named) = array_warned setting.path named.array (features_text named.features.known)

all_notes_warned : (edition : Edition) (kind : ConfigSourceKind) (settings : List SettingView) (all_found : List Found)
    → AreFoundOf (AreNotesFound edition kind) settings all_found → AreNoErrors all_found
all_notes_warned edition kind [] all_found none = rw none tt
all_notes_warned edition kind (setting ∷ settings) all_found (here, rest, (outcome, is, found), are, whole) =
    rw (whole, found) ((in_both (notes_of kind setting outcome) rest).1 (notes_warned kind setting outcome, all_notes_warned edition kind settings rest are))

-- ---- of all

-- what is found of references is a warning
references_warned : (at : FileInList) (setting : SettingView) (here : Option Found)
    → IsReferenceFound at setting here → AreNoErrors (option_to_list here)
references_warned at setting None is = tt
references_warned at setting (Some found) is =
    let there = reference_at at setting (Some found) is in
    let warning = there.1 in
    ((λ same. cc (sym warning ∙ same)), tt)

pub no_error_in : (edition : Edition) (kind : ConfigSourceKind) (files : List ListFile) (position : ℕ) (members : Members) (all_found : List Found) → AreFindings edition kind files position members all_found
    → AllByRecursion IsNoError all_found ↔ IsWithoutError edition kind members
no_error_in edition kind files position members all_found are =
    let of_values = values_warned edition kind (settings_of members) are.faults are.features are.of_faults are.of_features in
    let of_unknown = always_warned IsKeyFound (λ setting. key_warned (is_known setting.known setting.name) setting)
    (keys_of_document members) are.unknown are.of_unknown in
    let of_notes = all_notes_warned edition kind (settings_of members) are.notes are.of_notes in
    let of_references = always_warned (IsReferenceFound (in_list edition files (file_with kind (Some members)) position)) (references_warned (in_list edition files (file_with kind (Some members)) position)) (settings_of members) are.references are.of_references in
    let first = in_both are.faults (are.features ++ (are.unknown ++ (are.references ++ are.notes))) in
    let second = in_both are.features (are.unknown ++ (are.references ++ are.notes)) in
    let third = in_both are.unknown (are.references ++ are.notes) in
    let fourth = in_both are.references are.notes in
    rw are.whole (
      λ none. of_values.0 ((first.0 none).0, (second.0 (first.0 none).1).0),
      λ well. let now = of_values.1 well in first.1 (now.0, second.1 (now.1, third.1 (of_unknown, fourth.1 (of_references, of_notes)))),
    )
