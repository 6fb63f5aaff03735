-- What is found in a document is found once.
use mathlib.Core.Logic.Iff as iff
use Rattle.std.specs.Prelude.{◌≡◌, ℕ, ℤ, Bool, true, false, List, [], ◌∷◌, ◌++◌, map, Option, Some, None, option_to_list}
use Rattle.std.proofs.Common.{arith, rules, sym, ap, ap₂, refl, subst, ◌∙◌, inl, inr}
use Rattle.std.proofs.lemmas.Bool.{cases_lt}
use Rattle.std.proofs.lemmas.List.Elements.{filter-append}
use Rattle.toml.specs.Data.{as_integer, as_str, Data, Members}
use Rattle.nextest_config_values.specs.Read.Fault.{Fault}
use Rattle.nextest_config_values.specs.Read.{Reason}
use Rattle.nextest_config.specs.NextestVersion.{all_features, Features, FeatureSetting, features_under, texts_in_one_order, word_of}
use Rattle.nextest_config.specs.declared.nextest_version.edition.Edition.{Edition}
use Rattle.nextest_config.specs.declared.nextest_version.source.ConfigSourceKind.{ConfigSourceKind}
use Rattle.nextest_config.specs.declared.nextest_version.source.ConfigSourceKind.TheVariants.{Tool}
use Rattle.nextest_config_values.specs.NearestWord.{nearest_once}
use Rattle.toml_spans.specs.Step.{index, key, PathStep}
use Rattle.nextest_config_lint.proofs.ReferencesFound.{IsAtPath, suggestion_once, reference_at, reference_once}
use Rattle.nextest_config_lint.specs.Defined.{file_with, ListFile}
use Rattle.nextest_config_lint.specs.Document.{AreFindings, keys_of_document}
use Rattle.nextest_config_lint.specs.Faults.{IsFoundKind, IsFoundOf}
use Rattle.nextest_config_lint.specs.Features.{AreNamedFound, AreToolsFound, IsNameFound, IsStepTo}
use Rattle.nextest_config_lint.specs.FindingsLaws.{own_findings}
use Rattle.nextest_config_lint.specs.Found.{AreFoundIn, AreFoundOf, Found, found_at, FoundKind, Suggestion, refused, tool_names, unknown_key, unknown_name}
use Rattle.nextest_config_lint.specs.References.JudgedFile.{FileInList, in_list}
use Rattle.nextest_config_lint.specs.References.{IsReferenceFound}
use Rattle.nextest_config_lint.specs.Settings.{a_value, absent_key, between, features_at, is_known, refused_key, settings_of, SettingView, Subject}
use Rattle.nextest_config_lint.specs.Subjects.{IsLeftOpen, NamesFeatures}
use Rattle.nextest_config_lint.proofs.Subjects.{named_not_right, named_not_wrong, never_wrong, one_text_fault, one_wrong}
use Rattle.nextest_config_elements.specs.declared.field.Shape.{Shape}
use Rattle.nextest_config_elements.specs.declared.field.Shape.TheVariants as shapes
use Rattle.nextest_config_lint.proofs.WrittenHints.{written_once}
use Rattle.nextest_config_lint.specs.Hints.{IsHintAt, IsHintOf, IsLimitHint, IsValueHint, unknown_word_in}
use Rattle.nextest_config_lint.specs.Hints.Durations.{digits_of, IsDurationHint, IsEitherHint, IsSecondsHint, IsShortHint}
use Rattle.nextest_config_lint.specs.Unknown.{IsHintFor, IsKeyFound, IsKeyFoundFor, suggested_beside, TableKey}
use Rattle.nextest_config_lint.specs.Severity.{IsSeverity}
use Rattle.nextest_config_lint.specs.declared.finding.FindingSeverity.{FindingSeverity}
use Rattle.nextest_config_lint.specs.Values.{accepted, AreFaults, AreFaultsFound, AreFeatures, AreFeaturesFound, AreFoundBy, AreNotes, AreNotesFound, faulty, IsOutcome, left_open, miswritten, names_features, Outcome}

-- one thing is found in a list, where one is found of each element
found_once : {A : Type 0} (IsFound : A → Option Found → Type 0) → ((x : A) (a b : Option Found) → IsFound x a → IsFound x b → a ≡ b)
    → (xs : List A) (a b : List Found) → AreFoundIn IsFound xs a → AreFoundIn IsFound xs b → a ≡ b
found_once IsFound once [] a b h k = h ∙ sym k
found_once IsFound once (x ∷ xs) a b (here, rest, is, are, whole) (there, others, also, are_too, too) =
    whole ∙ ap₂ (λ (first : Option Found) (all_found : List Found). option_to_list first ++ all_found)
    (once x here there is also) (found_once IsFound once xs rest others are are_too) ∙ sym too

-- and so are lists that are found of each
lists_once : {A : Type 0} (Are : A → List Found → Type 0) → ((x : A) (a b : List Found) → Are x a → Are x b → a ≡ b)
    → (xs : List A) (a b : List Found) → AreFoundOf Are xs a → AreFoundOf Are xs b → a ≡ b
lists_once Are once [] a b h k = h ∙ sym k
lists_once Are once (x ∷ xs) a b (here, rest, is, are, whole) (there, others, also, are_too, too) =
    whole ∙ ap₂ (λ (first all_found : List Found). first ++ all_found) (once x here there is also) (lists_once Are once xs rest others are are_too) ∙ sym too

-- ---- of a value

named_once : (edition : Edition) (subject : Subject) (value other : Data) (named others : FeatureSetting)
    → NamesFeatures edition subject value named → NamesFeatures edition subject other others → names_features value named ≡ names_features other others
named_once edition subject value other named others (is, means) (also, means_too) =
    let same : value ≡ other = cc (is, also) in
    ap₂ names_features same
    ((features_under edition).law.one_meaning value named others means (subst (λ (it : Data). (features_under edition).means it others) (sym same) means_too))

pub one_outcome : (edition : Edition) (setting : SettingView) (a b : Outcome) → IsOutcome edition setting a → IsOutcome edition setting b → a ≡ b
one_outcome edition setting accepted accepted h k = refl
one_outcome edition setting accepted (miswritten fault) h k = absurd (h.1 fault k.1)
one_outcome edition setting accepted (names_features value named) h k = absurd (named_not_right edition setting.subject value named k h.0)
one_outcome edition setting accepted (faulty fault) h k = absurd (never_wrong edition setting.subject fault h.0 k.0)
one_outcome edition setting accepted (left_open fault) h k = absurd (never_wrong edition setting.subject fault h.0 k.0)
one_outcome edition setting (names_features value named) accepted h k = absurd (named_not_right edition setting.subject value named h k.0)
one_outcome edition setting (names_features value named) (miswritten fault) h k = absurd (named_not_right edition setting.subject value named h k.0)
one_outcome edition setting (names_features value named) (names_features other others) h k = named_once edition setting.subject value other named others h k
one_outcome edition setting (names_features value named) (faulty fault) h k = absurd (named_not_wrong edition setting.subject value named fault h k.0)
one_outcome edition setting (names_features value named) (left_open fault) h k = absurd (named_not_wrong edition setting.subject value named fault h k.0)
one_outcome edition setting (faulty fault) accepted h k = absurd (never_wrong edition setting.subject fault k.0 h.0)
one_outcome edition setting (faulty fault) (miswritten other) h k = absurd (never_wrong edition setting.subject fault k.0 h.0)
one_outcome edition setting (faulty fault) (names_features value named) h k = absurd (named_not_wrong edition setting.subject value named fault k h.0)
one_outcome edition setting (faulty fault) (faulty other) h k = ap faulty (one_wrong edition setting.subject fault other h.0 k.0)
one_outcome edition setting (faulty fault) (left_open other) h k =
    absurd (h.1 (subst (IsLeftOpen setting.subject) (one_wrong edition setting.subject other fault k.0 h.0) k.1))
one_outcome edition setting (miswritten fault) accepted h k = absurd (k.1 fault h.1)
one_outcome edition setting (miswritten fault) (names_features value named) h k = absurd (named_not_right edition setting.subject value named k h.0)
one_outcome edition setting (miswritten fault) (faulty other) h k = absurd (never_wrong edition setting.subject other h.0 k.0)
one_outcome edition setting (miswritten fault) (miswritten other) h k = ap miswritten (one_text_fault setting.subject fault other h.1 k.1)
one_outcome edition setting (miswritten fault) (left_open other) h k = absurd (never_wrong edition setting.subject other h.0 k.0)
one_outcome edition setting (left_open fault) accepted h k = absurd (never_wrong edition setting.subject fault k.0 h.0)
one_outcome edition setting (left_open fault) (miswritten other) h k = absurd (never_wrong edition setting.subject fault k.0 h.0)
one_outcome edition setting (left_open fault) (names_features value named) h k = absurd (named_not_wrong edition setting.subject value named fault k h.0)
one_outcome edition setting (left_open fault) (faulty other) h k =
    absurd (k.1 (subst (IsLeftOpen setting.subject) (one_wrong edition setting.subject fault other h.0 k.0) h.1))
one_outcome edition setting (left_open fault) (left_open other) h k = ap left_open (one_wrong edition setting.subject fault other h.0 k.0)

-- one list is found of a value, where one is by each outcome
by_outcome_once : (edition : Edition) (setting : SettingView) (Are : Outcome → List Found → Type 0)
    → ((outcome : Outcome) (a b : List Found) → Are outcome a → Are outcome b → a ≡ b)
    → (a b : List Found) → AreFoundBy edition setting Are a → AreFoundBy edition setting Are b → a ≡ b
by_outcome_once edition setting Are once a b (outcome, is, are) (other, also, are_too) =
    once outcome a b are (subst (λ it. Are it b) (one_outcome edition setting other outcome also is) are_too)

-- ---- of a fault

severity_once : (setting : SettingView) (fault : Fault) (a b : FindingSeverity) → IsSeverity setting fault a → IsSeverity setting fault b → a ≡ b
severity_once setting fault a b (inl h) (inl k) = h.1 ∙ sym k.1
severity_once setting fault a b (inl h) (inr k) = absurd (k.0 h.0)
severity_once setting fault a b (inr h) (inl k) = absurd (h.0 k.0)
severity_once setting fault a b (inr h) (inr k) = h.1 ∙ sym k.1

seconds_once : (digits : List ℕ) (a b : Option Suggestion) → IsSecondsHint digits a → IsSecondsHint digits b → a ≡ b
seconds_once digits a b (inl h) (inl k) = h.1 ∙ sym k.1
seconds_once digits a b (inl h) (inr k) = absurd (k.0 h.0)
seconds_once digits a b (inr h) (inl k) = absurd (h.0 k.0)
seconds_once digits a b (inr h) (inr k) = h.1 ∙ sym k.1

duration_once : (digits : Option (List ℕ)) (a b : Option Suggestion) → IsDurationHint digits a → IsDurationHint digits b → a ≡ b
duration_once None a b h k = h ∙ sym k
duration_once (Some digits) a b h k = seconds_once digits a b h k

either_once : (digits : List ℕ) (a b : Option Suggestion) → IsEitherHint digits a → IsEitherHint digits b → a ≡ b
either_once digits a b (inl h) (inl k) = h.1 ∙ sym k.1
either_once digits a b (inl h) (inr k) = absurd (k.0 h.0)
either_once digits a b (inr h) (inl k) = absurd (h.0 k.0)
either_once digits a b (inr h) (inr k) = seconds_once digits a b h.1 k.1

short_once : (digits : Option (List ℕ)) (a b : Option Suggestion) → IsShortHint digits a → IsShortHint digits b → a ≡ b
short_once None a b h k = h ∙ sym k
short_once (Some digits) a b h k = either_once digits a b h k

limit_once : (count : Option ℤ) (text : Option (List ℕ)) (a b : Option Suggestion) → IsLimitHint count text a → IsLimitHint count text b → a ≡ b
limit_once None text a b h k = written_once shapes.FailFast text a b h k
limit_once (Some number) text a b h k = h ∙ sym k

suggestion_at_once : (path : List PathStep) (shape : Shape) (value : Data) (a b : Option Suggestion) → IsHintAt path shape value a → IsHintAt path shape value b → a ≡ b
suggestion_at_once path shapes.SlowTimeout value a b h k = duration_once (digits_of value) a b h k
suggestion_at_once path shapes.Duration value a b h k = duration_once (digits_of value) a b h k
suggestion_at_once path shapes.LeakTimeout value a b h k = short_once (digits_of value) a b h k
suggestion_at_once path shapes.ShortDuration value a b h k = short_once (digits_of value) a b h k
suggestion_at_once path shapes.FailFast value a b h k = limit_once (as_integer value) (as_str value) a b h k
suggestion_at_once path shapes.Array value a b h k = h ∙ sym k
suggestion_at_once path shape value a b h k = written_once shape (as_str value) a b h k

value_hint_once : (unknown_word : Option (List ℕ × List (List ℕ))) (path : List PathStep) (shape : Shape) (value : Data) (a b : Option Suggestion)
    → IsValueHint unknown_word path shape value a → IsValueHint unknown_word path shape value b → a ≡ b
value_hint_once (Some (name, known)) path shape value a b h k = suggestion_once known name a b h k
value_hint_once None path shape value a b h k = suggestion_at_once path shape value a b h k

hint_of_once : (path : List PathStep) (subject : Subject) (fault : Fault) (a b : Option Suggestion) → IsHintOf path subject fault a → IsHintOf path subject fault b → a ≡ b
hint_of_once path (a_value shape parts value) fault a b h k = value_hint_once (unknown_word_in fault.cause) path shape value a b h k
hint_of_once path (refused_key name expected known) fault a b h k = suggestion_once known name a b h k
hint_of_once path (absent_key name) fault a b h k = h ∙ sym k
hint_of_once path (between rules value) fault a b h k = h ∙ sym k
hint_of_once path (features_at value) fault a b h k = h ∙ sym k

one_kind : (setting : SettingView) (fault : Fault) (reason : Reason) (a b : FoundKind) → IsFoundKind setting fault reason a → IsFoundKind setting fault reason b → a ≡ b
one_kind setting fault reason a b (severity, hint, grave, meant, is) (other, hint_too, grave_too, meant_too, is_too) =
    is ∙ ap₂ (λ (s : FindingSeverity) (h : Option Suggestion). refused reason s h) (severity_once setting fault severity other grave grave_too)
    (hint_of_once setting.path setting.subject fault hint hint_too meant meant_too) ∙ sym is_too

one_found : (setting : SettingView) (fault : Fault) (a b : Found) → IsFoundOf setting fault a → IsFoundOf setting fault b → a ≡ b
one_found setting fault a b h k =
    ap₂ found_at (h.path_is ∙ sym k.path_is) (one_kind setting fault _ a.kind b.kind h.kind_is k.kind_is)

faults_once : (setting : SettingView) (outcome : Outcome) (a b : List Found) → AreFaults setting outcome a → AreFaults setting outcome b → a ≡ b
faults_once setting accepted a b h k = h ∙ sym k
faults_once setting (names_features value named) a b h k = h ∙ sym k
faults_once setting (faulty fault) a b (found, is, whole) (other, also, too) = whole ∙ ap (λ (it : Found). it ∷ []) (one_found setting fault found other is also) ∙ sym too
faults_once setting (miswritten fault) a b h k = h ∙ sym k
faults_once setting (left_open fault) a b h k = h ∙ sym k

-- ---- of a key

hint_once : (known : List (List ℕ)) (path : List PathStep) (name : List ℕ) (a b : Option Suggestion) → IsHintFor known path name a → IsHintFor known path name b → a ≡ b
hint_once known path name a b (near, nearest, is) (other, also, is_too) = is ∙ ap (suggested_beside known path name) (nearest_once known name near other nearest also) ∙ sym is_too

key_once : (is : Bool) (setting : TableKey) (a b : Option Found) → IsKeyFoundFor is setting a → IsKeyFoundFor is setting b → a ≡ b
key_once true setting a b h k = h ∙ sym k
key_once false setting a b (hint, meant, is) (other, also, is_too) =
    is ∙ ap (λ (h : Option Suggestion). Some (found_at setting.path (unknown_key setting.name h)))
    (hint_once setting.known setting.path setting.name hint other meant also) ∙ sym is_too

-- ---- of features

step_once : (value : Data) (name : List ℕ) (a b : PathStep) → IsStepTo value name a → IsStepTo value name b → a ≡ b
step_once value name (index i) (index j) h k = elim (cases_lt i j) [
  | inl less ↦ absurd (k.1 i less h.0)
  | inr more ↦ elim (cases_lt j i) [
    | inl less ↦ absurd (h.1 j less k.0)
    | inr same ↦ ap index (omega (arith, more, same))
  ]
]
step_once value name (index i) (key text) h k = absurd (k.0 i h.0)
step_once value name (key text) (index j) h k = absurd (h.0 j k.0)
step_once value name (key text) (key other) h k = ap key (h.1 ∙ sym k.1)

name_once : (path : List PathStep) (value : Data) (name : List ℕ) (a b : Option Found) → IsNameFound path value name a → IsNameFound path value name b → a ≡ b
name_once path value name a b (step, hint, leads, nearest, is) (other, hint_too, leads_too, nearest_too, is_too) =
    is ∙ ap₂ (λ (s : PathStep) (h : Option Suggestion). Some (found_at (path ++ (s ∷ [])) (unknown_name name h)))
    (step_once value name step other leads leads_too) (suggestion_once (map word_of all_features) name hint hint_too nearest nearest_too) ∙ sym is_too

tools_once : (path : List PathStep) (features : Features) (a b : List Found) → AreToolsFound path features a → AreToolsFound path features b → a ≡ b
tools_once path features a b (inl h) (inl k) = h.1 ∙ sym k.1
tools_once path features a b (inl h) (inr k) = absurd (k.0 h.0)
tools_once path features a b (inr h) (inl k) = absurd (h.0 k.0)
tools_once path features a b (inr (some, (names, are, is))) (inr (also, (others, are_too, is_too))) =
    let same : names ≡ others = texts_in_one_order names others are.in_order are_too.in_order (λ text. iff.trans (are.of_both text) (iff.symm (are_too.of_both text))) in
    is ∙ ap (λ (n : List (List ℕ)). found_at path (tool_names n) ∷ []) same ∙ sym is_too

all_named_once : (kind : ConfigSourceKind) (path : List PathStep) (value : Data) (features : Features) (a b : List Found) → AreNamedFound kind path value features a → AreNamedFound kind path value features b → a ≡ b
all_named_once (Tool name) path value features a b h k = tools_once path features a b h k
all_named_once kind path value features a b h k = found_once (IsNameFound path value) (name_once path value) features.unknown a b h k

features_once : (kind : ConfigSourceKind) (setting : SettingView) (outcome : Outcome) (a b : List Found) → AreFeatures kind setting outcome a → AreFeatures kind setting outcome b → a ≡ b
features_once kind setting accepted a b h k = h ∙ sym k
features_once kind setting (names_features value named) a b h k = all_named_once kind setting.path value named.features a b h k
features_once kind setting (faulty fault) a b h k = h ∙ sym k
features_once kind setting (miswritten fault) a b h k = h ∙ sym k
features_once kind setting (left_open fault) a b h k = h ∙ sym k

-- ---- of all

-- two lists of findings are one but for references
record SameOwn (faults features unknown notes others_faults others_features others_unknown others_notes : List Found) : Type 0 where
  pub of_faults : faults ≡ others_faults
  pub of_features : features ≡ others_features
  pub of_unknown : unknown ≡ others_unknown
  pub of_notes : notes ≡ others_notes

own_once : (edition : Edition) (kind : ConfigSourceKind) (files others : List ListFile) (position place : ℕ) (members : Members) (a b : List Found)
    → (h : AreFindings edition kind files position members a) → (k : AreFindings edition kind others place members b)
    → SameOwn h.faults h.features h.unknown h.notes k.faults k.features k.unknown k.notes
own_once edition kind files others position place members a b h k = record {
  of_faults = lists_once (AreFaultsFound edition)
      (λ setting. by_outcome_once edition setting (AreFaults setting) (faults_once setting)) (settings_of members) h.faults k.faults h.of_faults k.of_faults;
  of_features = lists_once (AreFeaturesFound edition kind)
      (λ setting. by_outcome_once edition setting (AreFeatures kind setting) (features_once kind setting)) (settings_of members) h.features k.features h.of_features k.of_features;
  of_unknown = found_once IsKeyFound
      (λ setting. key_once (is_known setting.known setting.name) setting) (keys_of_document members) h.unknown k.unknown h.of_unknown k.of_unknown;
  of_notes = lists_once (AreNotesFound edition kind)
      (λ setting. by_outcome_once edition setting (AreNotes kind setting) (λ outcome c d n m. n ∙ sym m)) (settings_of members) h.notes k.notes h.of_notes k.of_notes;
}

pub findings_once : (edition : Edition) (kind : ConfigSourceKind) (files : List ListFile) (position : ℕ) (members : Members) (a b : List Found)
    → AreFindings edition kind files position members a → AreFindings edition kind files position members b → a ≡ b
findings_once edition kind files position members a b h k =
    let own = own_once edition kind files files position position members a b h k in
    let of_references : h.references ≡ k.references = found_once (IsReferenceFound (in_list edition files (file_with kind (Some members)) position)) (reference_once (in_list edition files (file_with kind (Some members)) position))
    (settings_of members) h.references k.references h.of_references k.of_references in
    let in_row : List Found → List Found → List Found = λ first later. first ++ later in
    h.whole ∙ ap₂ in_row own.of_faults (ap₂ in_row own.of_features (ap₂ in_row own.of_unknown (ap₂ in_row of_references own.of_notes))) ∙ sym k.whole

-- ---- but for references

-- no finding of references is left
none_of_one : (path : List PathStep) (here : Option Found) → IsAtPath path here → own_findings (option_to_list here) ≡ []
none_of_one path None is = refl
none_of_one path (Some found) is = rw is.3 refl

none_own : (at : FileInList) (settings : List SettingView) (all_found : List Found)
    → AreFoundIn (IsReferenceFound at) settings all_found → own_findings all_found ≡ []
none_own at [] all_found are = rw are refl
none_own at (setting ∷ settings) all_found (here, rest, is, are, whole) =
    ap own_findings whole ∙ filter-append _ (option_to_list here) rest
    ∙ ap₂ (λ (first later : List Found). first ++ later) (none_of_one setting.path here (reference_at at setting here is)) (none_own at settings rest are)

-- what is left of findings with references among them
own_of : (faults features unknown references notes : List Found) → own_findings references ≡ []
    → own_findings (faults ++ (features ++ (unknown ++ (references ++ notes)))) ≡ own_findings (faults ++ (features ++ (unknown ++ notes)))
own_of faults features unknown references notes none = search (rules, filter-append, none)

pub own_findings_once : (edition : Edition) (kind : ConfigSourceKind) (files others : List ListFile) (position place : ℕ) (members : Members) (a b : List Found)
    → AreFindings edition kind files position members a → AreFindings edition kind others place members b → own_findings a ≡ own_findings b
own_findings_once edition kind files others position place members a b h k =
    let own = own_once edition kind files others position place members a b h k in
    let in_row : List Found → List Found → List Found = λ first later. first ++ later in
    ap own_findings h.whole ∙ own_of h.faults h.features h.unknown h.references h.notes (none_own (in_list edition files (file_with kind (Some members)) position) (settings_of members) h.references h.of_references)
    ∙ ap own_findings (ap₂ in_row own.of_faults (ap₂ in_row own.of_features (ap₂ in_row own.of_unknown own.of_notes)))
    ∙ sym (own_of k.faults k.features k.unknown k.references k.notes (none_own (in_list edition others (file_with kind (Some members)) place) (settings_of members) k.references k.of_references))
    ∙ sym (ap own_findings k.whole)
