-- What is found of values, one after the other.
use Rattle.std.proofs.Common.{◌≡◌, ℕ, List, Some, [], ◌∷◌, ◌++◌, ◌∙◌, ap, append_assoc, append-nil, flat_map, refl, sym}
use Rattle.std.proofs.lemmas.List.Concat.{flat_map-append}
use Rattle.toml.specs.Data.{Members, table}
use Rattle.nextest_config_elements.specs.Keys.{file_table}
use Rattle.nextest_config.specs.declared.nextest_version.edition.Edition.{Edition}
use Rattle.nextest_config.specs.declared.nextest_version.source.ConfigSourceKind.{ConfigSourceKind}
use Rattle.nextest_config_lint.proofs.FoundLists.{adds_more, adds_one, found_in_both, reported_in_both}
use Rattle.nextest_config_lint.specs.Defined.{file_with, ListFile}
use Rattle.nextest_config_lint.specs.Document.{AreFindings, HasFound}
use Rattle.nextest_config_lint.specs.Found.{AddsFound, AddsOne, AreFoundOf, Found, Reports}
use Rattle.nextest_config_lint.specs.References.JudgedFile.{in_list, IsJudgedIn, judged_in}
use Rattle.nextest_config_lint.specs.References.{IsReferenceFound}
use Rattle.nextest_config_lint.specs.Settings.{settings_of, SettingView}
use Rattle.nextest_config_lint.specs.Unknown.{IsKeyFound, keys_below, keys_in}
use Rattle.nextest_config_lint.specs.Values.{AreFaults, AreFaultsFound, AreFeatures, AreFeaturesFound, AreFoundBy, AreNotes, AreNotesFound, IsOutcome, Outcome, ReportsValue, ReportsValues}
use Rattle.nextest_config_lint.specs.declared.document.FoundInValues.{FoundInValues}
use Rattle.nextest_config_lint.specs.declared.finding.Finding.{Finding}
use Rattle.nextest_config_lint.specs.declared.values.ValueFindings.{ValueFindings}

-- what is found of one more
found_next : {A : Type 0} (Are : A → List Found → Type 0) (xs : List A) (x : A) (all_found here : List Found)
    → AreFoundOf Are xs all_found → Are x here → AreFoundOf Are (xs ++ (x ∷ [])) (all_found ++ here)
found_next Are [] x all_found here none is = rw none (here, [], is, refl, sym (append-nil here))
found_next Are (first ∷ xs) x all_found here (of_first, rest, is_first, are, whole) is =
    (of_first, rest ++ here, is_first, found_next Are xs x rest here are is, rw whole (append_assoc of_first rest here))

-- findings tell what is found of these
abbrev pub ReportsOf : {A : Type 0} → (A → List Found → Type 0) → List A → List Finding → Type 0
ReportsOf Are xs findings = (all_found : List Found) × AreFoundOf Are xs all_found × Reports findings all_found

-- the findings of one more come after those so far
reports_next : {A : Type 0} (Are : A → List Found → Type 0) (xs : List A) (x : A) (before more now : List Finding)
    → ReportsOf Are xs before → ((here : List Found) × Are x here × Reports more here) → now ≡ before ++ more → ReportsOf Are (xs ++ (x ∷ [])) now
reports_next Are xs x before more now (all_found, are, reported) (here, is, reported_here) whole =
    (all_found ++ here, found_next Are xs x all_found here are is, rw whole (reported_in_both before more all_found here reported reported_here))

-- those that are found by an outcome
by_outcome : (edition : Edition) (setting : SettingView) (Are : Outcome → List Found → Type 0) (outcome : Outcome) (findings : List Finding)
    → IsOutcome edition setting outcome → ((here : List Found) × Are outcome here × Reports findings here) → (here : List Found) × AreFoundBy edition setting Are here × Reports findings here
by_outcome edition setting Are outcome findings is (here, are, reported) = (here, (outcome, is, are), reported)

-- the findings of one more value, of each kind
pub values_next : (edition : Edition) (kind : ConfigSourceKind) (settings : List SettingView) (setting : SettingView) (before found now : ValueFindings)
    → ReportsValues edition kind settings before → ReportsValue edition kind setting found
    → now.faults.items ≡ before.faults.items ++ found.faults.items → now.features.items ≡ before.features.items ++ found.features.items
    → now.notes.items ≡ before.notes.items ++ found.notes.items
    → ReportsValues edition kind (settings ++ (setting ∷ [])) now
values_next edition kind settings setting before found now so_far (outcome, is, reported) faults features notes = record {
  faults = reports_next (AreFaultsFound edition) _ _ _ _ _ so_far.faults (by_outcome edition setting (AreFaults setting) outcome _ is reported.faults) faults;
  features = reports_next (AreFeaturesFound edition kind) _ _ _ _ _ so_far.features (by_outcome edition setting (AreFeatures kind setting) outcome _ is reported.features) features;
  notes = reports_next (AreNotesFound edition kind) _ _ _ _ _ so_far.notes (by_outcome edition setting (AreNotes kind setting) outcome _ is (_, refl, reported.notes)) notes;
}

-- what is found of one more, of each kind
pub found_of_one_more : (start old new : FoundInValues) (settings : List SettingView) (setting : SettingView) (found : ValueFindings)
    → HasFound start settings old → new.file ≡ old.file → ReportsValue old.file.edition old.file.source.now setting found
    → new.values.faults.items ≡ old.values.faults.items ++ found.faults.items → new.values.features.items ≡ old.values.features.items ++ found.features.items
    → new.values.notes.items ≡ old.values.notes.items ++ found.notes.items
    → AddsFound IsKeyFound (keys_in setting) old.unknown.items new.unknown.items
    → ((files : List ListFile) (members : Members) → IsJudgedIn files members old.file
    → AddsOne (IsReferenceFound (judged_in files members old.file)) setting old.references.items new.references.items)
    → HasFound start (settings ++ (setting ∷ [])) new
found_of_one_more start old new settings setting found so_far same reported faults features notes unknown references =
    let reported_of_start : ReportsValue start.file.edition start.file.source.now setting found = rw so_far.file at reported in
    let keys = flat_map-append keys_in settings (setting ∷ []) ∙ ap (λ more. flat_map keys_in settings ++ more) (append-nil (keys_in setting)) in
    record {
      file = same ∙ so_far.file;
      values = values_next start.file.edition start.file.source.now settings setting old.values found new.values so_far.values reported_of_start faults features notes;
      unknown = rw keys (adds_more IsKeyFound (flat_map keys_in settings) (keys_in setting) [] old.unknown.items new.unknown.items so_far.unknown unknown);
      references = λ files members by. adds_more (IsReferenceFound (judged_in files members start.file)) settings (setting ∷ []) [] old.references.items new.references.items
          (so_far.references files members by)
          (adds_one (IsReferenceFound (judged_in files members start.file)) setting old.references.items new.references.items
          (rw so_far.file at references files members by));
    }

-- what is found of all that is judged in a document, kind by kind, behind the unknown keys of the top
pub all_are_found : (edition : Edition) (source : ConfigSourceKind) (files : List ListFile) (position : ℕ) (held : Members) (found : FoundInValues) (unknown findings : List Finding)
    → ReportsValues edition source (settings_of held) found.values
    → AddsFound IsKeyFound (keys_below file_table [] (table held)) [] unknown
    → AddsFound IsKeyFound (flat_map keys_in (settings_of held)) [] found.unknown.items
    → AddsFound (IsReferenceFound (in_list edition files (file_with source (Some held)) position)) (settings_of held) [] found.references.items
    → findings ≡ found.values.faults.items ++ (found.values.features.items ++ ((unknown ++ found.unknown.items) ++ (found.references.items ++ found.values.notes.items)))
    → (all_found : List Found) × AreFindings edition source files position held all_found × Reports findings all_found
all_are_found edition source files position held found unknown findings values top inner references whole = (
  values.faults.0 ++ (values.features.0 ++ ((top.0 ++ inner.0) ++ (references.0 ++ values.notes.0))),
  record {
    faults = values.faults.0;
    features = values.features.0;
    unknown = top.0 ++ inner.0;
    references = references.0;
    notes = values.notes.0;
    of_faults = values.faults.1;
    of_features = values.features.1;
    of_unknown = found_in_both IsKeyFound _ _ top.0 inner.0 top.1 inner.1;
    of_references = references.1;
    of_notes = values.notes.1;
    whole = refl;
  },
  rw whole (reported_in_both _ _ _ _ values.faults.2 (reported_in_both _ _ _ _ values.features.2
      (reported_in_both _ _ _ _ (reported_in_both _ _ _ _ top.2 inner.2) (reported_in_both _ _ _ _ references.2 values.notes.2)))),
)
