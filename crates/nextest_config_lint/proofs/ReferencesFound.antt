-- What is found of references is found once, is no error, and stands where something is.
use mathlib.Core.Logic.Iff as iff
use Rattle.std.specs.Prelude.{◌≡◌, ◌++◌, ℕ, false, IsSome, List, [], ◌∷◌, Option, Some, None, option_and_then, option_map}
use Rattle.std.proofs.Common.{ap, arith, inl, inr, refl, subst, sym, ◌∙◌}
use Rattle.std.proofs.lemmas.Option.{none-some}
use Rattle.toml.specs.Data.{as_str, Data, get}
use Rattle.nextest_config_values.specs.Identifier.{IdentifierFlaw, NameFault}
use Rattle.nextest_config_values.specs.Identifier.Laws.{one_identifier_or_fault}
use Rattle.nextest_config_values.specs.Read.Fault.{identifier}
use Rattle.nextest_config.specs.NextestVersion.{texts_in_one_order}
use Rattle.nextest_config.specs.declared.nextest_version.source.ConfigSourceKind.{ConfigSourceKind}
use Rattle.nextest_config.specs.declared.nextest_version.source.ConfigSourceKind.TheVariants.{DiscoveredRepository, ExplicitRepository, Tool}
use Rattle.toml_spans.specs.Line.{found_below}
use Rattle.toml_spans.specs.Step.{key, PathStep}
use Rattle.nextest_config_lint.specs.Defined.{AreNamesOf, DefinesNamed, ListFile}
use Rattle.nextest_config_lint.specs.File.{key_in, path_after, whole_path}
use Rattle.nextest_config_lint.specs.FindingsLaws.{is_own}
use Rattle.nextest_config_lint.specs.Found.{default_filter_alone, default_filter_beside, feature_not_enabled, Found, FoundKind, found_severity, IsNearestSuggestion, Suggestion, name_of_tool, no_name, other_script, outside_tool, override_of_all, reserved_profile, script_of_all, setup_script_too, the_word, undefined_name, undefined_profile, IsFirstReported, IsReportedIf}
use Rattle.nextest_config_elements.specs.Named.{other_kind}
use Rattle.nextest_config_values.specs.NearestWord.{nearest_once}
use Rattle.nextest_config_lint.specs.References.Overrides.{default_filter_key, HasKey, IsBesideFilter, IsDefaultFilterReported, IsOfAll, IsOverrideReported, IsWithoutPlatform}
use Rattle.nextest_config_lint.specs.References.JudgedFile.{FileInList}
use Rattle.nextest_config_lint.specs.References.Definitions.{IsDefinitionReported, IsMarkReported, IsSetupToo, tool_mark_of}
use Rattle.nextest_config_lint.specs.References.Names.{IsGroupTextReported, IsKeptReported, IsMissingReported, IsNameReported, IsNearestReported, IsSought, IsUndefinedReported}
use Rattle.nextest_config_lint.specs.References.Profiles.{IsOtherProfile, IsParentNameReported, IsParentReported, IsReserved}
use Rattle.nextest_config_lint.specs.References.{IsReferenceFound, IsReferenceReported, IsRuleReported, IsSubjectReported, IsTextReported, IsValueReported, last_key, profile_of, steps_to, placed_below}
use Rattle.nextest_config_lint.specs.Settings.{a_value, SettingView, Subject}
use Rattle.nextest_config_lint.specs.declared.finding.FindingSeverity.TheVariants.{Warning}
use Rattle.nextest_config_elements.specs.declared.field.Referent.{Referent}
use Rattle.nextest_config_elements.specs.declared.field.Referent.TheVariants.{Definition, Parent}
use Rattle.nextest_config_elements.specs.declared.field.Shape.{Shape}
use Rattle.nextest_config_elements.specs.declared.field.Shape.TheVariants.{Reference, References, RuledTable}
use Rattle.nextest_config_elements.specs.declared.field.TableRule.{TableRule}
use Rattle.nextest_config_elements.specs.declared.field.TableRule.TheVariants as rules
use Rattle.nextest_config_elements.specs.declared.named.NamedKind.{NamedKind}
use Rattle.nextest_config_elements.specs.declared.named.NamedKind.TheVariants.{Group, Script}

-- ---- what is told of references

-- it is a warning, is told of no key of its place, is what it is called, and stands at something in
-- the value
abbrev pub IsOfReference : Data → Option FoundKind → Type 0
IsOfReference value None = Unit {0}
IsOfReference value (Some kind) = (found_severity kind ≡ Warning) × (key_in kind ≡ None)
    × (is_own kind ≡ false) × IsSome (found_below (steps_to kind) value)

reported_if : (value : Data) (Holds : Type 0) (kind : FoundKind) (reported : Option FoundKind) → (Holds → IsOfReference value (Some kind)) → IsReportedIf Holds kind reported → IsOfReference value reported
reported_if value Holds kind reported so (inl (holds, is)) = rw is (so holds)
reported_if value Holds kind reported so (inr (not, is)) = rw is tt

-- what is told first or next is of a reference, where both are
reported_first : (value : Data) (IsFirst IsNext : Option FoundKind → Type 0) (reported : Option FoundKind)
    → ((reported : Option FoundKind) → IsFirst reported → IsOfReference value reported) → ((reported : Option FoundKind) → IsNext reported → IsOfReference value reported)
    → IsFirstReported IsFirst IsNext reported → IsOfReference value reported
reported_first value IsFirst IsNext reported of_first of_next (inl (first, is_first, is)) = rw is (of_first (Some first) is_first)
reported_first value IsFirst IsNext reported of_first of_next (inr (none, next)) = of_next reported next

reported_undefined : (value : Data) (undefined : List ℕ → Option Suggestion → FoundKind) (IsCandidate : List ℕ → Type 0) (name : List ℕ) (reported : Option FoundKind)
    → ((name : List ℕ) (hint : Option Suggestion) → IsOfReference value (Some (undefined name hint))) → IsUndefinedReported undefined IsCandidate name reported → IsOfReference value reported
reported_undefined value undefined IsCandidate name reported so (words, hint, fit, sought, is) = rw is (so name hint)

text_or_memory : (value : Data) (IsReported : List ℕ → Option FoundKind → Type 0) (text : Option (List ℕ)) (reported : Option FoundKind)
    → ((text : List ℕ) (reported : Option FoundKind) → IsReported text reported → IsOfReference value reported) → IsTextReported IsReported text reported → IsOfReference value reported
text_or_memory value IsReported None reported so is = rw is tt
text_or_memory value IsReported (Some text) reported so is = so text reported is

reported_name : (value : Data) (kind : NamedKind) (IsKept : List ℕ → Option FoundKind → Type 0) (text : List ℕ) (reported : Option FoundKind)
    → ((name : List ℕ) (reported : Option FoundKind) → IsKept name reported → IsOfReference value reported) → IsNameReported kind IsKept text reported → IsOfReference value reported
reported_name value kind IsKept text reported so (inl (fault, of_text, is)) = rw is (refl, refl, refl, refl)
reported_name value kind IsKept text reported so (inr (name, of_text, kept)) = so name reported kept

reported_nearest : (value : Data) (kind : NamedKind) (files : List ListFile) (name : List ℕ) (reported : Option FoundKind) → IsNearestReported kind files name reported → IsOfReference value reported
reported_nearest value kind files name reported is =
    reported_undefined value (undefined_name kind) (DefinesNamed kind files) name reported (λ name hint. (refl, refl, refl, refl)) is

reported_missing : (value : Data) (kind : NamedKind) (files : List ListFile) (name : List ℕ) (reported : Option FoundKind) → IsMissingReported kind files name reported → IsOfReference value reported
reported_missing value Group files name reported is = reported_nearest value Group files name reported is
reported_missing value (Script script) files name reported is =
    reported_first value (IsReportedIf (DefinesNamed (Script (other_kind script)) files name) (other_script (other_kind script) name)) (IsNearestReported (Script script) files name) reported
    (λ first h. reported_if value _ (other_script (other_kind script) name) first (λ _. (refl, refl, refl, refl)) h) (λ next h. reported_nearest value (Script script) files name next h) is

reported_kept : (value : Data) (kind : NamedKind) (files : List ListFile) (name : List ℕ) (reported : Option FoundKind) → IsKeptReported kind files name reported → IsOfReference value reported
reported_kept value kind files name reported (inl (undefined, is)) = reported_missing value kind files name reported is
reported_kept value kind files name reported (inr (defined, is)) = rw is tt

reported_group_text : (value : Data) (files : List ListFile) (text : List ℕ) (reported : Option FoundKind) → IsGroupTextReported files text reported → IsOfReference value reported
reported_group_text value files text reported (inl (global, is)) = rw is tt
reported_group_text value files text reported (inr (other, named)) = reported_name value Group (IsKeptReported Group files) text reported (reported_kept value Group files) named

reported_mark : (value : Data) (source : ConfigSourceKind) (kind : NamedKind) (name : List ℕ) (reported : Option FoundKind) → IsMarkReported source kind name reported → IsOfReference value reported
reported_mark value (Tool tool) kind name reported is = reported_if value _ (outside_tool kind (tool_mark_of tool)) reported (λ _. (refl, refl, refl, refl)) is
reported_mark value ExplicitRepository kind name reported is = reported_if value _ (name_of_tool kind) reported (λ _. (refl, refl, refl, refl)) is
reported_mark value DiscoveredRepository kind name reported is = reported_if value _ (name_of_tool kind) reported (λ _. (refl, refl, refl, refl)) is

reported_definition : (value : Data) (file : ListFile) (kind : NamedKind) (name : List ℕ) (reported : Option FoundKind) → IsDefinitionReported file kind name reported → IsOfReference value reported
reported_definition value file kind name reported is =
    reported_first value (IsMarkReported file.kind kind name) (IsReportedIf (IsSetupToo file kind name) (setup_script_too name)) reported
    (reported_mark value file.kind kind name) (λ next h. reported_if value _ (setup_script_too name) next (λ _. (refl, refl, refl, refl)) h) is

some_below : (found : Option Data) → IsSome found → IsSome (option_and_then (found_below []) found)
some_below None some = some
some_below (Some value) some = refl

-- a key that a table has is led to by its step
key_below : (value : Data) (name : List ℕ) → HasKey value name → IsSome (found_below (key name ∷ []) value)
key_below value name has = some_below (get name value) has

reported_default_filter : (value : Data) (reported : Option FoundKind) → IsDefaultFilterReported value reported → IsOfReference value reported
reported_default_filter value reported is =
    reported_first value (IsReportedIf (IsBesideFilter value) default_filter_beside) (IsReportedIf (IsWithoutPlatform value) default_filter_alone) reported
    (λ first h. reported_if value (IsBesideFilter value) default_filter_beside first (λ beside. (refl, refl, refl, key_below value default_filter_key beside.0)) h)
    (λ next h. reported_if value (IsWithoutPlatform value) default_filter_alone next (λ alone. (refl, refl, refl, key_below value default_filter_key alone.0)) h) is

reported_override : (value : Data) (reported : Option FoundKind) → IsOverrideReported value reported → IsOfReference value reported
reported_override value reported is =
    reported_first value (IsDefaultFilterReported value) (IsReportedIf (IsOfAll value) override_of_all) reported (reported_default_filter value)
    (λ next h. reported_if value (IsOfAll value) override_of_all next (λ _. (refl, refl, refl, refl)) h) is

reported_parent_name : (value : Data) (files : List ListFile) (profile parent : List ℕ) (reported : Option FoundKind) → IsParentNameReported files profile parent reported → IsOfReference value reported
reported_parent_name value files profile parent reported (inl (undefined, is)) =
    reported_undefined value undefined_profile (IsOtherProfile files profile) parent reported (λ name hint. (refl, refl, refl, refl)) is
reported_parent_name value files profile parent reported (inr (defined, is)) = rw is tt

reported_parent : (value : Data) (files : List ListFile) (position : ℕ) (profile parent : List ℕ) (reported : Option FoundKind) → IsParentReported files position profile parent reported → IsOfReference value reported
reported_parent value files position profile parent reported (inl (default, is)) = rw is (refl, refl, refl, refl)
reported_parent value files position profile parent reported (inr (other, inl (comes_back, is))) = rw is (refl, refl, refl, refl)
reported_parent value files position profile parent reported (inr (other, inr (leads_on, named))) = reported_parent_name value files profile parent reported named

reported_rule : (at : FileInList) (path : List PathStep) (rule : TableRule) (value : Data) (reported : Option FoundKind) → IsRuleReported at path rule value reported → IsOfReference value reported
reported_rule at path rules.Profile value reported is =
    text_or_memory value (λ name. IsReportedIf (IsReserved name) reserved_profile) (last_key path) reported (λ name said h. reported_if value _ reserved_profile said (λ _. (refl, refl, refl, refl)) h) is
reported_rule at path rules.Override value reported is = reported_override value reported is
reported_rule at path rules.ScriptRule value reported is = reported_if value _ script_of_all reported (λ _. (refl, refl, refl, refl)) is
reported_rule at path (rules.Definition kind) value reported is =
    text_or_memory value (IsNameReported kind (IsDefinitionReported at.file kind)) (last_key path) reported
    (λ name said h. reported_name value kind (IsDefinitionReported at.file kind) name said (reported_definition value at.file kind) h) is
reported_rule at path (rules.Scripts script) value reported is = reported_if value _ (feature_not_enabled script) reported (λ _. (refl, refl, refl, refl)) is

reported_reference : (at : FileInList) (path : List PathStep) (referent : Referent) (value : Data) (text : List ℕ) (reported : Option FoundKind) → IsReferenceReported at path referent text reported → IsOfReference value reported
reported_reference at path Parent value text reported is =
    text_or_memory value (λ name. IsParentReported at.files at.position name text) (profile_of path) reported (λ name. reported_parent value at.files at.position name text) is
reported_reference at path (Definition Group) value text reported is = reported_group_text value at.files text reported is
reported_reference at path (Definition (Script script)) value text reported is =
    reported_name value (Script script) (IsKeptReported (Script script) at.files) text reported (reported_kept value (Script script) at.files) is

reported_value : (at : FileInList) (path : List PathStep) (shape : Shape) (value : Data) (reported : Option FoundKind) → IsValueReported at path shape value reported → IsOfReference value reported
reported_value at path (RuledTable rule) value reported is = reported_rule at path rule value reported is
reported_value at path (Reference referent) value reported is = text_or_memory value (IsReferenceReported at path referent) (as_str value) reported (reported_reference at path referent value) is
reported_value at path (References referent) value reported is = text_or_memory value (IsReferenceReported at path referent) (as_str value) reported (reported_reference at path referent value) is
reported_value at path shape value reported is = rw is tt

-- ---- where it is told

-- what is found, as it is told of what is judged at a path
abbrev pub IsAtPath : List PathStep → Option Found → Type 0
IsAtPath path None = Unit {0}
IsAtPath path (Some found) = (found.path ≡ path ++ steps_to found.kind) × (found_severity found.kind ≡ Warning) × (whole_path found ≡ found.path)
    × (is_own found.kind ≡ false)

at_path : (value : Data) (path : List PathStep) (reported : Option FoundKind) → IsOfReference value reported → IsAtPath path (option_map (placed_below path) reported)
at_path value path None is = tt
at_path value path (Some kind) is = (refl, is.0, ap (path_after (path ++ steps_to kind)) is.1, is.2)

nothing_at : (path : List PathStep) (reported : Option FoundKind) → reported ≡ None → IsAtPath path (option_map (placed_below path) reported)
nothing_at path reported none = rw none tt

subject_at : (at : FileInList) (path : List PathStep) (subject : Subject) (reported : Option FoundKind) → IsSubjectReported at path subject reported → IsAtPath path (option_map (placed_below path) reported)
subject_at at path (a_value shape parts value) reported is = at_path value path reported (reported_value at path shape value reported is)
subject_at at path subject reported is = nothing_at path reported is

pub reference_at : (at : FileInList) (setting : SettingView) (here : Option Found) → IsReferenceFound at setting here → IsAtPath setting.path here
reference_at at setting here (reported, is, found) = rw found (subject_at at setting.path setting.subject reported is)

-- in the value of which something is told, its steps lead to something
pub reported_leads : (at : FileInList) (path : List PathStep) (shape : Shape) (value : Data) (reported : FoundKind) → IsValueReported at path shape value (Some reported) → IsSome (found_below (steps_to reported) value)
reported_leads at path shape value reported is = (reported_value at path shape value (Some reported) is).3

-- ---- it is found once

if_once : (Holds : Type 0) (kind : FoundKind) (a b : Option FoundKind) → IsReportedIf Holds kind a → IsReportedIf Holds kind b → a ≡ b
if_once Holds kind a b (inl h) (inl k) = h.1 ∙ sym k.1
if_once Holds kind a b (inl h) (inr k) = absurd (k.0 h.0)
if_once Holds kind a b (inr h) (inl k) = absurd (h.0 k.0)
if_once Holds kind a b (inr h) (inr k) = h.1 ∙ sym k.1

pub suggestion_once : (words : List (List ℕ)) (name : List ℕ) (a b : Option Suggestion) → IsNearestSuggestion words name a → IsNearestSuggestion words name b → a ≡ b
suggestion_once words name a b (word, nearest, is) (other, also, is_too) = is ∙ ap (option_map the_word) (nearest_once words name word other nearest also) ∙ sym is_too

sought_once : (words : List (List ℕ)) (name : List ℕ) (a b : Option Suggestion) → IsSought words name a → IsSought words name b → a ≡ b
sought_once words name a b (inl h) (inl k) = suggestion_once words name a b h.1 k.1
sought_once words name a b (inl h) (inr k) = absurd (omega (arith, h.0, k.0))
sought_once words name a b (inr h) (inl k) = absurd (omega (arith, h.0, k.0))
sought_once words name a b (inr h) (inr k) = h.1 ∙ sym k.1

one_list : (Holds : List ℕ → Type 0) (names others : List (List ℕ)) → AreNamesOf Holds names → AreNamesOf Holds others → others ≡ names
one_list Holds names others are are_too =
    texts_in_one_order others names are_too.in_order are.in_order (λ text. iff.trans (are_too.each text) (iff.symm (are.each text)))

undefined_once : (undefined : List ℕ → Option Suggestion → FoundKind) (IsCandidate : List ℕ → Type 0) (name : List ℕ) (a b : Option FoundKind)
    → IsUndefinedReported undefined IsCandidate name a → IsUndefinedReported undefined IsCandidate name b → a ≡ b
undefined_once undefined IsCandidate name a b (words, hint, fit, sought, is) (other_words, other, fit_too, also, is_too) =
    let same = subst (λ all. IsSought all name other) (one_list IsCandidate words other_words fit fit_too) also in
    is ∙ ap (λ (h : Option Suggestion). Some (undefined name h)) (sought_once words name hint other sought same) ∙ sym is_too

text_once : (IsReported : List ℕ → Option FoundKind → Type 0) (text : Option (List ℕ)) (a b : Option FoundKind)
    → ((text : List ℕ) (a b : Option FoundKind) → IsReported text a → IsReported text b → a ≡ b) → IsTextReported IsReported text a → IsTextReported IsReported text b → a ≡ b
text_once IsReported None a b once h k = h ∙ sym k
text_once IsReported (Some text) a b once h k = once text a b h k

-- what is told first or next is told once, where both are
first_once : (IsFirst IsNext : Option FoundKind → Type 0) (a b : Option FoundKind) → ((a b : Option FoundKind) → IsFirst a → IsFirst b → a ≡ b)
    → ((a b : Option FoundKind) → IsNext a → IsNext b → a ≡ b) → IsFirstReported IsFirst IsNext a → IsFirstReported IsFirst IsNext b → a ≡ b
first_once IsFirst IsNext a b first next (inl (reported, is_first, is)) (inl (other, also, is_too)) = is ∙ first (Some reported) (Some other) is_first also ∙ sym is_too
first_once IsFirst IsNext a b first next (inl (reported, is_first, is)) (inr (none, later)) = absurd (none-some reported (sym (first (Some reported) None is_first none)))
first_once IsFirst IsNext a b first next (inr (none, later)) (inl (reported, is_first, is)) = absurd (none-some reported (sym (first (Some reported) None is_first none)))
first_once IsFirst IsNext a b first next (inr (none, later)) (inr (none_too, also)) = next a b later also

name_once : (kind : NamedKind) (IsKept : List ℕ → Option FoundKind → Type 0) (text : List ℕ) (a b : Option FoundKind)
    → ((name : List ℕ) (a b : Option FoundKind) → IsKept name a → IsKept name b → a ≡ b) → IsNameReported kind IsKept text a → IsNameReported kind IsKept text b → a ≡ b
name_once kind IsKept text a b once (inl (fault, of_text, is)) (inl (other, also, is_too)) =
    is ∙ ap (λ (f : NameFault IdentifierFlaw). Some (no_name kind (identifier f))) (one_identifier_or_fault.one_fault text fault other of_text also) ∙ sym is_too
name_once kind IsKept text a b once (inl (fault, of_text, is)) (inr (name, also, kept)) = absurd (one_identifier_or_fault.never_both text name fault also of_text)
name_once kind IsKept text a b once (inr (name, of_text, kept)) (inl (fault, also, is)) = absurd (one_identifier_or_fault.never_both text name fault of_text also)
name_once kind IsKept text a b once (inr (name, of_text, kept)) (inr (other, also, kept_too)) =
    once name a b kept (subst (λ it. IsKept it b) (one_identifier_or_fault.one_meaning text other name also of_text) kept_too)

nearest_reported_once : (kind : NamedKind) (files : List ListFile) (name : List ℕ) (a b : Option FoundKind) → IsNearestReported kind files name a → IsNearestReported kind files name b → a ≡ b
nearest_reported_once kind files name a b h k = undefined_once (undefined_name kind) (DefinesNamed kind files) name a b h k

missing_once : (kind : NamedKind) (files : List ListFile) (name : List ℕ) (a b : Option FoundKind) → IsMissingReported kind files name a → IsMissingReported kind files name b → a ≡ b
missing_once Group files name a b h k = nearest_reported_once Group files name a b h k
missing_once (Script script) files name a b h k =
    first_once (IsReportedIf (DefinesNamed (Script (other_kind script)) files name) (other_script (other_kind script) name)) (IsNearestReported (Script script) files name) a b
    (λ a b h k. if_once _ _ a b h k) (λ a b h k. nearest_reported_once (Script script) files name a b h k) h k

kept_once : (kind : NamedKind) (files : List ListFile) (name : List ℕ) (a b : Option FoundKind) → IsKeptReported kind files name a → IsKeptReported kind files name b → a ≡ b
kept_once kind files name a b (inl h) (inl k) = missing_once kind files name a b h.1 k.1
kept_once kind files name a b (inl h) (inr k) = absurd (k.0 h.0)
kept_once kind files name a b (inr h) (inl k) = absurd (h.0 k.0)
kept_once kind files name a b (inr h) (inr k) = h.1 ∙ sym k.1

group_text_once : (files : List ListFile) (text : List ℕ) (a b : Option FoundKind) → IsGroupTextReported files text a → IsGroupTextReported files text b → a ≡ b
group_text_once files text a b (inl h) (inl k) = h.1 ∙ sym k.1
group_text_once files text a b (inl h) (inr k) = absurd (k.0 h.0)
group_text_once files text a b (inr h) (inl k) = absurd (h.0 k.0)
group_text_once files text a b (inr h) (inr k) = name_once Group (IsKeptReported Group files) text a b (kept_once Group files) h.1 k.1

mark_once : (source : ConfigSourceKind) (kind : NamedKind) (name : List ℕ) (a b : Option FoundKind) → IsMarkReported source kind name a → IsMarkReported source kind name b → a ≡ b
mark_once (Tool tool) kind name a b h k = if_once _ _ a b h k
mark_once ExplicitRepository kind name a b h k = if_once _ _ a b h k
mark_once DiscoveredRepository kind name a b h k = if_once _ _ a b h k

definition_once : (file : ListFile) (kind : NamedKind) (name : List ℕ) (a b : Option FoundKind) → IsDefinitionReported file kind name a → IsDefinitionReported file kind name b → a ≡ b
definition_once file kind name a b h k =
    first_once (IsMarkReported file.kind kind name) (IsReportedIf (IsSetupToo file kind name) (setup_script_too name)) a b (mark_once file.kind kind name) (λ a b h k. if_once _ _ a b h k) h k

default_filter_once : (value : Data) (a b : Option FoundKind) → IsDefaultFilterReported value a → IsDefaultFilterReported value b → a ≡ b
default_filter_once value a b h k =
    first_once (IsReportedIf (IsBesideFilter value) default_filter_beside) (IsReportedIf (IsWithoutPlatform value) default_filter_alone) a b
    (λ a b h k. if_once (IsBesideFilter value) default_filter_beside a b h k) (λ a b h k. if_once (IsWithoutPlatform value) default_filter_alone a b h k) h k

override_once : (value : Data) (a b : Option FoundKind) → IsOverrideReported value a → IsOverrideReported value b → a ≡ b
override_once value a b h k =
    first_once (IsDefaultFilterReported value) (IsReportedIf (IsOfAll value) override_of_all) a b (default_filter_once value) (λ a b h k. if_once (IsOfAll value) override_of_all a b h k) h k

parent_name_once : (files : List ListFile) (profile parent : List ℕ) (a b : Option FoundKind) → IsParentNameReported files profile parent a → IsParentNameReported files profile parent b → a ≡ b
parent_name_once files profile parent a b (inl h) (inl k) = undefined_once undefined_profile (IsOtherProfile files profile) parent a b h.1 k.1
parent_name_once files profile parent a b (inl h) (inr k) = absurd (k.0 h.0)
parent_name_once files profile parent a b (inr h) (inl k) = absurd (h.0 k.0)
parent_name_once files profile parent a b (inr h) (inr k) = h.1 ∙ sym k.1

parent_once : (files : List ListFile) (position : ℕ) (profile parent : List ℕ) (a b : Option FoundKind)
    → IsParentReported files position profile parent a → IsParentReported files position profile parent b → a ≡ b
parent_once files position profile parent a b (inl h) (inl k) = h.1 ∙ sym k.1
parent_once files position profile parent a b (inl h) (inr k) = absurd (k.0 h.0)
parent_once files position profile parent a b (inr h) (inl k) = absurd (h.0 k.0)
parent_once files position profile parent a b (inr (other, inl h)) (inr (also, inl k)) = h.1 ∙ sym k.1
parent_once files position profile parent a b (inr (other, inl h)) (inr (also, inr k)) = absurd (k.0 h.0)
parent_once files position profile parent a b (inr (other, inr h)) (inr (also, inl k)) = absurd (h.0 k.0)
parent_once files position profile parent a b (inr (other, inr h)) (inr (also, inr k)) = parent_name_once files profile parent a b h.1 k.1

rule_once : (at : FileInList) (path : List PathStep) (rule : TableRule) (value : Data) (a b : Option FoundKind) → IsRuleReported at path rule value a → IsRuleReported at path rule value b → a ≡ b
rule_once at path rules.Profile value a b h k =
    text_once (λ name. IsReportedIf (IsReserved name) reserved_profile) (last_key path) a b (λ name a b h k. if_once _ _ a b h k) h k
rule_once at path rules.Override value a b h k = override_once value a b h k
rule_once at path rules.ScriptRule value a b h k = if_once _ _ a b h k
rule_once at path (rules.Definition kind) value a b h k =
    text_once (IsNameReported kind (IsDefinitionReported at.file kind)) (last_key path) a b
    (λ name a b h k. name_once kind (IsDefinitionReported at.file kind) name a b (definition_once at.file kind) h k) h k
rule_once at path (rules.Scripts script) value a b h k = if_once _ _ a b h k

referent_once : (at : FileInList) (path : List PathStep) (referent : Referent) (text : List ℕ) (a b : Option FoundKind) → IsReferenceReported at path referent text a → IsReferenceReported at path referent text b → a ≡ b
referent_once at path Parent text a b h k =
    text_once (λ name. IsParentReported at.files at.position name text) (profile_of path) a b (λ name. parent_once at.files at.position name text) h k
referent_once at path (Definition Group) text a b h k = group_text_once at.files text a b h k
referent_once at path (Definition (Script script)) text a b h k =
    name_once (Script script) (IsKeptReported (Script script) at.files) text a b (kept_once (Script script) at.files) h k

value_once : (at : FileInList) (path : List PathStep) (shape : Shape) (value : Data) (a b : Option FoundKind) → IsValueReported at path shape value a → IsValueReported at path shape value b → a ≡ b
value_once at path (RuledTable rule) value a b h k = rule_once at path rule value a b h k
value_once at path (Reference referent) value a b h k = text_once (IsReferenceReported at path referent) (as_str value) a b (referent_once at path referent) h k
value_once at path (References referent) value a b h k = text_once (IsReferenceReported at path referent) (as_str value) a b (referent_once at path referent) h k
value_once at path shape value a b h k = h ∙ sym k

subject_once : (at : FileInList) (path : List PathStep) (subject : Subject) (a b : Option FoundKind) → IsSubjectReported at path subject a → IsSubjectReported at path subject b → a ≡ b
subject_once at path (a_value shape parts value) a b h k = value_once at path shape value a b h k
subject_once at path subject a b h k = h ∙ sym k

pub reference_once : (at : FileInList) (setting : SettingView) (a b : Option Found) → IsReferenceFound at setting a → IsReferenceFound at setting b → a ≡ b
reference_once at setting a b (reported, is, found) (other, also, found_too) =
    found ∙ ap (option_map (placed_below setting.path)) (subject_once at setting.path setting.subject reported other is also) ∙ sym found_too
