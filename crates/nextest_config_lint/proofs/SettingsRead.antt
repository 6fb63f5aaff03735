-- Key by key, nothing is wrong with a value of a setting exactly where its reader takes it.
use mathlib.Core.Logic.Iff as iff
use Rattle.std.proofs.lemmas.Option.{same_Some}
use Rattle.std.specs.List.{AllByRecursion}
use Rattle.std.specs.Prelude.{◌≡◌, ◌↔◌, ℕ, zero, suc, Bool, true, false, List, [], ◌∷◌, ◌++◌, codes, if◌then◌else◌, IsSome, Option, Some, None}
use Rattle.std.proofs.Common.{inl, inr, refl, subst, sym, ◌∙◌}
use Rattle.semver.specs.Parse.{Parts as VersionParts}
use Rattle.toml.specs.Data.{array, as_str, Data, get_item, get_member, item, Items, Members, no_items, string, table}
use Rattle.toml_spans.proofs.Elements.{all_joined, all_left, all_right}
use Rattle.toml_spans.specs.Step.{PathStep}
use Rattle.nextest_config_values.specs.Duration.{duration_reading}
use Rattle.nextest_config_values.specs.Read.Fault.{Fault}
use Rattle.nextest_config_values.specs.Read.{bool_reading, count_reading, either, inner, made_of, missing, no_data, optional, or_default, Reading, required, text_reading, then, word_reading, unknown_key, u32_reading}
use Rattle.nextest_config.specs.NextestVersion.{all_features, feature_array, feature_table, features_under, IsTextAt, in_order, recommended_key, required_key, switches, table_names, text_in, version_reading, version_table, Versions, versions_reading}
use Rattle.nextest_config.specs.declared.nextest_version.edition.Edition.{Edition}
use Rattle.nextest_config.specs.declared.nextest_version.edition.Edition.TheVariants.{ArrayAllowed, TableOnly}
use Rattle.nextest_config_elements.specs.Fields.{allowed, field, Fields, fields, KeyRule, needed, no_fields, nothing, Parts, versions, field_words}
use Rattle.nextest_config_elements.specs.Fields as known
use Rattle.nextest_config_elements.specs.Keys.{feature_fields, version_fields}
use Rattle.nextest_config_elements.specs.Junit as junit
use Rattle.nextest_config_elements.specs.Junit.{flaky_fail_reading, junit_fields, junit_reading, junit_table}
use Rattle.nextest_config_elements.specs.LeakTimeout as leak
use Rattle.nextest_config_elements.specs.LeakTimeout.{leak_timeout_fields, leak_timeout_reading, leak_timeout_table}
use Rattle.nextest_config_elements.specs.MaxFail.{fail_fast_fields, fail_fast_reading, fail_fast_table, max_fail_key, max_fail_reading, terminate_key, terminate_reading}
use Rattle.nextest_config_elements.specs.ReportSkipPolicy.{report_skip_reading}
use Rattle.nextest_config_elements.specs.RetryPolicy.{backoff_key, count_key, delay_key, exponential_fields, fixed_fields, jitter_key, max_delay_key, open_fields, retries_parts, retry_policy_reading, retry_table, table_with_backoff}
use Rattle.nextest_config_elements.specs.RetryRules.{backoff_in, rules_by}
use Rattle.nextest_config_elements.specs.SlowTimeout as slow
use Rattle.nextest_config_elements.specs.SlowTimeout.{slow_timeout_fields, slow_timeout_reading, slow_timeout_table}
use Rattle.nextest_config_elements.specs.UnknownKeys.{HasOnlyKeys}
use Rattle.nextest_config_elements.specs.declared.field.FaultSeverity.{FaultSeverity}
use Rattle.nextest_config_elements.specs.declared.field.FaultSeverity.TheVariants.{Error, ErrorUnlessConverted}
use Rattle.nextest_config_elements.specs.declared.field.Shape.{Shape}
use Rattle.nextest_config_elements.specs.declared.field.Shape.TheVariants as shapes
use Rattle.nextest_config_elements.specs.declared.leak_timeout.LeakTimeoutResult.TheVariants as leaky
use Rattle.nextest_config_elements.specs.declared.max_fail.TerminateMode.TheVariants.{Wait}
use Rattle.nextest_config_elements.specs.declared.retry_policy.Backoff.{Backoff}
use Rattle.nextest_config_elements.specs.declared.retry_policy.Backoff.TheVariants.{Exponential, Fixed}
use Rattle.nextest_config_elements.specs.declared.slow_timeout.SlowTimeoutResult.TheVariants.{Fail}
use Rattle.nextest_config_lint.proofs.Keys.{names_have}
use Rattle.nextest_config_lint.proofs.RetriesRead.{backoff_is, backoff_reading, checked_none, exponential_kept, fixed_rules, known_one, of_names, of_plain, one_known, refused_in}
use Rattle.nextest_config_lint.specs.FindingsLaws.{HasNoFault, HaveNoFault, IsTakenBy}
use Rattle.nextest_config_lint.specs.Rules.{IsOutOfOrder, out_of_order}
use Rattle.nextest_config_lint.specs.Settings.{absent_key, and_rules, at_items, at_key, between, features_at, is_wanted, setting_at, settings_in, settings_of_fields, SettingView, with_parts, by_kind, expected_by, in_retries, is_known, names_of, of_name, refused_key}
use Rattle.nextest_config_lint.specs.Shapes.{shape_check}
use Rattle.nextest_config_lint.specs.declared.settings.Rules.TheVariants as rules_of

-- ---- a reading

-- a reading takes a value
abbrev Takes : {D X : Type 0} → Reading D X → D → Type 0
Takes {D} {X} reading value = (x : X) × reading.means value x

-- no fault of a reading is there
abbrev NoFault : {D X : Type 0} → Reading D X → D → Type 0
NoFault reading value = (fault : Fault) → reading.faults value fault → ⊥

pub taken : {D X : Type 0} (reading : Reading D X) (value : D) → NoFault reading value ↔ Takes reading value
taken reading value = (
  λ none. elim (reading.law.meaning_or_fault value) [
    | inl meant ↦ meant
    | inr (fault, wrong) ↦ absurd (none fault wrong)
  ],
  λ meant fault wrong. reading.law.never_both value meant.0 fault meant.1 wrong,
)

pub one_alone : {A B : Type 0} → A ↔ B → (A × Unit {0}) ↔ B
one_alone same = (λ h. same.0 h.0, λ b. (same.1 b, tt))

-- what comes first always holds
pub always_first : {A B P : Type 0} → P → A ↔ B → (P × A) ↔ B
always_first p same = (λ h. same.0 h.1, λ b. (p, same.1 b))

then_taken : {D X Y P Q : Type 0} (first : Reading D X) (later : X → Reading D Y) (value : D) → P ↔ Takes first value → ((x : X) → Q ↔ Takes (later x) value)
    → (P × Q) ↔ Takes ((then) first later) value
then_taken first later value before after = (
  λ (p, q). let (x, meant) = before.0 p in let (y, also) = (after x).0 q in (y, (x, meant, also)),
  λ (y, (x, meant, also)). (before.1 (x, meant), (after x).1 (y, also)),
)

made_taken : {D X Y P : Type 0} (make : X → Y) (reading : Reading D X) (value : D) → P ↔ Takes reading value → P ↔ Takes (made_of make reading) value
made_taken make reading value same = (
  λ p. let (x, meant) = same.0 p in (make x, (x, meant, refl)),
  λ (y, (x, meant, is)). same.1 (x, meant),
)

-- ---- keys

module _ (edition : Edition) where
  in_both : (xs ys : List SettingView) → HaveNoFault edition (xs ++ ys) ↔ (HaveNoFault edition xs × HaveNoFault edition ys)
  in_both xs ys = (λ h. (all_left (HasNoFault edition) xs ys h, all_right (HasNoFault edition) xs ys h), λ h. all_joined (HasNoFault edition) xs ys h.0 h.1)

  -- a shape is that of a reading
  abbrev IsShapeOf : {X : Type 0} → Shape → Reading Data X → Type 0
  IsShapeOf shape reading = (value : Data) → ((fault : Fault) → (shape_check edition shape).faults value fault → ⊥) ↔ Takes reading value

  -- nothing is wrong with these exactly where a reading takes a table
  record AreTakenBy {X : Type 0} (settings : List SettingView) (reading : Reading Members X) (held : Members) : Type 0 where
    both : HaveNoFault edition settings ↔ Takes reading held

  -- of a field, and of those after it
  field_then : {X Y : Type 0} {here rest : List SettingView} {first : Reading Members X} {later : X → Reading Members Y} {held : Members} → AreTakenBy here first held
      → ((x : X) → AreTakenBy rest (later x) held) → AreTakenBy (here ++ rest) ((then) first later) held
  field_then {here = here} {rest = rest} {first = first} {later = later} {held = held} before after =
      record { both = iff.trans (in_both here rest) (then_taken first later held before.both (λ x. (after x).both)) }

  -- of the last field
  last_field : {X : Type 0} {here : List SettingView} {reading : Reading Members X} {held : Members} → AreTakenBy here reading held → AreTakenBy (here ++ []) reading held
  last_field {here = here} same = record { both = iff.trans (in_both here []) (one_alone same.both) }

  last_made : {X Y : Type 0} {here : List SettingView} {make : X → Y} {reading : Reading Members X} {held : Members} → AreTakenBy here reading held → AreTakenBy (here ++ []) (made_of make reading) held
  last_made {here = here} {make = make} {reading = reading} {held = held} same = record { both = made_taken make reading held (last_field same).both }

  module _ {X : Type 0} (name : List ℕ) (shape : Shape) (severity : FaultSeverity) (path : List PathStep) (reading : Reading Data X) (same : IsShapeOf shape reading) where
    optional_taken : (held : Members) (found : Option Data)
        → HaveNoFault edition (at_key severity (allowed name shape severity) (λ grave. settings_in shape grave nothing) path found)
        ↔ ((x : Option X) × either found (λ value. (made_of Some reading).means value) (λ x. x ≡ None) x)
    optional_taken held None = (λ h. (None, refl), λ m. tt)
    optional_taken held (Some value) = (
      λ h. let (x, meant) = (same value).0 h.0 in (Some x, (x, meant, refl)),
      λ (o, (x, meant, is)). ((same value).1 (x, meant), tt),
    )

    default_taken : (default : X) (found : Option Data)
        → HaveNoFault edition (at_key severity (allowed name shape severity) (λ grave. settings_in shape grave nothing) path found)
        ↔ ((x : X) × either found (λ value. reading.means value) (λ x. x ≡ default) x)
    default_taken default None = (λ h. (default, refl), λ m. tt)
    default_taken default (Some value) = one_alone (same value)

    required_taken : is_wanted (needed name shape severity) path ≡ true → (found : Option Data)
        → HaveNoFault edition (at_key severity (needed name shape severity) (λ grave. settings_in shape grave nothing) path found)
        ↔ ((x : X) × either found (λ value. reading.means value) (λ x. ⊥) x)
    required_taken wanted None = (
      λ h. let none = subst (λ (b : Bool). HaveNoFault edition (if b then setting_at severity path (absent_key name) ∷ [] else [])) wanted h in
          absurd (none.0 (missing name) refl),
      λ m. absurd m.1,
    )
    required_taken wanted (Some value) = one_alone (same value)

  optional_key : {X : Type 0} (name : List ℕ) (shape : Shape) (severity : FaultSeverity) (path : List PathStep) (held : Members) (reading : Reading Data X) → IsShapeOf shape reading
      → AreTakenBy (of_plain (allowed name shape severity) path held) (optional name reading) held
  optional_key name shape severity path held reading same = record { both = optional_taken name shape severity path reading same held (get_member name held) }

  default_key : {X : Type 0} (name : List ℕ) (shape : Shape) (severity : FaultSeverity) (path : List PathStep) (held : Members) (default : X) (reading : Reading Data X) → IsShapeOf shape reading
      → AreTakenBy (of_plain (allowed name shape severity) path held) (or_default name default reading) held
  default_key name shape severity path held default reading same = record { both = default_taken name shape severity path reading same default (get_member name held) }

  required_key_taken : {X : Type 0} (name : List ℕ) (shape : Shape) (severity : FaultSeverity) (path : List PathStep) (held : Members) (reading : Reading Data X) → IsShapeOf shape reading
      → is_wanted (needed name shape severity) path ≡ true → AreTakenBy (of_plain (needed name shape severity) path held) (required name reading) held
  required_key_taken name shape severity path held reading same wanted = record { both = required_taken name shape severity path reading same wanted (get_member name held) }

  -- a value of another kind than a table, of which nothing is judged by itself
  beside : {A X : Type 0} (reading : Reading Data X) (value : Data) → A ↔ NoFault reading value → (A × Unit {0}) ↔ Takes reading value
  beside reading value same = one_alone (iff.trans same (taken reading value))

  -- ---- `nextest-version`

  in_order_taken : (held : Members) (a b : Option VersionParts) → (optional required_key version_reading).means held a → (optional recommended_key version_reading).means held b
      → ((fault : Fault) → IsOutOfOrder held fault → ⊥) → (versions : Versions) × (in_order a b).means tt versions
  in_order_taken held (Some a) (Some b) there there_too none = (
    _,
    (
      λ below. none _ (out_of_order held a b _ there there_too below refl),
      refl,
    ),
  )
  in_order_taken held (Some a) None there there_too none = (_, refl)
  in_order_taken held None b there there_too none = (_, refl)

  not_out_of_order : (held : Members) (a b : Option VersionParts) (asked : Versions) → (optional required_key version_reading).means held a
      → (optional recommended_key version_reading).means held b → (in_order a b).means tt asked → (fault : Fault) → IsOutOfOrder held fault → ⊥
  not_out_of_order held a b asked there there_too ordered fault out =
      let same = (optional required_key version_reading).law.one_meaning held a (Some out.required) there out.there.0 in
      let same_too = (optional recommended_key version_reading).law.one_meaning held b (Some out.recommended) there_too out.there.1 in
      let both : (in_order (Some out.required) (Some out.recommended)).means tt asked =
      subst (λ (x : Option VersionParts). (in_order (Some out.required) x).means tt asked) same_too
      (subst (λ (x : Option VersionParts). (in_order x b).means tt asked) same ordered) in
      both.0 out.is_below

  version_shape : IsShapeOf shapes.VersionText version_reading
  version_shape value = taken version_reading value

  version_rules_taken : (severity : FaultSeverity) (path : List PathStep) (held : Members) (a b : Option VersionParts) → (optional required_key version_reading).means held a
      → (optional recommended_key version_reading).means held b
      → HaveNoFault edition (setting_at severity path (between rules_of.Versions (table held)) ∷ []) ↔ Takes (inner (in_order a b) no_data) held
  version_rules_taken severity path held a b there there_too = (
    λ h. in_order_taken held a b there there_too h.0,
    λ (asked, ordered). (not_out_of_order held a b asked there there_too ordered, tt),
  )

  -- what is judged of a version at a key
  abbrev version_at : List ℕ → List PathStep → Members → List SettingView
  version_at name path held = at_key Error (allowed name shapes.VersionText Error) (λ grave. settings_in shapes.VersionText grave nothing) path (get_member name held)

  version_at_taken : (name : List ℕ) (path : List PathStep) (held : Members) → HaveNoFault edition (version_at name path held) ↔ Takes (optional name version_reading) held
  version_at_taken name path held = optional_taken name shapes.VersionText Error path version_reading version_shape held (get_member name held)

  version_table_taken : (severity : FaultSeverity) (path : List PathStep) (held : Members)
      → HaveNoFault edition (and_rules severity rules_of.Versions path held (settings_of_fields version_fields Error path held)) ↔ Takes version_table held
  version_table_taken severity path held = (
    λ h.
        let of_all = (in_both (settings_of_fields version_fields Error path held) (setting_at severity path (between rules_of.Versions (table held)) ∷ [])).0 h in
        let of_fields = (in_both (version_at required_key path held) (version_at recommended_key path held ++ [])).0 of_all.0 in
        let rest = (in_both (version_at recommended_key path held) []).0 of_fields.1 in
        let (a, there) = (version_at_taken required_key path held).0 of_fields.0 in
        let (b, there_too) = (version_at_taken recommended_key path held).0 rest.0 in
        let (asked, ordered) = (version_rules_taken severity path held a b there there_too).0 of_all.1 in
        (asked, (a, there, (b, there_too, ordered))),
    λ (asked, (a, there, (b, there_too, ordered))).
        all_joined (HasNoFault edition) (settings_of_fields version_fields Error path held) (setting_at severity path (between rules_of.Versions (table held)) ∷ [])
        (all_joined (HasNoFault edition) (version_at required_key path held) (version_at recommended_key path held ++ []) ((version_at_taken required_key path held).1 (a, there))
        (all_joined (HasNoFault edition) (version_at recommended_key path held) [] ((version_at_taken recommended_key path held).1 (b, there_too)) tt))
        ((version_rules_taken severity path held a b there there_too).1 (asked, ordered)),
  )

  pub versions_taken : (path : List PathStep) (value : Data) → IsTakenBy versions_reading edition shapes.NextestVersion (versions version_fields) path value
  versions_taken path (table held) = always_first (λ fault wrong. wrong) (version_table_taken Error path held)
  versions_taken path value = beside versions_reading value iff.rfl

  -- ---- `experimental`

  truth_shape : IsShapeOf shapes.Boolean bool_reading
  truth_shape value = taken bool_reading value

  names_taken : (held : Members) → Unit {0} ↔ Takes table_names held
  names_taken held = (λ u. (taken table_names held).0 (λ fault wrong. wrong), λ named. tt)

  no_more : (held : Members) → AreTakenBy [] table_names held
  no_more held = record { both = names_taken held }

  switch_at : (name : List ℕ) (path : List PathStep) (held : Members) → AreTakenBy (of_plain (allowed name shapes.Boolean Error) path held) (or_default name false bool_reading) held
  switch_at name path held = default_key name shapes.Boolean Error path held false bool_reading truth_shape

  feature_table_taken : (path : List PathStep) (held : Members) → AreTakenBy (settings_of_fields feature_fields Error path held) (switches all_features) held
  feature_table_taken path held =
      field_then (switch_at (codes "setup-scripts") path held) (λ on.
      field_then (switch_at (codes "wrapper-scripts") path held) (λ on.
      field_then (switch_at (codes "benchmarks") path held) (λ on. no_more held)))

  -- what is judged of the elements of an array of features
  abbrev element_settings : List PathStep → ℕ → Items → List SettingView
  element_settings = at_items (with_parts shapes.FeatureName Error nothing (λ path value. []))

-- an element of which nothing is wrong is a text
text_fine : (value : Data) → NoFault text_reading value → IsSome (as_str value)
text_fine (string text) none = refl
text_fine value none = absurd (none _ refl)

fine_text : (value : Data) → IsSome (as_str value) → NoFault text_reading value
fine_text (string text) some fault wrong = wrong
fine_text value some fault wrong = cc some

all_texts : (path : List PathStep) (first : ℕ) (items : Items) → HaveNoFault ArrayAllowed (element_settings ArrayAllowed path first items)
    → (place : ℕ) → IsSome (get_item place items) → IsTextAt items place
all_texts path first no_items none place some = absurd (cc some)
all_texts path first (item value rest) none zero some = text_fine value none.0
all_texts path first (item value rest) none (suc place) some = all_texts path (suc first) rest none.1 place some

texts_fine : (path : List PathStep) (first : ℕ) (items : Items) → ((place : ℕ) → IsSome (get_item place items) → IsTextAt items place)
    → HaveNoFault ArrayAllowed (element_settings ArrayAllowed path first items)
texts_fine path first no_items texts = tt
texts_fine path first (item value rest) texts = (fine_text value (texts zero refl), texts_fine path (suc first) rest (λ place some. texts (suc place) some))

-- an array all of whose elements are texts names features
array_named : (items : Items) → ((place : ℕ) → IsSome (get_item place items) → IsTextAt items place) → Takes feature_array items
array_named items texts = elim (feature_array.law.meaning_or_fault items) [
  | inl named ↦ named
  | inr (fault, (place, value, here, earlier, (none, is))) ↦
      let some : IsSome (get_item place items) = rw here refl in
      let text : IsSome (text_in (get_item place items)) = texts place some in
      let no_text : IsSome (as_str value) = rw here at text in
      cc (subst IsSome none no_text)
]

array_taken : (path : List PathStep) (items : Items) → HaveNoFault ArrayAllowed (element_settings ArrayAllowed path 0 items) ↔ Takes feature_array items
array_taken path items = (λ none. array_named items (all_texts path 0 items none), λ (named, means). texts_fine path 0 items means.of_texts)

-- behind what is judged of a value stand the features that it names, of which nothing is wrong
and_features : (edition : Edition) (path : List PathStep) (value : Data) (settings : List SettingView) {P : Type 0} → HaveNoFault edition settings ↔ P
    → HaveNoFault edition (settings ++ (setting_at Error path (features_at value) ∷ [])) ↔ P
and_features edition path value settings same =
    iff.trans (in_both edition settings (setting_at Error path (features_at value) ∷ [])) (λ h. same.0 h.0, λ p. (same.1 p, ((λ fault wrong. wrong), tt)))

pub features_taken : (edition : Edition) (path : List PathStep) (value : Data) → IsTakenBy (features_under edition) edition shapes.Experimental (known.features feature_fields) path value
features_taken ArrayAllowed path (table held) =
    always_first (λ fault wrong. wrong)
    (and_features ArrayAllowed path (table held) (settings_of_fields feature_fields Error path held) (made_taken _ feature_table held (feature_table_taken ArrayAllowed path held).both))
features_taken TableOnly path (table held) =
    always_first (λ fault wrong. wrong)
    (and_features TableOnly path (table held) (settings_of_fields feature_fields Error path held) (made_taken _ feature_table held (feature_table_taken TableOnly path held).both))
features_taken ArrayAllowed path (array items) =
    always_first (λ fault wrong. wrong)
    (and_features ArrayAllowed path (array items) (element_settings ArrayAllowed path 0 items) (made_taken _ feature_array items (array_taken path items)))
features_taken TableOnly path (array items) = (λ none. absurd (none.0 _ refl), λ named. absurd named.1)
features_taken ArrayAllowed path value = (
  λ none. (taken (features_under ArrayAllowed) value).0 none.0,
  λ named. ((taken (features_under ArrayAllowed) value).1 named, ((λ fault wrong. wrong), tt)),
)
features_taken TableOnly path value = (
  λ none. (taken (features_under TableOnly) value).0 none.0,
  λ named. ((taken (features_under TableOnly) value).1 named, ((λ fault wrong. wrong), tt)),
)

-- ---- timeouts

module _ (edition : Edition) where
  shape_of : {X : Type 0} (reading : Reading Data X) (value : Data) → NoFault reading value ↔ Takes reading value
  shape_of reading value = taken reading value

  slow_table_taken : (path : List PathStep) (held : Members) → is_wanted (needed slow.period_key shapes.Duration Error) path ≡ true
      → AreTakenBy edition (settings_of_fields slow_timeout_fields Error path held) slow_timeout_table held
  slow_table_taken path held wanted =
      field_then edition (required_key_taken edition slow.period_key shapes.Duration Error path held duration_reading (shape_of duration_reading) wanted) (λ period.
      field_then edition (optional_key edition slow.terminate_after_key shapes.Count ErrorUnlessConverted path held count_reading (shape_of count_reading)) (λ terminate_after.
      field_then edition (default_key edition slow.grace_period_key shapes.Duration Error path held slow.default_grace_period duration_reading (shape_of duration_reading)) (λ grace_period.
      last_made edition (default_key edition slow.on_timeout_key shapes.SlowTimeoutResult Error path held Fail (word_reading slow.slow_timeout_results slow.slow_timeout_word slow.slow_timeout_reads_back)
      (shape_of (word_reading slow.slow_timeout_results slow.slow_timeout_word slow.slow_timeout_reads_back))))))

  pub slow_timeout_taken : (path : List PathStep) (value : Data) → is_wanted (needed slow.period_key shapes.Duration Error) path ≡ true
      → IsTakenBy slow_timeout_reading edition shapes.SlowTimeout (fields slow_timeout_fields) path value
  slow_timeout_taken path (table held) wanted = always_first (λ fault wrong. wrong) (made_taken Some slow_timeout_table held (slow_table_taken path held wanted).both)
  slow_timeout_taken path value wanted = beside edition slow_timeout_reading value iff.rfl

  leak_table_taken : (path : List PathStep) (held : Members) → is_wanted (needed leak.period_key shapes.ShortDuration Error) path ≡ true
      → AreTakenBy edition (settings_of_fields leak_timeout_fields Error path held) leak_timeout_table held
  leak_table_taken path held wanted =
      field_then edition (required_key_taken edition leak.period_key shapes.ShortDuration Error path held duration_reading (shape_of duration_reading) wanted) (λ period.
      last_made edition (default_key edition leak.result_key shapes.LeakTimeoutResult Error path held leaky.Pass (word_reading leak.leak_timeout_results leak.leak_timeout_word leak.leak_timeout_reads_back)
      (shape_of (word_reading leak.leak_timeout_results leak.leak_timeout_word leak.leak_timeout_reads_back))))

  pub leak_timeout_taken : (path : List PathStep) (value : Data) → is_wanted (needed leak.period_key shapes.ShortDuration Error) path ≡ true
      → IsTakenBy leak_timeout_reading edition shapes.LeakTimeout (fields leak_timeout_fields) path value
  leak_timeout_taken path (table held) wanted = always_first (λ fault wrong. wrong) (made_taken Some leak_timeout_table held (leak_table_taken path held wanted).both)
  leak_timeout_taken path value wanted = beside edition leak_timeout_reading value iff.rfl

  -- ---- the fail limit

  fail_fast_table_taken : (path : List PathStep) (held : Members) → AreTakenBy edition (settings_of_fields fail_fast_fields Error path held) fail_fast_table held
  fail_fast_table_taken path held =
      field_then edition (required_key_taken edition max_fail_key shapes.MaxFail Error path held max_fail_reading (shape_of max_fail_reading) refl) (λ count.
      last_made edition (default_key edition terminate_key shapes.TerminateMode Error path held Wait terminate_reading (shape_of terminate_reading)))

  pub fail_fast_taken : (path : List PathStep) (value : Data) → IsTakenBy fail_fast_reading edition shapes.FailFast (fields fail_fast_fields) path value
  fail_fast_taken path (table held) = always_first (λ fault wrong. wrong) (made_taken Some fail_fast_table held (fail_fast_table_taken path held).both)
  fail_fast_taken path value = beside edition fail_fast_reading value iff.rfl

  -- ---- the report

  text_at : (name : List ℕ) (path : List PathStep) (held : Members) → AreTakenBy edition (of_plain (allowed name shapes.Text ErrorUnlessConverted) path held) (optional name text_reading) held
  text_at name path held = optional_key edition name shapes.Text ErrorUnlessConverted path held text_reading (shape_of text_reading)

  truth_at : (name : List ℕ) (path : List PathStep) (held : Members) → AreTakenBy edition (of_plain (allowed name shapes.Boolean ErrorUnlessConverted) path held) (optional name bool_reading) held
  truth_at name path held = optional_key edition name shapes.Boolean ErrorUnlessConverted path held bool_reading (shape_of bool_reading)

  junit_table_taken : (path : List PathStep) (held : Members) → AreTakenBy edition (settings_of_fields junit_fields Error path held) junit_table held
  junit_table_taken path held =
      field_then edition (text_at junit.path_key path held) (λ a.
      field_then edition (text_at junit.report_name_key path held) (λ b.
      field_then edition (truth_at junit.store_success_output_key path held) (λ c.
      field_then edition (truth_at junit.store_failure_output_key path held) (λ d.
      field_then edition (optional_key edition junit.report_skipped_key shapes.ReportSkipPolicy Error path held report_skip_reading (shape_of report_skip_reading)) (λ e.
      last_made edition (optional_key edition junit.flaky_fail_status_key shapes.FlakyFailStatus Error path held flaky_fail_reading (shape_of flaky_fail_reading)))))))

  pub junit_taken : (path : List PathStep) (value : Data) → IsTakenBy junit_reading edition shapes.Table (fields junit_fields) path value
  junit_taken path (table held) = always_first (λ fault wrong. cc wrong.0) (junit_table_taken path held).both
  junit_taken path value = beside edition junit_reading value (λ none fault is. none fault (refl, is), λ none fault wrong. none fault wrong.1)

  -- ---- retries

  module _ (severity : FaultSeverity) (path : List PathStep) (expected known : List (List ℕ)) where
    known_by : (name : List ℕ) (here : Bool) → HaveNoFault edition (if here then [] else setting_at severity path (refused_key name expected known) ∷ []) → here ≡ true
    known_by name true none = refl
    known_by name false none = absurd (none.0 (unknown_key name expected) refl)

    all_known : (names : List (List ℕ)) → HaveNoFault edition (refused_in severity path expected known names) → AllByRecursion (λ name. is_known known name ≡ true) names
    all_known [] none = tt
    all_known (name ∷ names) none =
        let parts = (in_both edition (of_name severity expected known path name) (refused_in severity path expected known names)).0 none in
        (known_by name (is_known known name) parts.0, all_known names parts.1)

    passed_by : (name : List ℕ) (here : Bool) → (here ≡ false → ⊥) → HaveNoFault edition (if here then [] else setting_at severity path (refused_key name expected known) ∷ [])
    passed_by name true never = tt
    passed_by name false never = absurd (never refl)

    module _ (held : Members) where
      none_refused : HasOnlyKeys known held → (names : List (List ℕ)) → AllByRecursion (λ name. IsSome (get_member name held)) names → HaveNoFault edition (refused_in severity path expected known names)
      none_refused alone [] some = tt
      none_refused alone (name ∷ names) some =
          all_joined (HasNoFault edition) (of_name severity expected known path name) (refused_in severity path expected known names)
          (passed_by name (is_known known name) (λ other. alone name (some.0, λ one. absurd (cc (one_known known name one, other)))))
          (none_refused alone names some.1)

      keys_taken : HaveNoFault edition (refused_in severity path expected known (names_of held)) ↔ HasOnlyKeys known held
      keys_taken = (
        λ none name unknown. unknown.1 (known_one known name (of_names (λ key. is_known known key ≡ true) held (all_known (names_of held) none) name unknown.0)),
        λ alone. none_refused alone (names_of held) (names_have held),
      )

  module _ (path : List PathStep) (held : Members) where
    -- of the rules of a table with this backoff
    rules_taken : (kind : Option Backoff) → backoff_in held ≡ kind → HaveNoFault edition (setting_at Error path (between rules_of.Retries (table held)) ∷ []) ↔ (rules_by kind).passes held
    rules_taken kind same = subst (λ (k : Option Backoff). HaveNoFault edition (setting_at Error path (between rules_of.Retries (table held)) ∷ []) ↔ (rules_by k).passes held) same
        (one_alone (checked_none (rules_by (backoff_in held)) held))

    -- what is judged of a table of retries with these fields: the fields, its other keys, and its rules
    all_of_retries : (known : Fields) → HaveNoFault edition (in_retries Error known path held)
        ↔ ((HaveNoFault edition (settings_of_fields known Error path held) × HaveNoFault edition (refused_in Error path (expected_by (backoff_in held)) (field_words known) (names_of held)))
        × HaveNoFault edition (setting_at Error path (between rules_of.Retries (table held)) ∷ []))
    all_of_retries known =
        let first = settings_of_fields known Error path held in
        let other = refused_in Error path (expected_by (backoff_in held)) (field_words known) (names_of held) in
        let rules = setting_at Error path (between rules_of.Retries (table held)) ∷ [] in (
          λ none. let outer = (in_both edition (first ++ other) rules).0 none in ((in_both edition first other).0 outer.0, outer.1),
          λ parts. (in_both edition (first ++ other) rules).1 ((in_both edition first other).1 parts.0, parts.1),
        )

    backoff_at : AreTakenBy edition (of_plain (needed backoff_key shapes.Backoff Error) path held) (required backoff_key backoff_reading) held
    backoff_at = required_key_taken edition backoff_key shapes.Backoff Error path held backoff_reading (shape_of backoff_reading) refl

    -- a backoff that is read is the one that the table names
    is_named : (kind : Backoff) → backoff_in held ≡ Some kind → (backoff : Backoff) → (required backoff_key backoff_reading).means held backoff → backoff ≡ kind
    is_named kind named backoff there = same_Some backoff kind (sym (backoff_is held backoff there) ∙ named)

    -- ---- a fixed backoff

    -- its fields, in their order
    abbrev fixed_keys : Reading Members (Backoff × (ℕ × (ℕ × Bool)))
    fixed_keys =
        (then) (required backoff_key backoff_reading) (λ backoff. (then) (required count_key u32_reading) (λ count. (then) (or_default delay_key 0 duration_reading) (λ delay.
        made_of (λ jitter. (backoff, (count, (delay, jitter)))) (or_default jitter_key false bool_reading))))

    fixed_fields_taken : AreTakenBy edition (settings_of_fields fixed_fields Error path held) fixed_keys held
    fixed_fields_taken =
        field_then edition backoff_at (λ backoff.
        field_then edition (required_key_taken edition count_key shapes.U32 Error path held u32_reading (shape_of u32_reading) refl) (λ count.
        field_then edition (default_key edition delay_key shapes.Duration Error path held 0 duration_reading (shape_of duration_reading)) (λ delay.
        last_made edition (default_key edition jitter_key shapes.Boolean Error path held false bool_reading (shape_of bool_reading)))))

    fixed_taken : backoff_in held ≡ Some Fixed → HaveNoFault edition (in_retries Error fixed_fields path held) ↔ Takes retry_table held
    fixed_taken named = (
      λ none.
          let parts = (all_of_retries fixed_fields).0 none in
          let (all, (backoff, there, (count, count_there, (delay, delay_there, (jitter, jitter_there, made))))) = fixed_fields_taken.both.0 parts.0.0 in
          let alone = (keys_taken Error path (expected_by (backoff_in held)) (field_words fixed_fields) held).0 parts.0.1 in
          let kept = (fixed_rules held delay jitter delay_there jitter_there).0 ((rules_taken (Some Fixed) named).0 parts.1) in
          let same = is_named Fixed named backoff there in (
            _,
            (Fixed, subst (λ (k : Backoff). (required backoff_key backoff_reading).means held k) same there, (count, count_there, (delay, delay_there, (jitter, jitter_there, (alone, (kept, refl)))))),
          ),
      λ (policy, (backoff, there, means)).
          let same = is_named Fixed named backoff there in
          let (count, count_there, (delay, delay_there, (jitter, jitter_there, (alone, (kept, is))))) = subst (λ (k : Backoff). (table_with_backoff k).means held policy) same means in
          (all_of_retries fixed_fields).1 (
            (
              fixed_fields_taken.both.1 (_, (backoff, there, (count, count_there, (delay, delay_there, (jitter, jitter_there, refl))))),
              (keys_taken Error path (expected_by (backoff_in held)) (field_words fixed_fields) held).1 alone,
            ),
            (rules_taken (Some Fixed) named).1 ((fixed_rules held delay jitter delay_there jitter_there).1 kept),
          ),
    )

    -- ---- an exponential backoff

    -- its fields, in their order
    abbrev exponential_keys : Reading Members (Backoff × (ℕ × (ℕ × (Bool × Option ℕ))))
    exponential_keys =
        (then) (required backoff_key backoff_reading) (λ backoff. (then) (required count_key u32_reading) (λ count. (then) (required delay_key duration_reading) (λ delay.
        (then) (or_default jitter_key false bool_reading) (λ jitter. made_of (λ max_delay. (backoff, (count, (delay, (jitter, max_delay))))) (optional max_delay_key duration_reading)))))

    exponential_fields_taken : AreTakenBy edition (settings_of_fields exponential_fields Error path held) exponential_keys held
    exponential_fields_taken =
        field_then edition backoff_at (λ backoff.
        field_then edition (required_key_taken edition count_key shapes.U32 Error path held u32_reading (shape_of u32_reading) refl) (λ count.
        field_then edition (required_key_taken edition delay_key shapes.Duration Error path held duration_reading (shape_of duration_reading) refl) (λ delay.
        field_then edition (default_key edition jitter_key shapes.Boolean Error path held false bool_reading (shape_of bool_reading)) (λ jitter.
        last_made edition (optional_key edition max_delay_key shapes.Duration Error path held duration_reading (shape_of duration_reading))))))

    exponential_taken : backoff_in held ≡ Some Exponential → HaveNoFault edition (in_retries Error exponential_fields path held) ↔ Takes retry_table held
    exponential_taken named = (
      λ none.
          let parts = (all_of_retries exponential_fields).0 none in
          let (all, (backoff, there, (count, count_there, (delay, delay_there, (jitter, jitter_there, (max, max_there, made)))))) = exponential_fields_taken.both.0 parts.0.0 in
          let alone = (keys_taken Error path (expected_by (backoff_in held)) (field_words exponential_fields) held).0 parts.0.1 in
          let kept = (exponential_kept held count delay max count_there delay_there max_there).0 ((rules_taken (Some Exponential) named).0 parts.1) in
          let same = is_named Exponential named backoff there in (
            _,
            (
              Exponential,
              subst (λ (k : Backoff). (required backoff_key backoff_reading).means held k) same there,
              (count, count_there, (delay, delay_there, (jitter, jitter_there, (max, max_there, (alone, (kept, refl)))))),
            ),
          ),
      λ (policy, (backoff, there, means)).
          let same = is_named Exponential named backoff there in
          let (count, count_there, (delay, delay_there, (jitter, jitter_there, (max, max_there, (alone, (kept, is)))))) = subst (λ (k : Backoff). (table_with_backoff k).means held policy) same means in
          (all_of_retries exponential_fields).1 (
            (
              exponential_fields_taken.both.1 (_, (backoff, there, (count, count_there, (delay, delay_there, (jitter, jitter_there, (max, max_there, refl)))))),
              (keys_taken Error path (expected_by (backoff_in held)) (field_words exponential_fields) held).1 alone,
            ),
            (rules_taken (Some Exponential) named).1 ((exponential_kept held count delay max count_there delay_there max_there).1 kept),
          ),
    )

    -- ---- no backoff

    open_taken : backoff_in held ≡ None → HaveNoFault edition (in_retries Error open_fields path held) ↔ Takes retry_table held
    open_taken named = (
      λ none.
          let parts = (all_of_retries open_fields).0 none in
          let first = (in_both edition (of_plain (needed backoff_key shapes.Backoff Error) path held) _).0 parts.0.0 in
          let (backoff, there) = backoff_at.both.0 first.0 in
          absurd (cc (backoff_is held backoff there, named)),
      λ (policy, (backoff, there, means)). absurd (cc (backoff_is held backoff there, named)),
    )

    retries_by : (kind : Option Backoff) → backoff_in held ≡ kind
        → HaveNoFault edition (by_kind (in_retries Error fixed_fields path held) (in_retries Error exponential_fields path held) (in_retries Error open_fields path held) kind) ↔ Takes retry_table held
    retries_by (Some Fixed) named = fixed_taken named
    retries_by (Some Exponential) named = exponential_taken named
    retries_by None named = open_taken named

  pub retries_taken : (path : List PathStep) (value : Data) → IsTakenBy retry_policy_reading edition shapes.Retries retries_parts path value
  retries_taken path (table held) = always_first (λ fault wrong. wrong) (made_taken Some retry_table held (retries_by path held (backoff_in held) refl))
  retries_taken path value = beside edition retry_policy_reading value iff.rfl
