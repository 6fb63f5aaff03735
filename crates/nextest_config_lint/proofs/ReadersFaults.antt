-- Key by key, the one fault that the reader of a setting finds is found, too.
use Rattle.std.specs.Prelude.{◌≡◌, ℕ, zero, suc, Bool, true, false, List, [], ◌∷◌, ◌++◌, codes, if◌then◌else◌, IsSome, Option, Some, None}
use Rattle.std.proofs.Common.{◌+◌, arith, ap, append_assoc, inl, inr, nat_cmp, refl, subst, sym, ◌∙◌}
use Rattle.std.proofs.lemmas.Option.{same_Some}
use Rattle.std.specs.Cmp.Lexicographic.{slice_cmp}
use Rattle.toml.specs.Data.{array, as_str, Data, get_item, get_member, item, Items, member, Members, no_items, no_members, table}
use Rattle.toml_spans.specs.Step.{index, key, PathStep}
use Rattle.nextest_config_values.specs.Duration.{duration_reading}
use Rattle.nextest_config_values.specs.Read.Fault.{Fault, fault_below}
use Rattle.nextest_config_values.specs.Read.{bool_reading, count_reading, either, made_of, missing, optional, or_default, Reading, required, text_expected, text_reading, then, unknown_key, u32_reading, word_reading, wrong_type}
use Rattle.nextest_config.specs.NextestVersion.{all_features, features_under, recommended_key, required_key, switches, version_reading, version_table, versions_reading}
use Rattle.nextest_config.specs.declared.nextest_version.edition.Edition.{Edition}
use Rattle.nextest_config.specs.declared.nextest_version.edition.Edition.TheVariants.{ArrayAllowed, TableOnly}
use Rattle.nextest_config_elements.specs.Fields.{allowed, field_words, Fields, fields, KeyRule, needed, nothing, versions}
use Rattle.nextest_config_elements.specs.Fields as known
use Rattle.nextest_config_elements.specs.Keys.{feature_fields, version_fields}
use Rattle.nextest_config_elements.specs.Junit as junit
use Rattle.nextest_config_elements.specs.Junit.{flaky_fail_reading, junit_fields, junit_reading, junit_table}
use Rattle.nextest_config_elements.specs.LeakTimeout as leak
use Rattle.nextest_config_elements.specs.LeakTimeout.{leak_timeout_fields, leak_timeout_reading, leak_timeout_table}
use Rattle.nextest_config_elements.specs.MaxFail.{fail_fast_fields, fail_fast_reading, fail_fast_table, max_fail_key, max_fail_reading, terminate_key, terminate_reading}
use Rattle.nextest_config_elements.specs.ReportSkipPolicy.{report_skip_reading}
use Rattle.nextest_config_elements.specs.RetryPolicy.{backoff_key, count_key, delay_key, exponential_fields, exponential_table, fixed_fields, fixed_table, jitter_key, keys_beside, max_delay_key, open_fields, retries_parts, retry_policy_reading, retry_table, table_with_backoff}
use Rattle.nextest_config_elements.specs.RetryRules.{backoff_in, rules_by}
use Rattle.nextest_config_elements.specs.SlowTimeout as slow
use Rattle.nextest_config_elements.specs.SlowTimeout.{slow_timeout_fields, slow_timeout_reading, slow_timeout_table}
use Rattle.nextest_config_elements.specs.declared.field.FaultSeverity.{FaultSeverity}
use Rattle.nextest_config_elements.specs.declared.field.FaultSeverity.TheVariants.{Error, ErrorUnlessConverted}
use Rattle.nextest_config_elements.specs.declared.field.Shape.{Shape}
use Rattle.nextest_config_elements.specs.declared.field.Shape.TheVariants as shapes
use Rattle.nextest_config_elements.specs.declared.leak_timeout.LeakTimeoutResult.TheVariants as leaky
use Rattle.nextest_config_elements.specs.declared.max_fail.TerminateMode.TheVariants.{Wait}
use Rattle.nextest_config_elements.specs.declared.retry_policy.Backoff.{Backoff}
use Rattle.nextest_config_elements.specs.declared.retry_policy.Backoff.TheVariants.{Exponential, Fixed}
use Rattle.nextest_config_elements.specs.declared.slow_timeout.SlowTimeoutResult.TheVariants.{Fail}
use Rattle.nextest_config_elements.specs.UnknownKeys.{IsOneOf, IsUnknownKey}
use Rattle.nextest_config_elements.specs.UnknownKeysLaws.{found_at}
use Rattle.nextest_config_lint.proofs.RetriesRead.{backoff_is, backoff_reading, exponential_broken, fixed_broken, known_one, of_plain, refused_in}
use Rattle.nextest_config_lint.proofs.VersionOrder.{by_versions}
use Rattle.nextest_config_lint.specs.FindingsLaws.{FindsFaultOf, HasFaultAmong, IsFaultAt}
use Rattle.nextest_config_lint.specs.Settings.{absent_key, at_items, at_key, between, by_kind, expected_by, features_at, in_retries, is_known, is_wanted, names_of, of_name, refused_key, setting_at, settings_in, settings_of_fields, SettingView, with_parts}
use Rattle.nextest_config_lint.specs.Shapes.{shape_check}
use Rattle.nextest_config_lint.specs.declared.settings.Rules.TheVariants as rules_of

module _ (edition : Edition) (path : List PathStep) where
  -- ---- among others

  in_left : (fault : Fault) (xs ys : List SettingView) → HasFaultAmong edition path fault xs → HasFaultAmong edition path fault (xs ++ ys)
  in_left fault [] ys none = absurd none
  in_left fault (x ∷ xs) ys (inl here) = inl here
  in_left fault (x ∷ xs) ys (inr later) = inr (in_left fault xs ys later)

  in_right : (fault : Fault) (xs ys : List SettingView) → HasFaultAmong edition path fault ys → HasFaultAmong edition path fault (xs ++ ys)
  in_right fault [] ys found = found
  in_right fault (x ∷ xs) ys found = inr (in_right fault xs ys found)

  -- what is wrong with the value itself
  itself : (fault : Fault) (setting : SettingView) (rest : List SettingView) → setting.path ≡ path → IsFaultAt edition path fault setting → HasFaultAmong edition path fault (setting ∷ rest)
  itself fault setting rest same is = inl is

  -- ---- of a table

  -- each fault that a reading finds in a table is found of one of these
  record AreFound {X : Type 0} (settings : List SettingView) (reading : Reading Members X) (held : Members) : Type 0 where
    finds : (fault : Fault) → reading.faults held fault → HasFaultAmong edition path fault settings

  -- of a field, and of those after it
  found_then : {X Y : Type 0} {here rest : List SettingView} {first : Reading Members X} {later : X → Reading Members Y} {held : Members} → AreFound here first held
      → ((x : X) → AreFound rest (later x) held) → AreFound (here ++ rest) ((then) first later) held
  found_then {here = here} {rest = rest} before after = record {
    finds = λ fault wrong. elim wrong [
      | inl first ↦ in_left fault here rest (before.finds fault first)
      | inr (x, meant, later) ↦ in_right fault here rest ((after x).finds fault later)
    ];
  }

  -- of the last field
  last_found : {X Y : Type 0} {here : List SettingView} {make : X → Y} {reading : Reading Members X} {held : Members} → AreFound here reading held → AreFound (here ++ []) (made_of make reading) held
  last_found {here = here} found = record { finds = λ fault wrong. in_left fault here [] (found.finds fault wrong) }

  -- ---- of a key

  module _ {X : Type 0} (name : List ℕ) (shape : Shape) (severity : FaultSeverity) (reading : Reading Data X)
      (same : (value : Data) (fault : Fault) → reading.faults value fault → (shape_check edition shape).faults value fault) where
    -- a fault of the value at the key
    abbrev IsBelow : Data → Fault → Type 0
    IsBelow value fault = (inner : Fault) × reading.faults value inner × (fault ≡ fault_below (key name) inner)

    value_found : (value : Data) (fault : Fault) → IsBelow value fault → HasFaultAmong edition path fault (settings_in shape severity nothing (path ++ (key name ∷ [])) value)
    value_found value fault (inner, wrong, is) = inl (record {
      reported = inner;
      is_wrong = same value inner wrong;
      same_place = append_assoc path (key name ∷ []) inner.steps ∙ ap (λ (f : Fault). path ++ f.steps) (sym is);
      same_cause = ap (λ (f : Fault). f.cause) (sym is);
    })

    allowed_found : (found : Option Data) (fault : Fault) → either found IsBelow (λ it. ⊥) fault
        → HasFaultAmong edition path fault (at_key severity (allowed name shape severity) (λ grave. settings_in shape grave nothing) path found)
    allowed_found None fault wrong = absurd wrong
    allowed_found (Some value) fault wrong = value_found value fault wrong

    needed_found : is_wanted (needed name shape severity) path ≡ true → (found : Option Data) (fault : Fault) → either found IsBelow (λ it. it ≡ missing name) fault
        → HasFaultAmong edition path fault (at_key severity (needed name shape severity) (λ grave. settings_in shape grave nothing) path found)
    needed_found wanted None fault is =
        subst (λ (b : Bool). HasFaultAmong edition path fault (if b then setting_at severity path (absent_key name) ∷ [] else [])) (sym wanted)
        (inl (record {
          reported = missing name;
          is_wrong = refl;
          same_place = ap (λ (f : Fault). path ++ f.steps) (sym is);
          same_cause = ap (λ (f : Fault). f.cause) (sym is);
        }))
    needed_found wanted (Some value) fault wrong = value_found value fault wrong

    optional_at : (held : Members) → AreFound (of_plain (allowed name shape severity) path held) (optional name reading) held
    optional_at held = record { finds = allowed_found (get_member name held) }

    default_at : (held : Members) (default : X) → AreFound (of_plain (allowed name shape severity) path held) (or_default name default reading) held
    default_at held default = record { finds = allowed_found (get_member name held) }

    required_at : is_wanted (needed name shape severity) path ≡ true → (held : Members) → AreFound (of_plain (needed name shape severity) path held) (required name reading) held
    required_at wanted held = record { finds = needed_found wanted (get_member name held) }

  -- a value of another kind than a table
  beside_found : {X : Type 0} (severity : FaultSeverity) (shape : Shape) (parts : known.Parts) (reading : Reading Data X) (value : Data)
      → ((fault : Fault) → reading.faults value fault → (shape_check edition shape).faults value fault) → (fault : Fault) → reading.faults value fault
      → HasFaultAmong edition path fault (settings_in shape severity parts path value)
  beside_found severity shape parts reading value same fault wrong =
      inl (record { reported = fault; is_wrong = same fault wrong; same_place = refl; same_cause = refl })

  -- ---- timeouts

  slow_found : (held : Members) → is_wanted (needed slow.period_key shapes.Duration Error) path ≡ true → AreFound (settings_of_fields slow_timeout_fields Error path held) slow_timeout_table held
  slow_found held wanted =
      found_then (required_at slow.period_key shapes.Duration Error duration_reading (λ v f w. w) wanted held) (λ period.
      found_then (optional_at slow.terminate_after_key shapes.Count ErrorUnlessConverted count_reading (λ v f w. w) held) (λ terminate_after.
      found_then (default_at slow.grace_period_key shapes.Duration Error duration_reading (λ v f w. w) held slow.default_grace_period) (λ grace_period.
      last_found (default_at slow.on_timeout_key shapes.SlowTimeoutResult Error (word_reading slow.slow_timeout_results slow.slow_timeout_word slow.slow_timeout_reads_back) (λ v f w. w) held Fail))))

  pub slow_timeout_found : (value : Data) → is_wanted (needed slow.period_key shapes.Duration Error) path ≡ true
      → FindsFaultOf slow_timeout_reading edition shapes.SlowTimeout (fields slow_timeout_fields) path value
  slow_timeout_found (table held) wanted = λ fault wrong. inr ((slow_found held wanted).finds fault wrong)
  slow_timeout_found value wanted = beside_found Error shapes.SlowTimeout (fields slow_timeout_fields) slow_timeout_reading value (λ f w. w)

  leak_found : (held : Members) → is_wanted (needed leak.period_key shapes.ShortDuration Error) path ≡ true → AreFound (settings_of_fields leak_timeout_fields Error path held) leak_timeout_table held
  leak_found held wanted =
      found_then (required_at leak.period_key shapes.ShortDuration Error duration_reading (λ v f w. w) wanted held) (λ period.
      last_found (default_at leak.result_key shapes.LeakTimeoutResult Error (word_reading leak.leak_timeout_results leak.leak_timeout_word leak.leak_timeout_reads_back) (λ v f w. w) held leaky.Pass))

  pub leak_timeout_found : (value : Data) → is_wanted (needed leak.period_key shapes.ShortDuration Error) path ≡ true
      → FindsFaultOf leak_timeout_reading edition shapes.LeakTimeout (fields leak_timeout_fields) path value
  leak_timeout_found (table held) wanted = λ fault wrong. inr ((leak_found held wanted).finds fault wrong)
  leak_timeout_found value wanted = beside_found Error shapes.LeakTimeout (fields leak_timeout_fields) leak_timeout_reading value (λ f w. w)

  -- ---- the fail limit

  limit_found : (held : Members) → AreFound (settings_of_fields fail_fast_fields Error path held) fail_fast_table held
  limit_found held =
      found_then (required_at max_fail_key shapes.MaxFail Error max_fail_reading (λ v f w. w) refl held) (λ count.
      last_found (default_at terminate_key shapes.TerminateMode Error terminate_reading (λ v f w. w) held Wait))

  pub fail_fast_found : (value : Data) → FindsFaultOf fail_fast_reading edition shapes.FailFast (fields fail_fast_fields) path value
  fail_fast_found (table held) = λ fault wrong. inr ((limit_found held).finds fault wrong)
  fail_fast_found value = beside_found Error shapes.FailFast (fields fail_fast_fields) fail_fast_reading value (λ f w. w)

  -- ---- the report

  report_found : (held : Members) → AreFound (settings_of_fields junit_fields Error path held) junit_table held
  report_found held =
      found_then (optional_at junit.path_key shapes.Text ErrorUnlessConverted text_reading (λ v f w. w) held) (λ a.
      found_then (optional_at junit.report_name_key shapes.Text ErrorUnlessConverted text_reading (λ v f w. w) held) (λ b.
      found_then (optional_at junit.store_success_output_key shapes.Boolean ErrorUnlessConverted bool_reading (λ v f w. w) held) (λ c.
      found_then (optional_at junit.store_failure_output_key shapes.Boolean ErrorUnlessConverted bool_reading (λ v f w. w) held) (λ d.
      found_then (optional_at junit.report_skipped_key shapes.ReportSkipPolicy Error report_skip_reading (λ v f w. w) held) (λ e.
      last_found (optional_at junit.flaky_fail_status_key shapes.FlakyFailStatus Error flaky_fail_reading (λ v f w. w) held))))))

  pub junit_found : (value : Data) → FindsFaultOf junit_reading edition shapes.Table (fields junit_fields) path value
  junit_found (table held) = λ fault wrong. inr ((report_found held).finds fault wrong)
  junit_found value = beside_found Error shapes.Table (fields junit_fields) junit_reading value (λ f w. (refl, w))

  -- ---- `nextest-version`

  versions_table_found : (held : Members) (fault : Fault) → version_table.faults held fault
      → HasFaultAmong edition path fault (settings_of_fields version_fields Error path held ++ (setting_at Error path (between rules_of.Versions (table held)) ∷ []))
  versions_table_found held fault wrong =
      let first = of_plain (allowed required_key shapes.VersionText Error) path held in
      let second = of_plain (allowed recommended_key shapes.VersionText Error) path held in
      let rules = setting_at Error path (between rules_of.Versions (table held)) ∷ [] in
      elim wrong [
        | inl here ↦ in_left fault (first ++ (second ++ [])) rules (in_left fault first (second ++ []) ((optional_at required_key shapes.VersionText Error version_reading (λ v f w. w) held).finds fault here))
        | inr (a, there, inl here) ↦
            in_left fault (first ++ (second ++ [])) rules
            (in_right fault first (second ++ []) (in_left fault second [] ((optional_at recommended_key shapes.VersionText Error version_reading (λ v f w. w) held).finds fault here)))
        | inr (a, there, inr (b, there_too, broken)) ↦
            in_right fault (first ++ (second ++ [])) rules (inl (record { reported = fault; is_wrong = by_versions held a b fault there there_too broken; same_place = refl; same_cause = refl }))
      ]

  pub versions_found : (value : Data) → FindsFaultOf versions_reading edition shapes.NextestVersion (versions version_fields) path value
  versions_found (table held) = λ fault wrong. inr (versions_table_found held fault wrong)
  versions_found value = beside_found Error shapes.NextestVersion (versions version_fields) versions_reading value (λ f w. w)

  -- ---- retries

  module _ (held : Members) where
    module _ (expected known : List (List ℕ)) (name : List ℕ) (unknown : IsUnknownKey known held name) (fault : Fault) (is : fault ≡ unknown_key name expected) where
      refused_by : (other : List ℕ) (here : Bool) → is_known known other ≡ here → name ≡ other
          → HasFaultAmong edition path fault (if here then [] else setting_at Error path (refused_key other expected known) ∷ [])
      refused_by other true there same = absurd (unknown.1 (subst (IsOneOf known) (sym same) (known_one known other there)))
      refused_by other false there same =
          let reported : unknown_key other expected ≡ fault = ap (λ (n : List ℕ). unknown_key n expected) (sym same) ∙ sym is in
          inl (record {
            reported = unknown_key other expected;
            is_wrong = refl;
            same_place = ap (λ (f : Fault). path ++ f.steps) reported;
            same_cause = ap (λ (f : Fault). f.cause) reported;
          })

      refused_among : (members : Members) → IsSome (get_member name members) → HasFaultAmong edition path fault (refused_in Error path expected known (names_of members))
      refused_among no_members some = cc some
      refused_among (member other value rest) some =
          found_at (slice_cmp nat_cmp name other) name other value (get_member name rest) (HasFaultAmong edition path fault (refused_in Error path expected known (other ∷ names_of rest))) refl
          (λ same. in_left fault (of_name Error expected known path other) (refused_in Error path expected known (names_of rest)) (refused_by other (is_known known other) refl same))
          (λ later. in_right fault (of_name Error expected known path other) (refused_in Error path expected known (names_of rest)) (refused_among rest later)) some

    abbrev rules : List SettingView
    rules = setting_at Error path (between rules_of.Retries (table held)) ∷ []

    -- what is judged at a key
    abbrev at : KeyRule → List SettingView
    at rule = of_plain rule path held

    -- what is found of the fields, of the other keys, and of the rules
    module _ (fault : Fault) (known : Fields) where
      abbrev others : List SettingView
      others = refused_in Error path (expected_by (backoff_in held)) (field_words known) (names_of held)

      of_fields : HasFaultAmong edition path fault (settings_of_fields known Error path held) → HasFaultAmong edition path fault (in_retries Error known path held)
      of_fields found = in_left fault (settings_of_fields known Error path held ++ others) rules (in_left fault (settings_of_fields known Error path held) others found)

      of_others : (kind : Backoff) → backoff_in held ≡ Some kind → (name : List ℕ) → IsUnknownKey (field_words known) held name → fault ≡ unknown_key name (keys_beside kind)
          → HasFaultAmong edition path fault (in_retries Error known path held)
      of_others kind named name unknown is =
          in_left fault (settings_of_fields known Error path held ++ others) rules
          (in_right fault (settings_of_fields known Error path held) others
          (refused_among (expected_by (backoff_in held)) (field_words known) name unknown fault (is ∙ ap (λ (k : Option Backoff). unknown_key name (expected_by k)) (sym named)) held unknown.0))

      of_rules : (kind : Backoff) → backoff_in held ≡ Some kind → (rules_by (Some kind)).faults held fault → HasFaultAmong edition path fault (in_retries Error known path held)
      of_rules kind named wrong =
          in_right fault (settings_of_fields known Error path held ++ others) rules
          (inl (record { reported = fault; is_wrong = subst (λ (k : Option Backoff). (rules_by k).faults held fault) (sym named) wrong; same_place = refl; same_cause = refl }))

    -- each fault that a reading finds is found of all that is judged, if what is found of these is
    record IsFoundAmong {X : Type 0} (these all : List SettingView) (reading : Reading Members X) : Type 0 where
      finds : ((fault : Fault) → HasFaultAmong edition path fault these → HasFaultAmong edition path fault all) → (fault : Fault) → reading.faults held fault
          → HasFaultAmong edition path fault all

    -- of a field, and of what follows
    among_then : {X Y : Type 0} {here rest all : List SettingView} {first : Reading Members X} {later : X → Reading Members Y} → AreFound here first held
        → ((x : X) → first.means held x → IsFoundAmong rest all (later x)) → IsFoundAmong (here ++ rest) all ((then) first later)
    among_then {here = here} {rest = rest} before after = record {
      finds = λ within fault wrong. elim wrong [
        | inl first ↦ within fault (in_left fault here rest (before.finds fault first))
        | inr (x, meant, later) ↦ (after x meant).finds (λ other found. within other (in_right other here rest found)) fault later
      ];
    }

    fixed_found : backoff_in held ≡ Some Fixed
        → IsFoundAmong (at (needed count_key shapes.U32 Error) ++ (at (allowed delay_key shapes.Duration Error) ++ (at (allowed jitter_key shapes.Boolean Error) ++ [])))
        (in_retries Error fixed_fields path held) fixed_table
    fixed_found named =
        among_then (required_at count_key shapes.U32 Error u32_reading (λ v f w. w) refl held) (λ count count_there.
        among_then (default_at delay_key shapes.Duration Error duration_reading (λ v f w. w) held 0) (λ delay delay_there.
        among_then (default_at jitter_key shapes.Boolean Error bool_reading (λ v f w. w) held false) (λ jitter jitter_there. record {
          finds = λ within fault wrong. elim wrong [
            | inl (name, first, is) ↦ of_others fault fixed_fields Fixed named name first.is_unknown is
            | inr (alone, inl (broken, is)) ↦ of_rules fault fixed_fields Fixed named (fixed_broken held delay jitter delay_there jitter_there broken, is)
            | inr (alone, inr (kept, none)) ↦ absurd none
          ];
        })))

    exponential_found : backoff_in held ≡ Some Exponential
        → IsFoundAmong (at (needed count_key shapes.U32 Error) ++ (at (needed delay_key shapes.Duration Error) ++ (at (allowed jitter_key shapes.Boolean Error) ++ (at (allowed max_delay_key shapes.Duration Error) ++ []))))
        (in_retries Error exponential_fields path held) exponential_table
    exponential_found named =
        among_then (required_at count_key shapes.U32 Error u32_reading (λ v f w. w) refl held) (λ count count_there.
        among_then (required_at delay_key shapes.Duration Error duration_reading (λ v f w. w) refl held) (λ delay delay_there.
        among_then (default_at jitter_key shapes.Boolean Error bool_reading (λ v f w. w) held false) (λ jitter jitter_there.
        among_then (optional_at max_delay_key shapes.Duration Error duration_reading (λ v f w. w) held) (λ max max_there. record {
          finds = λ within fault wrong. elim wrong [
            | inl (name, first, is) ↦ of_others fault exponential_fields Exponential named name first.is_unknown is
            | inr (alone, inl broken) ↦ of_rules fault exponential_fields Exponential named (exponential_broken held count delay max count_there delay_there max_there fault broken)
            | inr (alone, inr (kept, none)) ↦ absurd none
          ];
        }))))

    -- what is judged of the table, by its backoff
    abbrev all_by : Option Backoff → List SettingView
    all_by = by_kind (in_retries Error fixed_fields path held) (in_retries Error exponential_fields path held) (in_retries Error open_fields path held)

    backoff_found_by : (kind : Option Backoff) (fault : Fault) → HasFaultAmong edition path fault (at (needed backoff_key shapes.Backoff Error)) → HasFaultAmong edition path fault (all_by kind)
    backoff_found_by (Some Fixed) fault found = of_fields fault fixed_fields (in_left fault (at (needed backoff_key shapes.Backoff Error)) _ found)
    backoff_found_by (Some Exponential) fault found = of_fields fault exponential_fields (in_left fault (at (needed backoff_key shapes.Backoff Error)) _ found)
    backoff_found_by None fault found = of_fields fault open_fields (in_left fault (at (needed backoff_key shapes.Backoff Error)) _ found)

    table_found_by : (kind : Backoff) → backoff_in held ≡ Some kind → (fault : Fault) → (table_with_backoff kind).faults held fault → HasFaultAmong edition path fault (all_by (Some kind))
    table_found_by Fixed named = (fixed_found named).finds (λ fault found. of_fields fault fixed_fields (in_right fault (at (needed backoff_key shapes.Backoff Error)) _ found))
    table_found_by Exponential named = (exponential_found named).finds (λ fault found. of_fields fault exponential_fields (in_right fault (at (needed backoff_key shapes.Backoff Error)) _ found))

    retries_table_found : (fault : Fault) → retry_table.faults held fault → HasFaultAmong edition path fault (all_by (backoff_in held))
    retries_table_found fault wrong = elim wrong [
      | inl here ↦ backoff_found_by (backoff_in held) fault ((required_at backoff_key shapes.Backoff Error backoff_reading (λ v f w. w) refl held).finds fault here)
      | inr (kind, there, later) ↦
          let named = backoff_is held kind there in
          subst (λ (k : Option Backoff). HasFaultAmong edition path fault (all_by k)) (sym named) (table_found_by kind named fault later)
    ]

  pub retries_found : (value : Data) → FindsFaultOf retry_policy_reading edition shapes.Retries retries_parts path value
  retries_found (table held) = λ fault wrong. inr (retries_table_found held fault wrong)
  retries_found value = beside_found Error shapes.Retries retries_parts retry_policy_reading value (λ f w. w)

  -- ---- `experimental`

  switches_found : (held : Members) → AreFound (settings_of_fields feature_fields Error path held) (switches all_features) held
  switches_found held =
      found_then (default_at (codes "setup-scripts") shapes.Boolean Error bool_reading (λ v f w. w) held false) (λ on.
      found_then (default_at (codes "wrapper-scripts") shapes.Boolean Error bool_reading (λ v f w. w) held false) (λ on.
      found_then (default_at (codes "benchmarks") shapes.Boolean Error bool_reading (λ v f w. w) held false) (λ on. record { finds = λ fault none. absurd none })))

  -- the features that a value names
  abbrev named_in : Data → List SettingView
  named_in value = setting_at Error path (features_at value) ∷ []

-- what is judged of the elements of an array of features
abbrev names_at : List PathStep → ℕ → Items → List SettingView
names_at = at_items (with_parts shapes.FeatureName Error nothing (λ path value. []))

-- an element that is no text is refused
no_text_refused : (value : Data) → as_str value ≡ None → text_reading.faults value (wrong_type value text_expected)
no_text_refused value none = rw none refl

-- an element that is no text is found
element_found : (path : List PathStep) (first number : ℕ) (items : Items) (place : ℕ) (value : Data) (fault : Fault) → get_item place items ≡ Some value → as_str value ≡ None → number ≡ first + place
    → fault ≡ fault_below (index number) (wrong_type value text_expected) → HasFaultAmong ArrayAllowed path fault (names_at path first items)
element_found path first number no_items place value fault here none at is = cc here
element_found path first number (item other rest) zero value fault here none at is =
    let same : value ≡ other = same_Some value other (sym here) in
    let at_first : number ≡ first = omega (arith, at) in
    inl (record {
      reported = wrong_type value text_expected;
      is_wrong = subst (λ (held : Data). text_reading.faults held (wrong_type value text_expected)) same (no_text_refused value none);
      same_place = append_assoc path (index first ∷ []) [] ∙ ap (λ (n : ℕ). path ++ (index n ∷ [])) (sym at_first) ∙ ap (λ (f : Fault). path ++ f.steps) (sym is);
      same_cause = ap (λ (f : Fault). f.cause) (sym is);
    })
element_found path first number (item other rest) (suc place) value fault here none at is =
    inr (element_found path (suc first) number rest place value fault here none (omega (arith, at)) is)

pub features_found : (edition : Edition) (path : List PathStep) (value : Data) → FindsFaultOf (features_under edition) edition shapes.Experimental (known.features feature_fields) path value
features_found ArrayAllowed path (table held) = λ fault wrong.
    inr (in_left ArrayAllowed path fault (settings_of_fields feature_fields Error path held) (named_in ArrayAllowed path (table held)) ((switches_found ArrayAllowed path held).finds fault wrong))
features_found TableOnly path (table held) = λ fault wrong.
    inr (in_left TableOnly path fault (settings_of_fields feature_fields Error path held) (named_in TableOnly path (table held)) ((switches_found TableOnly path held).finds fault wrong))
features_found ArrayAllowed path (array items) = λ fault (place, value, here, earlier, (none, is)).
    inr (in_left ArrayAllowed path fault (names_at path 0 items) (named_in ArrayAllowed path (array items)) (element_found path 0 place items place value fault here none (omega arith) is))
features_found TableOnly path (array items) = beside_found TableOnly path Error shapes.Experimental (known.features feature_fields) (features_under TableOnly) (array items) (λ f w. w)
features_found ArrayAllowed path value = beside_found ArrayAllowed path Error shapes.Experimental (known.features feature_fields) (features_under ArrayAllowed) value (λ f w. w)
features_found TableOnly path value = beside_found TableOnly path Error shapes.Experimental (known.features feature_fields) (features_under TableOnly) value (λ f w. w)
