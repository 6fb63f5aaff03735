-- What is judged in a document, each with its path, depth-first.
use Rattle.std.specs.Prelude.{ℕ, suc, ◌&&◌, ◌||◌, Bool, false, not, if◌then◌else◌, List, [], ◌∷◌, ◌++◌, codes, flat_map, is_some, map, nat_eq, Option, Some, None}
use Rattle.std.specs.Cmp.Lexicographic.{pointwise}
use Rattle.toml.specs.Data.{array, Data, get_member, item, Items, member, Members, no_items, no_members, table}
use Rattle.toml.specs.View.{view}
use Rattle.nextest_config_values.specs.Read.{value_of, words_of}
use Rattle.toml_spans.specs.Step.{index, key, PathStep}
use Rattle.nextest_config_elements.specs.Fields.{by_backoff, elements, elements_or_fields, features, field, field_words, Fields, fields, fields_view, KeyRule, names, no_fields, nothing, Parts, parts_of, rule_of, versions, within}
use Rattle.nextest_config_elements.specs.Keys.{file_table}
use Rattle.nextest_config_elements.specs.RetryPolicy.{keys_beside}
use Rattle.nextest_config_elements.specs.RetryRules.{backoff_in}
use Rattle.nextest_config_elements.specs.declared.field.FaultSeverity.{FaultSeverity}
use Rattle.nextest_config_elements.specs.declared.field.FaultSeverity.TheVariants.{Error}
use Rattle.nextest_config_elements.specs.declared.field.Field as declared_field
use Rattle.nextest_config_elements.specs.declared.field.Field.{out-Field}
use Rattle.nextest_config_elements.specs.declared.field.Shape.{Shape}
use Rattle.nextest_config_elements.specs.declared.field.Shape.TheVariants.{FeatureName}
use Rattle.nextest_config_elements.specs.declared.retry_policy.Backoff.{Backoff}
use Rattle.nextest_config_elements.specs.declared.retry_policy.Backoff.TheVariants.{Exponential, Fixed}
use Rattle.nextest_config_lint.specs.declared.settings.Mark.{Mark}
use Rattle.nextest_config_lint.specs.declared.settings.Mark.TheVariants as marks
use Rattle.nextest_config_lint.specs.declared.settings.Rules.{Rules}
use Rattle.nextest_config_lint.specs.declared.settings.Rules.TheVariants as rules_of
use Rattle.nextest_config_lint.specs.declared.settings.Setting.{Setting}
use Rattle.nextest_config_lint.specs.declared.settings.Subject.{Subject as declared_subject}
use Rattle.nextest_config_lint.specs.declared.settings.Subject.TheVariants as subjects

-- what is judged at a path: the value there, of a shape, and what stands in it; a key that the
-- table there has to have, and lacks; a key that the table there refuses, with the words that it
-- says it expects and the keys that it has; the rules between keys of the value there; or the
-- features that the value there names
pub data Subject : Type 0 where
  a_value : Shape → Parts → Data → Subject
  absent_key : List ℕ → Subject
  refused_key : List ℕ → List (List ℕ) → List (List ℕ) → Subject
  between : Rules → Data → Subject
  features_at : Data → Subject

-- what is judged at a path, and how grave a fault of it is
pub record SettingView : Type 0 where
  pub severity : FaultSeverity
  pub path : List PathStep
  pub subject : Subject

-- this is judged at this path
abbrev pub setting_at : FaultSeverity → List PathStep → Subject → SettingView
setting_at severity path subject =
    record { severity = severity; path = path; subject = subject }

-- ---- as they are kept

-- the step that a mark stands for
abbrev pub mark_step : Mark → PathStep
mark_step (marks.Key text) = key text.now
mark_step (marks.Index place) = index place

-- what is judged, without where it lies in memory
abbrev pub subject_view : declared_subject → Subject
subject_view (subjects.Value shape parts value) = a_value shape (parts_of parts) (view value.now)
subject_view (subjects.AbsentKey name) = absent_key name.now
subject_view (subjects.RefusedKey name expected known) =
    refused_key name.now (words_of expected.now) (field_words (fields_view known.now))
subject_view (subjects.Between rules value) = between rules (view value.now)
subject_view (subjects.Features value) = features_at (view value.now)

-- what is judged at a path, without where it lies in memory
abbrev pub setting_view : Setting → SettingView
setting_view setting =
    setting_at setting.severity (map mark_step setting.path.now) (subject_view setting.subject)

-- ---- of a value

-- what comes of a value at a path
abbrev pub Collecting : Type 0
Collecting = List PathStep → Data → List SettingView

-- a value, and what stands in it
abbrev pub with_parts : Shape → FaultSeverity → Parts → Collecting → Collecting
with_parts shape severity parts settings_below path value =
    setting_at severity path (a_value shape parts value) ∷ settings_below path value

-- the keys of a table
abbrev pub names_of : Members → List (List ℕ)
names_of no_members = []
names_of (member name value rest) = name ∷ names_of rest

-- what comes of the value at a step after a path, if there is one
abbrev pub if_there : Collecting → List PathStep → PathStep → Option Data → List SettingView
if_there collecting path step None = []
if_there collecting path step (Some value) = collecting (path ++ (step ∷ [])) value

-- what comes of the value at each key of a table
abbrev pub at_names : Collecting → List PathStep → Members → List SettingView
at_names collecting path members =
    flat_map (λ name. if_there collecting path (key name) (get_member name members))
    (names_of members)

-- what comes of each element of an array; the first one has this index
abbrev pub at_items : Collecting → List PathStep → ℕ → Items → List SettingView
at_items collecting path first no_items = []
at_items collecting path first (item value rest) =
    collecting (path ++ (index first ∷ [])) value ++ at_items collecting path (suc first) rest

-- what comes of a table; nothing of another value
abbrev pub in_table : (List PathStep → Members → List SettingView) → Collecting
in_table collecting path (table members) = collecting path members
in_table collecting path value = []

-- what comes of an array; nothing of another value
abbrev pub in_array : (List PathStep → Items → List SettingView) → Collecting
in_array collecting path (array items) = collecting path items
in_array collecting path value = []

-- ---- of keys

-- the step is this key
abbrev pub is_key : List ℕ → PathStep → Bool
is_key wanted (key text) = pointwise nat_eq text wanted
is_key wanted (index number) = false

-- the timeout of slow or leaky tests in nextest's default profile, which has a period itself
abbrev pub has_default_period : List PathStep → Bool
has_default_period (top ∷ name ∷ timeout ∷ []) =
    is_key (codes "profile") top && (is_key (codes "default") name
    && (is_key (codes "slow-timeout") timeout || is_key (codes "leak-timeout") timeout))
has_default_period (top ∷ name ∷ bench ∷ timeout ∷ []) =
    is_key (codes "profile") top && (is_key (codes "default") name
    && (is_key (codes "bench") bench && is_key (codes "slow-timeout") timeout))
has_default_period path = false

-- the table at a path has to have the key: it is required, and nextest's own configuration doesn't
-- supply it
abbrev pub is_wanted : KeyRule → List PathStep → Bool
is_wanted rule path = rule.required
    && not (pointwise nat_eq rule.key (codes "period") && has_default_period path)

-- what comes of a key that a table lacks
abbrev pub of_absent : FaultSeverity → KeyRule → List PathStep → List SettingView
of_absent severity rule path =
    if is_wanted rule path then setting_at severity path (absent_key rule.key) ∷ [] else []

-- what comes of a key of a table: of the value there, or that there is none
abbrev pub at_key : FaultSeverity → KeyRule → (FaultSeverity → Collecting) → List PathStep
    → Option Data → List SettingView
at_key severity rule collecting path (Some value) =
    collecting severity (path ++ (key rule.key ∷ [])) value
at_key severity rule collecting path None = of_absent severity rule path

-- the name is one of these words
abbrev pub is_known : List (List ℕ) → List ℕ → Bool
is_known known name = is_some (value_of (λ word. word) known name)

-- what comes of a key of a table that refuses other keys than these
abbrev pub of_name : FaultSeverity → List (List ℕ) → List (List ℕ) → List PathStep → List ℕ
    → List SettingView
of_name severity expected known path name = if is_known known name then []
    else setting_at severity path (refused_key name expected known) ∷ []

-- the words that a table of retries says it expects: those of its backoff
abbrev pub expected_by : Option Backoff → List (List ℕ)
expected_by (Some backoff) = keys_beside backoff
expected_by None = keys_beside Exponential

-- of three the one that is meant for a backoff
abbrev pub by_kind : {A : Type 0} → A → A → A → Option Backoff → A
by_kind fixed exponential without (Some Fixed) = fixed
by_kind fixed exponential without (Some Exponential) = exponential
by_kind fixed exponential without None = without

-- what comes of a table with rules between its keys, behind what comes of its fields
abbrev pub and_rules : FaultSeverity → Rules → List PathStep → Members → List SettingView
    → List SettingView
and_rules severity rules path members of_fields =
    of_fields ++ (setting_at severity path (between rules (table members)) ∷ [])

-- what comes of a table of retries that knows these keys: of its fields, of its other keys, and of
-- its rules
abbrev pub of_retries : FaultSeverity → List (List ℕ) → List PathStep → Members → List SettingView
    → List SettingView
of_retries severity known path members of_fields =
    and_rules severity rules_of.Retries path members (of_fields
    ++ flat_map (of_name severity (expected_by (backoff_in members)) known path)
    (names_of members))

-- a value of this shape in which nothing stands
abbrev pub plain_element : Shape → FaultSeverity → Collecting
plain_element shape severity = with_parts shape severity nothing (λ path value. [])

-- what comes of an array of which each element has this shape, and nothing stands in it
abbrev pub plain_elements : Shape → FaultSeverity → List PathStep → Items → List SettingView
plain_elements shape severity path = at_items (plain_element shape severity) path 0

-- ---- the table of keys

abbrev mutual
  -- what is judged in a value whose faults are as grave as this
  pub settings_below : Parts → FaultSeverity → Collecting
  settings_below nothing = λ severity path value. []
  settings_below (fields known) = λ severity. in_table (settings_of_fields known severity)
  settings_below (versions known) = λ severity. in_table (λ path members.
      and_rules severity rules_of.Versions path members
      (settings_of_fields known severity path members))
  settings_below (features known) = λ severity path value.
      in_table (settings_of_fields known severity) path value
      ++ (in_array (plain_elements FeatureName severity) path value
      ++ (setting_at severity path (features_at value) ∷ []))
  settings_below (by_backoff fixed exponential without) = λ severity. in_table (λ path members.
      by_kind
      (of_retries severity (field_words fixed) path members
      (settings_of_fields fixed severity path members))
      (of_retries severity (field_words exponential) path members
      (settings_of_fields exponential severity path members))
      (of_retries severity (field_words without) path members
      (settings_of_fields without severity path members))
      (backoff_in members))
  settings_below (names shape parts) = λ severity.
      in_table (at_names (with_parts shape severity parts (settings_below parts severity)))
  settings_below (elements shape parts) = λ severity.
      in_array (λ path. at_items (with_parts shape severity parts (settings_below parts severity))
      path 0)
  settings_below (elements_or_fields shape known) = λ severity path value.
      in_table (settings_of_fields known severity) path value
      ++ in_array (plain_elements shape severity) path value

  -- what is judged in a table by its fields, in their order, where its own faults are as grave as
  -- this
  pub settings_of_fields : Fields → FaultSeverity → List PathStep → Members → List SettingView
  settings_of_fields no_fields = λ severity path members. []
  settings_of_fields (field rule parts rest) = λ severity path members.
      at_key (within severity rule.severity) rule
      (λ grave. with_parts rule.shape grave parts (settings_below parts grave))
      path (get_member rule.key members)
      ++ settings_of_fields rest severity path members

-- a value, and what is judged in it
abbrev pub settings_in : Shape → FaultSeverity → Parts → Collecting
settings_in shape severity parts =
    with_parts shape severity parts (settings_below parts severity)

-- a field, as code that is handed it sees it
abbrev pub seen_field : declared_field.Field → KeyRule × Parts
seen_field known = (rule_of (out-Field known), parts_of (out-Field known).parts)

-- what is judged in a table by one of its fields, where its own faults are as grave as this
abbrev pub of_field : FaultSeverity → KeyRule × Parts → List PathStep → Members → List SettingView
of_field severity (rule, parts) path members =
    at_key (within severity rule.severity) rule (λ grave. settings_in rule.shape grave parts) path
    (get_member rule.key members)

-- what is judged in a table of retries with these fields
abbrev pub in_retries : FaultSeverity → Fields → List PathStep → Members → List SettingView
in_retries severity known path members =
    of_retries severity (field_words known) path members
    (settings_of_fields known severity path members)

-- all that is judged in a document
abbrev pub settings_of : Members → List SettingView
settings_of members = settings_below file_table Error [] (table members)
