-- The path of what is found leads to a value of the document.
use Rattle.std.specs.Prelude.{◌≡◌, ℕ, suc, ◌+◌, ◌&&◌, Bool, true, false, not, List, [], ◌∷◌, ◌++◌, codes, Contains, flat_map, if◌then◌else◌, IsSome, map, nat_eq, Option, Some, None, option_and_then, option_to_list}
use Rattle.std.proofs.Common.{ap, append-nil, arith, inl, inr, refl, rules, subst, sym, zero-add, ◌∙◌}
use Rattle.std.specs.Cmp.Lexicographic.{pointwise}
use Rattle.std.proofs.lemmas.List.Elements.{All-contains_itself, recursion_from_All}
use Rattle.std.proofs.lemmas.Option.{none-some, same_Some}
use Rattle.std.specs.List.{AllByRecursion}
use Rattle.nextest_config_values.specs.Read.Fault.{Fault}
use Rattle.nextest_config_values.specs.Read.{reason_at}
use Rattle.toml.specs.Data.{array, as_str, Data, get, get_item, get_member, item, Items, Members, no_items, table}
use Rattle.toml_spans.specs.Line.{found_below, found_in, step_from}
use Rattle.toml_spans.specs.Step.{index, key, PathStep, printed_path}
use Rattle.nextest_config_filters.specs.Fault.{Fault as TextFault}
use Rattle.nextest_config.specs.NextestVersion.{feature_array, Features, FeatureSetting, features_of_table, feature_table, features_under, text_in}
use Rattle.nextest_config.specs.declared.nextest_version.edition.Edition.{Edition}
use Rattle.nextest_config.specs.declared.nextest_version.edition.Edition.TheVariants.{ArrayAllowed, TableOnly}
use Rattle.nextest_config.specs.declared.nextest_version.source.ConfigSourceKind.{ConfigSourceKind}
use Rattle.nextest_config.specs.declared.nextest_version.source.ConfigSourceKind.TheVariants.{Tool}
use Rattle.toml_spans.proofs.Elements.{all_joined}
use Rattle.nextest_config_lint.proofs.FaultsHere.{IsAtKey, IsHere, rules_at_key, shape_here}
use Rattle.nextest_config_lint.proofs.ReferencesFound.{reference_at, reported_leads}
use Rattle.nextest_config_lint.proofs.Keys.{names_have}
use Rattle.nextest_config_lint.specs.Defined.{file_with, ListFile}
use Rattle.nextest_config_lint.specs.Document.{AreFindings, keys_of_document}
use Rattle.nextest_config_lint.specs.Features.{AreToolsFound, features_text, IsNameAt, IsNameFound, IsStepTo}
use Rattle.nextest_config_lint.specs.File.{key_in, reason_key}
use Rattle.nextest_config_lint.specs.FindingsLaws.{LeadsToValue}
use Rattle.nextest_config_lint.specs.Found.{AreFoundIn, AreFoundOf, deprecated_array, Found, found_at, FoundKind}
use Rattle.nextest_config_lint.specs.References.JudgedFile.{FileInList, in_list}
use Rattle.nextest_config_lint.specs.References.{IsReferenceFound, IsSubjectReported, steps_to, placed_below}
use Rattle.nextest_config_lint.specs.Settings.{a_value, absent_key, and_rules, at_items, at_key, at_names, between, by_kind, Collecting, expected_by, features_at, has_default_period, if_there, in_array, in_table, is_known, names_of, of_name, of_retries, setting_at, settings_below, settings_in, settings_of, settings_of_fields, SettingView, Subject, refused_key, with_parts}
use Rattle.nextest_config_lint.specs.Subjects.{IsLeftOpen, IsWrong, NamesFeatures}
use Rattle.nextest_config_elements.specs.Fields.{field, field_words, Fields, KeyRule, no_fields, nothing, Parts, within}
use Rattle.nextest_config_elements.specs.Fields as inside
use Rattle.nextest_config_elements.specs.Keys.{file_fields, file_table}
use Rattle.nextest_config_elements.specs.RetryRules.{backoff_in}
use Rattle.nextest_config_elements.specs.declared.field.FaultSeverity.{FaultSeverity}
use Rattle.nextest_config_elements.specs.declared.field.FaultSeverity.TheVariants.{Error}
use Rattle.nextest_config_elements.specs.declared.field.Shape.{Shape}
use Rattle.nextest_config_elements.specs.declared.field.Shape.TheVariants.{FeatureName}
use Rattle.nextest_config_elements.specs.declared.retry_policy.Backoff.{Backoff}
use Rattle.nextest_config_elements.specs.declared.retry_policy.Backoff.TheVariants.{Exponential, Fixed}
use Rattle.nextest_config_lint.specs.declared.settings.Rules.{Rules}
use Rattle.nextest_config_lint.specs.declared.settings.Rules.TheVariants as rules_of
use Rattle.nextest_config_lint.specs.Unknown.{IsKeyFound, IsKeyFoundFor, TableKey, key_at, keys_among, keys_below, keys_of_subject, keys_in, known_words}
use Rattle.nextest_config_lint.specs.Texts.{IsTextFault}
use Rattle.nextest_config_lint.specs.Values.{accepted, AreFaultsFound, AreFeaturesFound, AreNotesFound, faulty, left_open, miswritten, names_features}

-- ---- lists

-- what holds of all that comes of each element, where that holds which each element has
pub all_of_each : {X A : Type 0} (P : A → Type 0) (Q : X → Type 0) (f : X → List A) → ((x : X) → Q x → AllByRecursion P (f x)) → (xs : List X) → AllByRecursion Q xs → AllByRecursion P (flat_map f xs)
all_of_each P Q f each [] h = tt
all_of_each P Q f each (x ∷ xs) h = all_joined P (f x) (flat_map f xs) (each x h.0) (all_of_each P Q f each xs h.1)

pub all_of_any : {X A : Type 0} (P : A → Type 0) (f : X → List A) → ((x : X) → AllByRecursion P (f x)) → (xs : List X) → AllByRecursion P (flat_map f xs)
all_of_any P f each [] = tt
all_of_any P f each (x ∷ xs) = all_joined P (f x) (flat_map f xs) (each x) (all_of_any P f each xs)

each_found : {A : Type 0} (P : Found → Type 0) (Q : A → Type 0) (IsFound : A → Option Found → Type 0) → ((x : A) (here : Option Found) → Q x → IsFound x here → AllByRecursion P (option_to_list here))
    → (xs : List A) (all_found : List Found) → AllByRecursion Q xs → AreFoundIn IsFound xs all_found → AllByRecursion P all_found
each_found P Q IsFound each [] all_found h none = rw none tt
each_found P Q IsFound each (x ∷ xs) all_found h (here, rest, is, are, whole) =
    rw whole (all_joined P (option_to_list here) rest (each x here h.0 is) (each_found P Q IsFound each xs rest h.1 are))

all_of_lists : {A : Type 0} (P : Found → Type 0) (Q : A → Type 0) (Are : A → List Found → Type 0) → ((x : A) (here : List Found) → Q x → Are x here → AllByRecursion P here)
    → (xs : List A) (all_found : List Found) → AllByRecursion Q xs → AreFoundOf Are xs all_found → AllByRecursion P all_found
all_of_lists P Q Are each [] all_found h none = rw none tt
all_of_lists P Q Are each (x ∷ xs) all_found h (here, rest, is, are, whole) =
    rw whole (all_joined P here rest (each x here h.0 is) (all_of_lists P Q Are each xs rest h.1 are))

some_is : {X : Type 0} (o : Option X) (x : X) → o ≡ Some x → IsSome o
some_is o x is = rw is refl

from_some : {X P : Type 0} (o : Option X) → IsSome o → ((x : X) → o ≡ Some x → P) → P
from_some None some on = cc some
from_some (Some x) some on = on x refl

-- ---- one step more

through : (rest : List PathStep) (step : PathStep) (value inner : Data) (found : Option Data)
    → ((from : Data) → found_below rest from ≡ Some value → found_below (rest ++ (step ∷ [])) from ≡ Some inner)
    → option_and_then (found_below rest) found ≡ Some value → option_and_then (found_below (rest ++ (step ∷ []))) found ≡ Some inner
through rest step value inner None on is = absurd (none-some value is)
through rest step value inner (Some from) on is = on from is

one_step_below : (path : List PathStep) (step : PathStep) (value inner from : Data) → step_from value step ≡ Some inner
    → found_below path from ≡ Some value → found_below (path ++ (step ∷ [])) from ≡ Some inner
one_step_below [] step value inner from steps is =
    let here : from ≡ value = same_Some from value is in
    rw (here, steps) refl
one_step_below (first ∷ rest) step value inner from steps is =
    through rest step value inner (step_from from first) (λ next found. one_step_below rest step value inner next steps found) is

one_step : (top : Members) (path : List PathStep) (step : PathStep) (value inner : Data) → found_in top path ≡ Some value → step_from value step ≡ Some inner
    → found_in top (path ++ (step ∷ [])) ≡ Some inner
one_step top [] step value inner is steps = absurd (none-some value is)
one_step top (key text ∷ rest) step value inner is steps =
    through rest step value inner (get_member text top) (λ next found. one_step_below rest step value inner next steps found) is
one_step top (index place ∷ rest) step value inner is steps = absurd (none-some value is)

-- a path of one key
first_step : (top : Members) (name : List ℕ) (value : Data) → get_member name top ≡ Some value → found_in top (key name ∷ []) ≡ Some value
first_step top name value is = rw is refl

-- ---- what is judged

-- what is judged at a path stands there
abbrev IsPlacedAt : Members → List PathStep → Subject → Type 0
IsPlacedAt top path (a_value shape parts value) = found_in top path ≡ Some value
IsPlacedAt top path (absent_key name) = IsSome (found_in top path)
IsPlacedAt top path (refused_key name expected known) = IsSome (found_in top (path ++ (key name ∷ [])))
IsPlacedAt top path (between rules value) = found_in top path ≡ Some value
IsPlacedAt top path (features_at value) = found_in top path ≡ Some value

abbrev IsPlaced : Members → SettingView → Type 0
IsPlaced top setting = IsPlacedAt top setting.path setting.subject

-- what is at each key of a table is led to by the path with the key
abbrev LeadOn : Members → List PathStep → Members → Type 0
LeadOn top path held = (name : List ℕ) (value : Data) → get_member name held ≡ Some value → found_in top (path ++ (key name ∷ [])) ≡ Some value

-- what comes of values that a path leads to is placed
abbrev PlacesAll : Members → Collecting → Type 0
PlacesAll top collecting = (path : List PathStep) (value : Data) → found_in top path ≡ Some value → AllByRecursion (IsPlaced top) (collecting path value)

there_placed : (top : Members) (collecting : Collecting) → PlacesAll top collecting → (path : List PathStep) (step : PathStep) (found : Option Data)
    → ((value : Data) → found ≡ Some value → found_in top (path ++ (step ∷ [])) ≡ Some value) → AllByRecursion (IsPlaced top) (if_there collecting path step found)
there_placed top collecting places path step None leads = tt
there_placed top collecting places path step (Some value) leads = places (path ++ (step ∷ [])) value (leads value refl)

names_placed : (top : Members) (collecting : Collecting) → PlacesAll top collecting → (path : List PathStep) (held : Members) → LeadOn top path held → AllByRecursion (IsPlaced top) (at_names collecting path held)
names_placed top collecting places path held leads =
    all_of_any (IsPlaced top) (λ name. if_there collecting path (key name) (get_member name held)) (λ name. there_placed top collecting places path (key name) (get_member name held) (leads name)) (names_of held)

-- the elements from the first one on
from_first : (all : Items) (i : ℕ) → get_item i all ≡ get_item (i + 0) all
from_first all i = let same : i ≡ i + 0 = omega arith in ap (λ n. get_item n all) same

-- those from an index on
items_placed : (top : Members) (collecting : Collecting) → PlacesAll top collecting → (path : List PathStep) (all : Items)
    → ((i : ℕ) (value : Data) → get_item i all ≡ Some value → found_in top (path ++ (index i ∷ [])) ≡ Some value)
    → (first : ℕ) (held : Items) → ((i : ℕ) → get_item i held ≡ get_item (i + first) all) → AllByRecursion (IsPlaced top) (at_items collecting path first held)
items_placed top collecting places path all leads first no_items from = tt
items_placed top collecting places path all leads first (item value rest) from =
    let here : get_item first all ≡ Some value = rw (zero-add first) at (sym (from 0)) in
    all_joined (IsPlaced top) (collecting (path ++ (index first ∷ [])) value) (at_items collecting path (suc first) rest)
    (places (path ++ (index first ∷ [])) value (leads first value here))
    (items_placed top collecting places path all leads (suc first) rest
    (λ i. let next : suc i + first ≡ i + suc first = omega arith in subst (λ n. get_item i rest ≡ get_item n all) next (from (suc i))))

in_table_placed : (top : Members) (collecting : List PathStep → Members → List SettingView)
    → ((path : List PathStep) (held : Members) → found_in top path ≡ Some (table held) → AllByRecursion (IsPlaced top) (collecting path held)) → PlacesAll top (in_table collecting)
in_table_placed top collecting places path (table held) is = places path held is
in_table_placed top collecting places path value is = tt

in_array_placed : (top : Members) (collecting : Collecting) → PlacesAll top collecting → PlacesAll top (in_array (λ path. at_items collecting path 0))
in_array_placed top collecting places path (array held) is =
    items_placed top collecting places path held (λ i value at. one_step top path (index i) (array held) value is at) 0 held (from_first held)
in_array_placed top collecting places path value is = tt

with_parts_placed : (top : Members) (shape : Shape) (severity : FaultSeverity) (parts : Parts) (collecting : Collecting) → PlacesAll top collecting → PlacesAll top (with_parts shape severity parts collecting)
with_parts_placed top shape severity parts collecting places path value is = (is, places path value is)

-- the keys of a table that a path leads to
leads_on : (top : Members) (path : List PathStep) (held : Members) → found_in top path ≡ Some (table held) → LeadOn top path held
leads_on top path held is name value at = one_step top path (key name) (table held) value is at

key_placed : (top : Members) (path : List PathStep) (held : Members) → LeadOn top path held → (name : List ℕ) → IsSome (get_member name held)
    → IsSome (found_in top (path ++ (key name ∷ [])))
key_placed top path held leads name some = from_some (get_member name held) some (λ value is. some_is _ value (leads name value is))

-- ---- keys that are absent, or refused

-- a path leads to what may lack keys of these
abbrev MayLack : Members → List PathStep → Fields → Type 0
MayLack top path no_fields = Unit {0}
MayLack top path (field rule parts rest) = (rule.required ≡ true → IsSome (found_in top path)) × MayLack top path rest

may_lack : (known : Fields) (top : Members) (path : List PathStep) → IsSome (found_in top path) → MayLack top path known
may_lack no_fields top path there = tt
may_lack (field rule parts rest) top path there = (λ required. there, may_lack rest top path there)

wanted_there : (top : Members) (path : List PathStep) (severity : FaultSeverity) (name : List ℕ) (required other : Bool) → (required ≡ true → IsSome (found_in top path))
    → AllByRecursion (IsPlaced top) (if required && other then setting_at severity path (absent_key name) ∷ [] else [])
wanted_there top path severity name true true there = (there refl, tt)
wanted_there top path severity name true false there = tt
wanted_there top path severity name false other there = tt

at_key_placed : (top : Members) (severity : FaultSeverity) (rule : KeyRule) (collecting : FaultSeverity → Collecting) → PlacesAll top (collecting severity) → (path : List PathStep) (found : Option Data)
    → ((value : Data) → found ≡ Some value → found_in top (path ++ (key rule.key ∷ [])) ≡ Some value) → (rule.required ≡ true → IsSome (found_in top path))
    → AllByRecursion (IsPlaced top) (at_key severity rule collecting path found)
at_key_placed top severity rule collecting places path None leads there =
    wanted_there top path severity rule.key rule.required (not (pointwise nat_eq rule.key (codes "period") && has_default_period path)) there
at_key_placed top severity rule collecting places path (Some value) leads there = places (path ++ (key rule.key ∷ [])) value (leads value refl)

name_placed : (top : Members) (severity : FaultSeverity) (expected known : List (List ℕ)) (path : List PathStep) (name : List ℕ) (is_one : Bool) → IsSome (found_in top (path ++ (key name ∷ [])))
    → AllByRecursion (IsPlaced top) (if is_one then [] else setting_at severity path (refused_key name expected known) ∷ [])
name_placed top severity expected known path name true there = tt
name_placed top severity expected known path name false there = (there, tt)

unknown_placed : (top : Members) (severity : FaultSeverity) (expected known : List (List ℕ)) (path : List PathStep) (held : Members) → LeadOn top path held
    → AllByRecursion (IsPlaced top) (flat_map (of_name severity expected known path) (names_of held))
unknown_placed top severity expected known path held leads =
    all_of_each (IsPlaced top) (λ name. IsSome (get_member name held)) (of_name severity expected known path)
    (λ name some. name_placed top severity expected known path name (is_known known name) (key_placed top path held leads name some)) (names_of held) (names_have held)

rules_placed : (top : Members) (severity : FaultSeverity) (rules : Rules) (path : List PathStep) (held : Members) (of_fields : List SettingView) → found_in top path ≡ Some (table held)
    → AllByRecursion (IsPlaced top) of_fields → AllByRecursion (IsPlaced top) (and_rules severity rules path held of_fields)
rules_placed top severity rules path held of_fields is placed = all_joined (IsPlaced top) of_fields (setting_at severity path (between rules (table held)) ∷ []) placed (is, tt)

retries_placed : (top : Members) (severity : FaultSeverity) (known : List (List ℕ)) (path : List PathStep) (held : Members) (of_fields : List SettingView) → found_in top path ≡ Some (table held)
    → AllByRecursion (IsPlaced top) of_fields → AllByRecursion (IsPlaced top) (of_retries severity known path held of_fields)
retries_placed top severity known path held of_fields is placed =
    let expected = expected_by (backoff_in held) in
    rules_placed top severity rules_of.Retries path held (of_fields ++ flat_map (of_name severity expected known path) (names_of held)) is
    (all_joined (IsPlaced top) of_fields (flat_map (of_name severity expected known path) (names_of held)) placed
    (unknown_placed top severity expected known path held (leads_on top path held is)))

by_kind_placed : (top : Members) (fixed exponential without : List SettingView) (backoff : Option Backoff) → AllByRecursion (IsPlaced top) fixed → AllByRecursion (IsPlaced top) exponential
    → AllByRecursion (IsPlaced top) without → AllByRecursion (IsPlaced top) (by_kind fixed exponential without backoff)
by_kind_placed top fixed exponential without (Some Fixed) h k l = h
by_kind_placed top fixed exponential without (Some Exponential) h k l = k
by_kind_placed top fixed exponential without None h k l = l

-- ---- the table of keys

mutual
  parts_placed : (parts : Parts) (top : Members) (severity : FaultSeverity) → PlacesAll top (settings_below parts severity)
  parts_placed nothing top severity = λ path value is. tt
  parts_placed (inside.fields known) top severity = in_table_placed top (settings_of_fields known severity) (λ path held is. fields_placed known top severity path held (leads_on top path held is) (may_lack known top path (some_is _ (table held) is)))
  parts_placed (inside.versions known) top severity =
      in_table_placed top (λ path held. and_rules severity rules_of.Versions path held (settings_of_fields known severity path held))
      (λ path held is. rules_placed top severity rules_of.Versions path held (settings_of_fields known severity path held) is
      (fields_placed known top severity path held (leads_on top path held is) (may_lack known top path (some_is _ (table held) is))))
  parts_placed (inside.features known) top severity = λ path value is.
      all_joined (IsPlaced top) (in_table (settings_of_fields known severity) path value) _
      (in_table_placed top (settings_of_fields known severity) (λ path held is. fields_placed known top severity path held (leads_on top path held is) (may_lack known top path (some_is _ (table held) is))) path value is)
      (all_joined (IsPlaced top) (in_array (λ path. at_items (with_parts FeatureName severity nothing (λ path value. [])) path 0) path value) (setting_at severity path (features_at value) ∷ [])
      (in_array_placed top (with_parts FeatureName severity nothing (λ path value. [])) (with_parts_placed top FeatureName severity nothing (λ path value. []) (λ path value is. tt)) path value is)
      (is, tt))
  parts_placed (inside.by_backoff fixed exponential without) top severity =
      in_table_placed top (λ path held. by_kind (of_retries severity (field_words fixed) path held (settings_of_fields fixed severity path held))
      (of_retries severity (field_words exponential) path held (settings_of_fields exponential severity path held))
      (of_retries severity (field_words without) path held (settings_of_fields without severity path held)) (backoff_in held))
      (λ path held is. by_kind_placed top _ _ _ (backoff_in held)
      (retries_placed top severity (field_words fixed) path held (settings_of_fields fixed severity path held) is (fields_placed fixed top severity path held (leads_on top path held is) (may_lack fixed top path (some_is _ (table held) is))))
      (retries_placed top severity (field_words exponential) path held (settings_of_fields exponential severity path held) is (fields_placed exponential top severity path held (leads_on top path held is) (may_lack exponential top path (some_is _ (table held) is))))
      (retries_placed top severity (field_words without) path held (settings_of_fields without severity path held) is (fields_placed without top severity path held (leads_on top path held is) (may_lack without top path (some_is _ (table held) is)))))
  parts_placed (inside.names shape parts) top severity =
      in_table_placed top (at_names (settings_in shape severity parts))
      (λ path held is. names_placed top (settings_in shape severity parts)
      (with_parts_placed top shape severity parts (settings_below parts severity) (parts_placed parts top severity)) path held (leads_on top path held is))
  parts_placed (inside.elements_or_fields shape known) top severity = λ path value is.
      all_joined (IsPlaced top) (in_table (settings_of_fields known severity) path value) _
      (in_table_placed top (settings_of_fields known severity) (λ path held is. fields_placed known top severity path held (leads_on top path held is) (may_lack known top path (some_is _ (table held) is))) path value is)
      (in_array_placed top (with_parts shape severity nothing (λ path value. [])) (with_parts_placed top shape severity nothing (λ path value. []) (λ path value is. tt)) path value is)
  parts_placed (inside.elements shape parts) top severity =
      in_array_placed top (settings_in shape severity parts) (with_parts_placed top shape severity parts (settings_below parts severity) (parts_placed parts top severity))

  fields_placed : (known : Fields) (top : Members) (severity : FaultSeverity) (path : List PathStep) (held : Members) → LeadOn top path held → MayLack top path known
      → AllByRecursion (IsPlaced top) (settings_of_fields known severity path held)
  fields_placed no_fields top severity = λ path held leads lacks. tt
  fields_placed (field rule parts rest) top severity = λ path held leads lacks.
      let grave = within severity rule.severity in
      all_joined (IsPlaced top) (at_key grave rule (λ s. settings_in rule.shape s parts) path (get_member rule.key held)) (settings_of_fields rest severity path held)
      (at_key_placed top grave rule (λ s. settings_in rule.shape s parts)
      (with_parts_placed top rule.shape grave parts (settings_below parts grave) (parts_placed parts top grave)) path (get_member rule.key held) (leads rule.key) lacks.0)
      (fields_placed rest top severity path held leads lacks.1)

-- no key is required at the top of a file
none_required : (top : Members) → MayLack top [] file_fields
none_required top = (λ e. cc e, (λ e. cc e, (λ e. cc e, (λ e. cc e, (λ e. cc e, (λ e. cc e, (λ e. cc e, tt)))))))

all_placed : (top : Members) → AllByRecursion (IsPlaced top) (settings_of top)
all_placed top = fields_placed file_fields top Error [] top (first_step top) (none_required top)

-- ---- of faults

-- a step from a value that a path leads to
step_leads : (top : Members) (path : List PathStep) (step : PathStep) (value : Data) → found_in top path ≡ Some value → IsSome (step_from value step)
    → IsSome (found_in top (path ++ (step ∷ [])))
step_leads top path step value is some = from_some (step_from value step) some (λ inner steps. some_is _ inner (one_step top path step value inner is steps))

-- what is found of a fault of the value at a path, and of no key of it, stands there
here_leads : (top : Members) (path : List PathStep) (fault : Fault) (found : Found) → IsSome (found_in top path) → IsHere fault → found.path ≡ path ++ fault.steps
    → key_in found.kind ≡ reason_key (reason_at (printed_path (path ++ fault.steps)) fault.cause) → LeadsToValue top found
here_leads top path fault found there is path_is key_is =
    let none : key_in found.kind ≡ None = key_is ∙ is.1 (printed_path (path ++ fault.steps)) in
    let whole : found.path ≡ path = path_is ∙ ap (λ (steps : List PathStep). path ++ steps) is.0 ∙ append-nil path in
    rw (none, whole) there

-- and of a key of it at that key
at_key_leads : (top : Members) (path : List PathStep) (name : List ℕ) (fault : Fault) (found : Found) → IsSome (found_in top (path ++ (key name ∷ []))) → IsAtKey name fault
    → found.path ≡ path ++ fault.steps → key_in found.kind ≡ reason_key (reason_at (printed_path (path ++ fault.steps)) fault.cause) → LeadsToValue top found
at_key_leads top path name fault found there is path_is key_is =
    let at : key_in found.kind ≡ Some name = key_is ∙ is.1 (printed_path (path ++ fault.steps)) in
    let whole : found.path ≡ path = path_is ∙ ap (λ (steps : List PathStep). path ++ steps) is.0 ∙ append-nil path in
    rw (at, whole) there

wrong_leads : (edition : Edition) (top : Members) (path : List PathStep) (subject : Subject) (fault : Fault) (found : Found) → IsPlacedAt top path subject → IsWrong edition subject fault
    → found.path ≡ path ++ fault.steps → key_in found.kind ≡ reason_key (reason_at (printed_path (path ++ fault.steps)) fault.cause) → LeadsToValue top found
wrong_leads edition top path (a_value shape parts value) fault found placed wrong path_is key_is =
    here_leads top path fault found (some_is _ value placed) (shape_here edition shape value fault wrong) path_is key_is
wrong_leads edition top path (absent_key name) fault found placed wrong path_is key_is =
    here_leads top path fault found placed (subst IsHere (sym wrong) (refl, λ at. refl)) path_is key_is
wrong_leads edition top path (refused_key name expected known) fault found placed wrong path_is key_is =
    at_key_leads top path name fault found placed (subst (IsAtKey name) (sym wrong) (refl, λ at. refl)) path_is key_is
wrong_leads edition top path (between rules value) fault found placed wrong path_is key_is =
    let (name, at, there) = rules_at_key rules value fault wrong in
    at_key_leads top path name fault found (step_leads top path (key name) value placed there) at path_is key_is
wrong_leads edition top path (features_at value) fault found placed wrong path_is key_is = absurd wrong

text_leads : (top : Members) (path : List PathStep) (subject : Subject) (fault : TextFault) → IsPlacedAt top path subject → IsTextFault subject fault
    → IsSome (found_in top path)
text_leads top path (a_value shape parts value) fault placed wrong = some_is _ value placed
text_leads top path subject fault placed wrong = absurd wrong

faults_lead : (edition : Edition) (top : Members) (setting : SettingView) (here : List Found) → IsPlaced top setting → AreFaultsFound edition setting here
    → AllByRecursion (LeadsToValue top) here
faults_lead edition top setting here is (accepted, so, are) = rw are tt
faults_lead edition top setting here is (names_features value named, so, are) = rw are tt
faults_lead edition top setting here is (left_open fault, so, are) = rw are tt
faults_lead edition top setting here is (miswritten fault, so, are) = rw are (text_leads top setting.path setting.subject fault is so.1, tt)
faults_lead edition top setting here is (faulty fault, so, (found, of_fault, are)) =
    rw are (wrong_leads edition top setting.path setting.subject fault found is so.0 of_fault.path_is (ap key_in of_fault.kind_is.4), tt)

-- ---- of features

-- where an option leads on to something, there is something
some_before : {X Y : Type 0} (on : X → Option Y) (found : Option X) (y : Y) → option_and_then on found ≡ Some y → IsSome found
some_before on None y is = absurd (none-some y is)
some_before on (Some x) y is = refl

text_there : (found : Option Data) (text : List ℕ) → text_in found ≡ Some text → option_and_then as_str found ≡ Some text
text_there None text is = is
text_there (Some value) text is = is

-- a table has each key that it names
key_there : (held : Members) (named : Features) (name : List ℕ) → feature_table.means held named → Contains named.unknown name → IsSome (get_member name held)
key_there held named name means there = (((means.2.2.2).of_unknown name).0 there).0

-- an array has no key, so that each name in it is an element
element_there : (items : Items) (named : Features) (name : List ℕ) → feature_array.means items named → Contains named.unknown name
    → ((place : ℕ) → IsNameAt (array items) name place → ⊥) → ⊥
element_there items named name means there none =
    let among = ((means.of_names.of_unknown name).0 there).0 in
    none among.0 (text_there (get_item among.0 items) name among.1)

of_table_there : (value : Data) (named : FeatureSetting) (name : List ℕ) → features_of_table.means value named → Contains named.features.unknown name → IsSome (get name value)
of_table_there (table held) named name (features, means, is) there = key_there held features name means (rw is at there)
of_table_there value named name means there = search rules

name_there : (edition : Edition) (value : Data) (named : FeatureSetting) (name : List ℕ) → (features_under edition).means value named → Contains named.features.unknown name
    → ((place : ℕ) → IsNameAt value name place → ⊥) → IsSome (get name value)
name_there ArrayAllowed (array items) named name (features, means, is) there none = absurd (element_there items features name means (rw is at there) none)
name_there ArrayAllowed value named name means there none = of_table_there value named name means there
name_there TableOnly (array items) named name means there none = absurd means
name_there TableOnly value named name means there none = of_table_there value named name means there

step_there : (edition : Edition) (value : Data) (named : FeatureSetting) (name : List ℕ) (step : PathStep) → (features_under edition).means value named
    → Contains named.features.unknown name → IsStepTo value name step → IsSome (step_from value step)
step_there edition value named name (index place) means there is = some_before as_str (step_from value (index place)) name is.0
step_there edition value named name (key text) means there is = rw is.1 (name_there edition value named name means there is.0)

tools_lead : (top : Members) (path : List PathStep) (features : Features) (here : List Found) → IsSome (found_in top path) → AreToolsFound path features here
    → AllByRecursion (LeadsToValue top) here
tools_lead top path features here leads (inl (none, are)) = rw are tt
tools_lead top path features here leads (inr (some, (found_names, of_names, are))) = rw are (leads, tt)

names_lead : (edition : Edition) (top : Members) (path : List PathStep) (value : Data) (named : FeatureSetting) → found_in top path ≡ Some value → (features_under edition).means value named
    → (here : List Found) → AreFoundIn (IsNameFound path value) named.features.unknown here → AllByRecursion (LeadsToValue top) here
names_lead edition top path value named is means here are =
    each_found (LeadsToValue top) (Contains named.features.unknown) (IsNameFound path value)
    (λ name found there (step, hint, leads, nearest, so). rw so (step_leads top path step value is (step_there edition value named name step means there leads), tt))
    named.features.unknown here (recursion_from_All (Contains named.features.unknown) named.features.unknown (All-contains_itself named.features.unknown)) are

-- a value that names features stands at its path
named_there : (edition : Edition) (top : Members) (path : List PathStep) (subject : Subject) (value : Data) (named : FeatureSetting) → IsPlacedAt top path subject
    → NamesFeatures edition subject value named → found_in top path ≡ Some value
named_there edition top path subject value named placed (is, means) = subst (IsPlacedAt top path) is placed

features_lead : (edition : Edition) (kind : ConfigSourceKind) (top : Members) (setting : SettingView) (here : List Found) → IsPlaced top setting
    → AreFeaturesFound edition kind setting here → AllByRecursion (LeadsToValue top) here
features_lead edition kind top setting here is (accepted, so, are) = rw are tt
features_lead edition kind top setting here is (faulty fault, so, are) = rw are tt
features_lead edition kind top setting here is (left_open fault, so, are) = rw are tt
features_lead edition kind top setting here is (miswritten fault, so, are) = rw are tt
features_lead edition (Tool name) top setting here is (names_features value named, so, are) =
    tools_lead top setting.path named.features here (some_is _ value (named_there edition top setting.path setting.subject value named is so)) are
features_lead edition kind top setting here is (names_features value named, so, are) =
    names_lead edition top setting.path value named (named_there edition top setting.path setting.subject value named is so) so.1 here are

-- ---- of notes

array_leads : (top : Members) (path : List PathStep) (is_array : Bool) (named : List ℕ) → IsSome (found_in top path)
    → AllByRecursion (LeadsToValue top) (if is_array then found_at path (deprecated_array named) ∷ [] else [])
array_leads top path true named leads = (leads, tt)
array_leads top path false named leads = tt

-- what isn't judged of a value stands at its path
open_leads : (edition : Edition) (top : Members) (path : List PathStep) (subject : Subject) (fault : Fault) → IsPlacedAt top path subject → IsWrong edition subject fault → IsLeftOpen subject fault
    → IsSome (found_in top (path ++ fault.steps))
open_leads edition top path (a_value shape parts value) fault placed wrong left =
    rw (ap (λ (steps : List PathStep). path ++ steps) (shape_here edition shape value fault wrong).0 ∙ append-nil path) (some_is _ value placed)
open_leads edition top path subject fault placed wrong left = absurd left

notes_lead : (edition : Edition) (kind : ConfigSourceKind) (top : Members) (setting : SettingView) (here : List Found) → IsPlaced top setting
    → AreNotesFound edition kind setting here → AllByRecursion (LeadsToValue top) here
notes_lead edition kind top setting here is (accepted, so, are) = rw are tt
notes_lead edition kind top setting here is (faulty fault, so, are) = rw are tt
notes_lead edition kind top setting here is (miswritten fault, so, are) = rw are tt
notes_lead edition kind top setting here is (left_open fault, so, are) =
    rw are (open_leads edition top setting.path setting.subject fault is so.0 so.1, tt)
notes_lead edition (Tool name) top setting here is (names_features value named, so, are) = rw are tt
notes_lead edition kind top setting here is (names_features value named, so, are) =
    rw are (array_leads top setting.path named.array (features_text named.features.known) (some_is _ value (named_there edition top setting.path setting.subject value named is so)))

-- ---- of keys

-- the key is one of a table that its path leads to
abbrev IsKeyPlaced : Members → TableKey → Type 0
IsKeyPlaced top setting = IsSome (found_in top (setting.path ++ (key setting.name ∷ [])))

all_keys : {X A : Type 0} (P : X → Type 0) (Q : A → Type 0) (f : X → A) → ((x : X) → P x → Q (f x)) → (xs : List X) → AllByRecursion P xs → AllByRecursion Q (map f xs)
all_keys P Q f each [] h = tt
all_keys P Q f each (x ∷ xs) h = (each x h.0, all_keys P Q f each xs h.1)

among_placed : (top : Members) (known : Option (List (List ℕ))) (path : List PathStep) (held : Members) → LeadOn top path held
    → AllByRecursion (IsKeyPlaced top) (keys_among known path held)
among_placed top None path held leads = tt
among_placed top (Some known) path held leads =
    all_keys (λ name. IsSome (get_member name held)) (IsKeyPlaced top) (key_at known path) (key_placed top path held leads) (names_of held) (names_have held)

keys_below_placed : (top : Members) (parts : Parts) (path : List PathStep) (value : Data) → found_in top path ≡ Some value → AllByRecursion (IsKeyPlaced top) (keys_below parts path value)
keys_below_placed top parts path (table held) is = among_placed top (known_words parts) path held (λ name value at. one_step top path (key name) (table held) value is at)
keys_below_placed top parts path value is = tt

keys_in_placed : (top : Members) (path : List PathStep) (subject : Subject) → IsPlacedAt top path subject → AllByRecursion (IsKeyPlaced top) (keys_of_subject subject path)
keys_in_placed top path (a_value shape parts value) placed = keys_below_placed top parts path value placed
keys_in_placed top path subject placed = tt

all_keys_placed : (top : Members) → AllByRecursion (IsKeyPlaced top) (keys_of_document top)
all_keys_placed top =
    all_joined (IsKeyPlaced top) (keys_below file_table [] (table top)) (flat_map keys_in (settings_of top))
    (among_placed top (known_words file_table) [] top (first_step top))
    (all_of_each (IsKeyPlaced top) (IsPlaced top) keys_in (λ setting is. keys_in_placed top setting.path setting.subject is) (settings_of top) (all_placed top))

key_leads : (top : Members) (is_one : Bool) (setting : TableKey) (here : Option Found) → IsKeyPlaced top setting → IsKeyFoundFor is_one setting here
    → AllByRecursion (LeadsToValue top) (option_to_list here)
key_leads top true setting here placed is = rw is tt
key_leads top false setting here placed (hint, meant, is) = rw is (placed, tt)

-- ---- of references

-- steps behind a path lead on from the value that this leads to
on_from : (rest steps : List PathStep) (value : Data) (found : Option Data)
    → ((from : Data) → found_below rest from ≡ Some value → found_below (rest ++ steps) from ≡ found_below steps value)
    → option_and_then (found_below rest) found ≡ Some value → option_and_then (found_below (rest ++ steps)) found ≡ found_below steps value
on_from rest steps value None on is = absurd (none-some value is)
on_from rest steps value (Some from) on is = on from is

steps_below : (path steps : List PathStep) (value from : Data) → found_below path from ≡ Some value → found_below (path ++ steps) from ≡ found_below steps value
steps_below [] steps value from is = ap (found_below steps) (same_Some from value is)
steps_below (first ∷ rest) steps value from is = on_from rest steps value (step_from from first) (steps_below rest steps value) is

steps_lead : (top : Members) (path steps : List PathStep) (value : Data) → found_in top path ≡ Some value → found_in top (path ++ steps) ≡ found_below steps value
steps_lead top [] steps value is = absurd (none-some value is)
steps_lead top (key text ∷ rest) steps value is = on_from rest steps value (get_member text top) (steps_below rest steps value) is
steps_lead top (index place ∷ rest) steps value is = absurd (none-some value is)

-- what is told of a value stands at something in it
reported_there : (at : FileInList) (top : Members) (path : List PathStep) (subject : Subject) (reported : FoundKind) → IsSubjectReported at path subject (Some reported) → IsPlacedAt top path subject
    → IsSome (found_in top (path ++ steps_to reported))
reported_there at top path (a_value shape parts value) reported is placed = rw (steps_lead top path (steps_to reported) value placed) (reported_leads at path shape value reported is)
reported_there at top path subject reported is placed = absurd (cc is)

references_lead : (at : FileInList) (top : Members) (setting : SettingView) (here : Option Found) → IsPlaced top setting → IsReferenceFound at setting here
    → AllByRecursion (LeadsToValue top) (option_to_list here)
references_lead at top setting None placed is = tt
references_lead at top setting (Some found) placed (None, reported, is) = absurd (cc is)
references_lead at top setting (Some found) placed (Some said, reported, is) =
    let there = reference_at at setting (Some found) (Some said, reported, is) in
    let same : found ≡ placed_below setting.path said = same_Some found (placed_below setting.path said) is in
    (rw (there.2, same) (reported_there at top setting.path setting.subject said reported placed), tt)

-- ---- of all

pub findings_lead : (edition : Edition) (kind : ConfigSourceKind) (files : List ListFile) (position : ℕ) (top : Members) (all_found : List Found) → AreFindings edition kind files position top all_found
    → AllByRecursion (LeadsToValue top) all_found
findings_lead edition kind files position top all_found are =
    let of_faults = all_of_lists (LeadsToValue top) (IsPlaced top) (AreFaultsFound edition) (faults_lead edition top) (settings_of top) are.faults (all_placed top) are.of_faults in
    let of_features = all_of_lists (LeadsToValue top) (IsPlaced top) (AreFeaturesFound edition kind) (features_lead edition kind top) (settings_of top) are.features (all_placed top) are.of_features in
    let of_unknown = each_found (LeadsToValue top) (IsKeyPlaced top) IsKeyFound (λ setting. key_leads top (is_known setting.known setting.name) setting)
    (keys_of_document top) are.unknown (all_keys_placed top) are.of_unknown in
    let of_references = each_found (LeadsToValue top) (IsPlaced top) (IsReferenceFound (in_list edition files (file_with kind (Some top)) position)) (references_lead (in_list edition files (file_with kind (Some top)) position) top)
    (settings_of top) are.references (all_placed top) are.of_references in
    let of_notes = all_of_lists (LeadsToValue top) (IsPlaced top) (AreNotesFound edition kind) (notes_lead edition kind top) (settings_of top) are.notes (all_placed top) are.of_notes in
    rw are.whole (all_joined (LeadsToValue top) are.faults (are.features ++ (are.unknown ++ (are.references ++ are.notes))) of_faults
    (all_joined (LeadsToValue top) are.features (are.unknown ++ (are.references ++ are.notes)) of_features
    (all_joined (LeadsToValue top) are.unknown (are.references ++ are.notes) of_unknown
    (all_joined (LeadsToValue top) are.references are.notes of_references of_notes))))
