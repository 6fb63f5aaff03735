-- What is wrong with a value by its shape stands at the value itself.
use Rattle.std.specs.Prelude.{◌≡◌, ℕ, ℤ, pos, negsuc, true, false, List, [], ◌∷◌, codes, IsSome, None, Option, Some}
use Rattle.std.proofs.Common.{inl, inr, refl, subst, sym}
use Rattle.toml.specs.Data.{array, as_bool, as_integer, as_str, as_table, boolean, Data, float, get_member, integer, Members, string, table}
use Rattle.toml_spans.specs.Line.{step_from}
use Rattle.toml_spans.specs.Step.{key}
use Rattle.nextest_config_values.specs.Duration.{duration_reading}
use Rattle.nextest_config_values.specs.Decisions.{IsDecided}
use Rattle.nextest_config_values.specs.Read.Fault.{BrokenRule, build_metadata, Fault, not_version, pre_release}
use Rattle.nextest_config_values.specs.Read.{bool_reading, broken_by, count_zero, delay_zero, either, jitter_without_delay, made_of, max_delay_below_delay, max_delay_zero, optional, or_default, Reading, required, required_above_recommended, u32_reading, meaning, number_reading, reason_at, text_reading, value_of, word_reading}
use Rattle.nextest_config_values.specs.Read.Plain.{count_decided, IsCount, IsU32, u32_decided}
use Rattle.nextest_config.specs.NextestVersion.{IsVersionFault, recommended_key, version_reading, version_text, versions_reading}
use Rattle.nextest_config.specs.declared.nextest_version.edition.Edition.{Edition}
use Rattle.nextest_config.specs.declared.nextest_version.edition.Edition.TheVariants.{ArrayAllowed, TableOnly}
use Rattle.nextest_config_elements.specs.LeakTimeout.{leak_timeout_reading, leak_timeout_reads_back, leak_timeout_results, leak_timeout_word}
use Rattle.nextest_config_elements.specs.MaxFail.{fail_fast_reading, max_fail_reading}
use Rattle.nextest_config_elements.specs.Priority.{priority_in, priority_reading}
use Rattle.nextest_config_elements.specs.RetryPolicy.{backoff_reads_back, backoff_word, backoffs_in_order, count_key, delay_key, jitter_key, max_delay_key, retry_number, retry_policy_reading}
use Rattle.nextest_config_elements.specs.RetryRules.{backoff_in, rules_by}
use Rattle.nextest_config_elements.specs.declared.retry_policy.Backoff.{Backoff}
use Rattle.nextest_config_elements.specs.declared.retry_policy.Backoff.TheVariants.{Exponential, Fixed}
use Rattle.nextest_config_elements.specs.SlowTimeout.{slow_timeout_reading, slow_timeout_reads_back, slow_timeout_results, slow_timeout_word}
use Rattle.nextest_config_elements.specs.Acceptance.{one_word}
use Rattle.nextest_config_elements.specs.TestThreads.{test_threads_reading}
use Rattle.nextest_config_elements.specs.ThreadsRequired.{threads_reading}
use Rattle.nextest_config_elements.specs.declared.field.Shape.{Shape}
use Rattle.nextest_config_elements.specs.declared.field.Shape.TheVariants as shapes
use Rattle.nextest_config_lint.proofs.FaultsOf.{AllFaults, by_kind, no_fault}
use Rattle.nextest_config_lint.specs.File.{reason_key, rule_key}
use Rattle.nextest_config_lint.specs.Shapes.Forms.{depth_form, line_form, line_or_table_expected, platform_form, scalar_form, texts_expected, texts_form}
use Rattle.nextest_config_values.specs.Helpers.PathsLaws.{relative_path_reading}
use Rattle.nextest_config_lint.specs.Rules.{rules_check}
use Rattle.nextest_config_lint.specs.declared.settings.Rules.{Rules}
use Rattle.nextest_config_lint.specs.declared.settings.Rules.TheVariants as rules_of
use Rattle.nextest_config_lint.specs.Shapes.{feature_name_check, features_check, or_table, shape_check}

-- the fault is of the value itself, and of no key of it
abbrev pub IsHere : Fault → Type 0
IsHere fault = (fault.steps ≡ []) × ((path : List ℕ) → reason_key (reason_at path fault.cause) ≡ None)

-- ---- the faults themselves

here : (refused : Fault) → IsHere refused → AllFaults IsHere (λ fault. fault ≡ refused)
here refused is fault same = subst IsHere (sym same) is

here_if : (Holds : Type 0) (refused : Fault) → IsHere refused → AllFaults IsHere (λ fault. Holds × (fault ≡ refused))
here_if Holds refused is fault a = here refused is fault a.1

-- ---- plain values

text : (value : Data) → AllFaults IsHere (text_reading.faults value)
text value = by_kind IsHere _ _ (as_str value) (λ held is. no_fault IsHere) (here _ (refl, λ path. refl))

truth : (value : Data) → AllFaults IsHere (bool_reading.faults value)
truth value = by_kind IsHere _ _ (as_bool value) (λ held is. no_fault IsHere) (here _ (refl, λ path. refl))

word : {X : Type 0} (all : List X) (spelled : X → List ℕ) (reads_back : (x : X) → value_of spelled all (spelled x) ≡ Some x)
    → (value : Data) → AllFaults IsHere ((word_reading all spelled reads_back).faults value)
word all spelled reads_back value = by_kind IsHere _ _ (as_str value) (λ held is. here_if _ _ (refl, λ path. refl)) (here _ (refl, λ path. refl))

number : (IsIn : ℕ → Type 0) (decided : (number : ℕ) → IsDecided (IsIn number)) (expected : List ℕ) (value : Data) → AllFaults IsHere ((number_reading IsIn decided expected).faults value)
number IsIn decided expected value = by_kind IsHere _ _ (as_integer value) (λ held is. here_if _ _ (refl, λ path. refl)) (here _ (refl, λ path. refl))

duration : (value : Data) → AllFaults IsHere (duration_reading.faults value)
duration value = by_kind IsHere _ _ (as_str value) (λ held is. here_if _ _ (refl, λ path. refl)) (here _ (refl, λ path. refl))

scalar : (value : Data) → AllFaults IsHere (scalar_form.faults value)
scalar (string held) = no_fault IsHere
scalar (boolean held) = no_fault IsHere
scalar (integer held) = no_fault IsHere
scalar (float held) = no_fault IsHere
scalar value = here _ (refl, λ path. refl)

texts : (value : Data) → AllFaults IsHere (texts_form.faults value)
texts (string held) = no_fault IsHere
texts (array held) = no_fault IsHere
texts value = here _ (refl, λ path. refl)

line : (expected : List ℕ) (value : Data) → AllFaults IsHere ((line_form expected).faults value)
line expected (string held) = here_if _ _ (refl, λ path. refl)
line expected (array held) = here_if _ _ (refl, λ path. refl)
line expected value = here _ (refl, λ path. refl)

relative_path : (value : Data) → AllFaults IsHere (relative_path_reading.faults value)
relative_path value = by_kind IsHere _ _ (as_str value) (λ held is. here_if _ _ (refl, λ path. refl)) (here _ (refl, λ path. refl))

this_word : (held expected : List ℕ) (value : Data) → AllFaults IsHere ((one_word held expected).faults value)
this_word held expected value = by_kind IsHere _ _ (as_str value) (λ text is. here_if _ _ (refl, λ path. refl)) (here _ (refl, λ path. refl))

depth : (value : Data) → AllFaults IsHere (depth_form.faults value)
depth value = by_kind IsHere _ _ (as_integer value) (λ held is. here_if _ _ (refl, λ path. refl)) (this_word _ _ value)

test_threads : (value : Data) → AllFaults IsHere (test_threads_reading.faults value)
test_threads value = by_kind IsHere _ _ (as_integer value) (λ held is. here_if _ _ (refl, λ path. refl)) (this_word _ _ value)

threads_required : (value : Data) → AllFaults IsHere (threads_reading.faults value)
threads_required value =
    by_kind IsHere _ _ (as_integer value) (λ held is. here_if _ _ (refl, λ path. refl))
    (by_kind IsHere _ _ (as_str value) (λ held is. here_if _ _ (refl, λ path. refl)) (here _ (refl, λ path. refl)))

max_fail : (value : Data) → AllFaults IsHere (max_fail_reading.faults value)
max_fail value =
    by_kind IsHere _ _ (as_integer value) (λ held is. here_if _ _ (refl, λ path. refl))
    (by_kind IsHere _ _ (as_str value) (λ held is fault a. here _ (refl, λ path. refl) fault a.3) (here _ (refl, λ path. refl)))

priority_number : (held : ℤ) (value : Data) → AllFaults IsHere ((priority_in held).faults value)
priority_number held value fault (inl a) = here _ (refl, λ path. refl) fault a.1
priority_number held value fault (inr a) = here _ (refl, λ path. refl) fault a.2

priority : (value : Data) → AllFaults IsHere (priority_reading.faults value)
priority value = by_kind IsHere _ _ (as_integer value) (λ held is. priority_number held value) (here _ (refl, λ path. refl))

version_rule : (text : List ℕ) (rule : BrokenRule) → IsVersionFault text rule → rule_key rule ≡ None
version_rule text pre_release h = refl
version_rule text build_metadata h = refl
version_rule text (not_version written) h = refl
version_rule text rule h = absurd h

version_held : (held : List ℕ) → AllFaults IsHere (version_text.faults held)
version_held held fault (rule, broken, is) = here (broken_by rule) (refl, λ path. version_rule held rule broken) fault is

version : (value : Data) → AllFaults IsHere (version_reading.faults value)
version value = by_kind IsHere _ _ (as_str value) (λ held is. version_held held) (here _ (refl, λ path. refl))

platform : (value : Data) → AllFaults IsHere (platform_form.faults value)
platform (string held) = no_fault IsHere
platform (table held) = no_fault IsHere
platform value = here _ (refl, λ path. refl)

-- ---- values beside a table

versions : (value : Data) → AllFaults IsHere ((or_table (meaning versions_reading)).faults value)
versions (table held) = no_fault IsHere
versions (string held) = version_held held
versions value = here _ (refl, λ path. refl)

retry_count : (held : ℤ) (value : Data) → AllFaults IsHere ((retry_number held).faults value)
retry_count (pos held) value = here_if _ _ (refl, λ path. refl)
retry_count (negsuc held) value = here _ (refl, λ path. refl)

retries : (value : Data) → AllFaults IsHere ((or_table (meaning retry_policy_reading)).faults value)
retries (table held) = no_fault IsHere
retries (integer held) = retry_count held (integer held)
retries value = here _ (refl, λ path. refl)

fail_fast : (value : Data) → AllFaults IsHere ((or_table (meaning fail_fast_reading)).faults value)
fail_fast (table held) = no_fault IsHere
fail_fast (boolean held) = no_fault IsHere
fail_fast value = here _ (refl, λ path. refl)

slow_timeout : (value : Data) → AllFaults IsHere ((or_table (meaning slow_timeout_reading)).faults value)
slow_timeout (table held) = no_fault IsHere
slow_timeout (string []) = no_fault IsHere
slow_timeout (string (b ∷ rest)) = duration (string (b ∷ rest))
slow_timeout value = here _ (refl, λ path. refl)

leak_timeout : (value : Data) → AllFaults IsHere ((or_table (meaning leak_timeout_reading)).faults value)
leak_timeout (table held) = no_fault IsHere
leak_timeout (string held) = duration (string held)
leak_timeout value = here _ (refl, λ path. refl)

experimental : (edition : Edition) (value : Data) → AllFaults IsHere ((features_check edition).faults value)
experimental ArrayAllowed (table held) = no_fault IsHere
experimental ArrayAllowed (array held) = no_fault IsHere
experimental ArrayAllowed value = here _ (refl, λ path. refl)
experimental TableOnly (table held) = no_fault IsHere
experimental TableOnly value = here _ (refl, λ path. refl)

feature_name : (edition : Edition) (value : Data) → AllFaults IsHere ((feature_name_check edition).faults value)
feature_name ArrayAllowed value = text value
feature_name TableOnly value = no_fault IsHere

-- ---- of all shapes

pub shape_here : (edition : Edition) (shape : Shape) (value : Data) → AllFaults IsHere ((shape_check edition shape).faults value)
shape_here edition shapes.Any value = no_fault IsHere
shape_here edition shapes.Table value = here_if _ _ (refl, λ path. refl)
shape_here edition (shapes.RuledTable rule) value = here_if _ _ (refl, λ path. refl)
shape_here edition shapes.Array value = here_if _ _ (refl, λ path. refl)
shape_here edition shapes.NextestVersion value = versions value
shape_here edition shapes.VersionText value = version value
shape_here edition shapes.Experimental value = experimental edition value
shape_here edition shapes.FeatureName value = feature_name edition value
shape_here edition shapes.Retries value = retries value
shape_here edition shapes.Backoff value = word backoffs_in_order backoff_word backoff_reads_back value
shape_here edition shapes.FlakyResult value = by_kind IsHere _ _ (as_str value) (λ held is. here_if _ _ (refl, λ path. refl)) (here _ (refl, λ path. refl))
shape_here edition shapes.ThreadsRequired value = threads_required value
shape_here edition shapes.FailFast value = fail_fast value
shape_here edition shapes.MaxFail value = max_fail value
shape_here edition shapes.TerminateMode value = by_kind IsHere _ _ (as_str value) (λ held is. here_if _ _ (refl, λ path. refl)) (here _ (refl, λ path. refl))
shape_here edition shapes.SlowTimeout value = slow_timeout value
shape_here edition shapes.SlowTimeoutResult value = word slow_timeout_results slow_timeout_word slow_timeout_reads_back value
shape_here edition shapes.LeakTimeout value = leak_timeout value
shape_here edition shapes.LeakTimeoutResult value = word leak_timeout_results leak_timeout_word leak_timeout_reads_back value
shape_here edition shapes.Duration value = duration value
shape_here edition shapes.ShortDuration value = duration value
shape_here edition shapes.Priority value = priority value
shape_here edition shapes.Boolean value = truth value
shape_here edition shapes.U32 value = number IsU32 u32_decided (codes "u32") value
shape_here edition shapes.Count value = number IsCount count_decided (codes "a nonzero usize") value
shape_here edition shapes.ReportSkipPolicy value = by_kind IsHere _ _ (as_str value) (λ held is. here_if _ _ (refl, λ path. refl)) (here _ (refl, λ path. refl))
shape_here edition shapes.FlakyFailStatus value = by_kind IsHere _ _ (as_str value) (λ held is. here_if _ _ (refl, λ path. refl)) (here _ (refl, λ path. refl))
shape_here edition shapes.Text value = text value
shape_here edition (shapes.Reference referent) value = text value
shape_here edition shapes.Filter value = text value
shape_here edition shapes.DefaultFilter value = text value
shape_here edition shapes.Texts value = here_if _ _ (refl, λ path. refl)
shape_here edition shapes.Threads value = test_threads value
shape_here edition shapes.Platform value = platform value
shape_here edition shapes.PlatformText value = text value
shape_here edition (shapes.Word list) value = by_kind IsHere _ _ (as_str value) (λ held is. here_if _ _ (refl, λ path. refl)) (here _ (refl, λ path. refl))
shape_here edition shapes.Scalar value = scalar value
shape_here edition (shapes.References referent) value = texts value
shape_here edition shapes.Command value = by_kind IsHere _ _ (as_table value) (λ held is. no_fault IsHere) (line line_or_table_expected value)
shape_here edition shapes.CommandLine value = line texts_expected value
shape_here edition shapes.RelativePath value = relative_path value
shape_here edition shapes.Depth value = depth value

-- ---- of rules

-- the fault is of this key of the value
abbrev pub IsAtKey : List ℕ → Fault → Type 0
IsAtKey name fault = (fault.steps ≡ []) × ((path : List ℕ) → reason_key (reason_at path fault.cause) ≡ Some name)

-- where the key of a table means something, it is there
required_there : {X : Type 0} (name : List ℕ) (reading : Reading Data X) (held : Members) (x : X) → (required name reading).means held x → IsSome (get_member name held)
required_there name reading held x meant = some_by (get_member name held) meant
  where
    some_by : (found : Option Data) → either found (λ value. reading.means value) (λ x. ⊥) x → IsSome found
    some_by (Some value) meant = refl
    some_by None meant = absurd meant

optional_there : {X : Type 0} (name : List ℕ) (reading : Reading Data X) (held : Members) (x : X) → (optional name reading).means held (Some x) → IsSome (get_member name held)
optional_there name reading held x meant = some_by (get_member name held) meant
  where
    some_by : (found : Option Data) → either found (λ value. (made_of Some reading).means value) (λ o. o ≡ None) (Some x) → IsSome found
    some_by (Some value) meant = refl
    some_by None meant = absurd (cc meant)

jitter_there : (held : Members) → (or_default jitter_key false bool_reading).means held true → IsSome (get_member jitter_key held)
jitter_there held meant = some_by (get_member jitter_key held) meant
  where
    some_by : (found : Option Data) → either found (λ value. bool_reading.means value) (λ b. b ≡ false) true → IsSome found
    some_by (Some value) meant = refl
    some_by None meant = absurd (cc meant)

-- the fault is of a key that the table has
abbrev StandsAtKey : Members → Fault → Type 0
StandsAtKey held fault = (name : List ℕ) × IsAtKey name fault × IsSome (get_member name held)

-- a rule that is broken is told at this key
at_rule_key : (held : Members) (broken : BrokenRule) (name : List ℕ) (fault : Fault) → rule_key broken ≡ Some name → fault ≡ broken_by broken → IsSome (get_member name held)
    → StandsAtKey held fault
at_rule_key held broken name fault at is there = (name, subst (IsAtKey name) (sym is) (refl, λ path. at), there)

retries_at_key : (backoff : Option Backoff) (held : Members) (fault : Fault) → (rules_by backoff).faults held fault → StandsAtKey held fault
retries_at_key None held fault wrong = absurd wrong
retries_at_key (Some Fixed) held fault (lacks, is) = at_rule_key held jitter_without_delay jitter_key fault refl is (jitter_there held lacks.0)
retries_at_key (Some Exponential) held fault (inl (zero, is)) = at_rule_key held count_zero count_key fault refl is (required_there count_key u32_reading held 0 zero)
retries_at_key (Some Exponential) held fault (inr (kept, inl (zero, is))) = at_rule_key held delay_zero delay_key fault refl is (required_there delay_key duration_reading held 0 zero)
retries_at_key (Some Exponential) held fault (inr (kept, inr (also, inl (zero, is)))) =
    at_rule_key held max_delay_zero max_delay_key fault refl is (required_there max_delay_key duration_reading held 0 zero)
retries_at_key (Some Exponential) held fault (inr (kept, inr (also, inr (too, ((max, there, (delay, at, below)), is))))) =
    at_rule_key held max_delay_below_delay max_delay_key fault refl is (required_there max_delay_key duration_reading held max there)

table_rules_at_key : (rules : Rules) (held : Members) (fault : Fault) → (rules_check rules).faults (table held) fault → StandsAtKey held fault
table_rules_at_key rules_of.Versions held fault out =
    at_rule_key held (required_above_recommended out.required out.recommended) recommended_key fault refl out.is (optional_there recommended_key version_reading held out.recommended out.there.1)
table_rules_at_key rules_of.Retries held fault wrong = retries_at_key (backoff_in held) held fault wrong

-- and so is a rule between the keys of a value
pub rules_at_key : (rules : Rules) (value : Data) (fault : Fault) → (rules_check rules).faults value fault → (name : List ℕ) × IsAtKey name fault × IsSome (step_from value (key name))
rules_at_key rules (table held) fault wrong = table_rules_at_key rules held fault wrong
rules_at_key rules_of.Versions value fault wrong = absurd wrong
rules_at_key rules_of.Retries value fault wrong = absurd wrong
