-- What a value of a shape may be, but for what stands in it: its texts, numbers and booleans, and
-- its words.
use Rattle.std.specs.Prelude.{ℕ, pos, negsuc, Bool, true, false, List, [], ◌∷◌, ◌++◌, codes, map, option_to_list, Option, Some, None}
use Rattle.serde_json.specs.Data.{Data}
use Rattle.nextest_config_elements.specs.Junit.{flaky_fail_statuses, flaky_fail_word}
use Rattle.nextest_config_elements.specs.LeakTimeout.{leak_timeout_results, leak_timeout_word}
use Rattle.nextest_config_elements.specs.MaxFail.{mode_word}
use Rattle.nextest_config_elements.specs.ReportSkipPolicy.{report_skip_policies, report_skip_word}
use Rattle.nextest_config_elements.specs.RetryPolicy.{backoff_word, backoffs_in_order, flaky_result_word, flaky_results}
use Rattle.nextest_config_elements.specs.SlowTimeout.{slow_timeout_results, slow_timeout_word}
use Rattle.nextest_config_elements.specs.WordList.{listed_words, unlisted_words}
use Rattle.nextest_config_elements.specs.declared.field.Shape.{Shape}
use Rattle.nextest_config_elements.specs.declared.field.Shape.TheVariants as shapes
use Rattle.nextest_config_elements.specs.declared.max_fail.TerminateMode.TheVariants.{Immediate, Wait}
use Rattle.nextest_config_elements.specs.declared.word_list.WordList.{WordList}
use Rattle.nextest_config_schema.specs.Patterns.{duration_pattern, path_pattern, version_pattern}
use Rattle.nextest_config_schema.specs.Values.{any_of, anything, at_least, between, matching, nonzero, of_type, one_of, scalar, some_text}
use Rattle.nextest_config_schema.specs.declared.schema_place.SchemaPlace.{SchemaPlace}
use Rattle.nextest_config_schema.specs.declared.schema_place.SchemaPlace.TheVariants.{Retries}

-- the texts, numbers or booleans of a shape, but for its words (nextest's configuration reference)
abbrev pub plain_kind : Shape → Option Data
plain_kind shapes.Any = Some anything
plain_kind shapes.Scalar = Some scalar
plain_kind shapes.Boolean = Some (of_type (codes "boolean"))
plain_kind shapes.FailFast = Some (of_type (codes "boolean"))
plain_kind shapes.FeatureName = Some (of_type (codes "string"))
plain_kind shapes.Text = Some (of_type (codes "string"))
plain_kind (shapes.Reference referent) = Some (of_type (codes "string"))
plain_kind (shapes.References referent) = Some (of_type (codes "string"))
plain_kind shapes.Filter = Some (of_type (codes "string"))
plain_kind shapes.DefaultFilter = Some (of_type (codes "string"))
plain_kind shapes.Platform = Some (of_type (codes "string"))
plain_kind shapes.PlatformText = Some (of_type (codes "string"))
plain_kind shapes.Command = Some some_text
plain_kind shapes.CommandLine = Some some_text
plain_kind shapes.NextestVersion = Some (matching version_pattern)
plain_kind shapes.VersionText = Some (matching version_pattern)
plain_kind shapes.Duration = Some (matching duration_pattern)
plain_kind shapes.ShortDuration = Some (matching duration_pattern)
plain_kind shapes.SlowTimeout = Some (matching duration_pattern)
plain_kind shapes.LeakTimeout = Some (matching duration_pattern)
plain_kind shapes.RelativePath = Some (matching path_pattern)
plain_kind shapes.Retries = Some (between (pos 0) (pos 4_294_967_295))
plain_kind shapes.U32 = Some (between (pos 0) (pos 4_294_967_295))
plain_kind shapes.Priority = Some (between (negsuc 99) (pos 100))
plain_kind shapes.Count = Some (at_least (pos 1))
plain_kind shapes.MaxFail = Some (at_least (pos 1))
plain_kind shapes.ThreadsRequired = Some (at_least (pos 1))
plain_kind shapes.Depth = Some (at_least (pos 0))
plain_kind shapes.Threads = Some nonzero
plain_kind shape = None

-- the words of backoffs: in a table of retries with a backoff its own alone
abbrev pub backoff_words : SchemaPlace → List (List ℕ)
backoff_words (Retries backoff) = backoff_word backoff ∷ []
backoff_words place = map backoff_word backoffs_in_order

-- the words of a list, those that are never listed among them
abbrev pub list_words : WordList → List (List ℕ)
list_words list = listed_words list ++ unlisted_words list

-- the words of a shape
abbrev pub word_kind : SchemaPlace → Shape → Option Data
word_kind place shapes.SlowTimeout = Some (one_of (codes "" ∷ []))
word_kind place shapes.MaxFail = Some (one_of (codes "all" ∷ []))
word_kind place shapes.ThreadsRequired =
    Some (one_of (codes "num-cpus" ∷ codes "num-test-threads" ∷ []))
word_kind place shapes.Threads = Some (one_of (codes "num-cpus" ∷ []))
word_kind place shapes.Depth = Some (one_of (codes "infinite" ∷ []))
word_kind place shapes.Backoff = Some (one_of (backoff_words place))
word_kind place shapes.FlakyResult = Some (one_of (map flaky_result_word flaky_results))
word_kind place shapes.TerminateMode = Some (one_of (map mode_word (Wait ∷ Immediate ∷ [])))
word_kind place shapes.SlowTimeoutResult =
    Some (one_of (map slow_timeout_word slow_timeout_results))
word_kind place shapes.LeakTimeoutResult =
    Some (one_of (map leak_timeout_word leak_timeout_results))
word_kind place shapes.ReportSkipPolicy =
    Some (one_of (map report_skip_word report_skip_policies))
word_kind place shapes.FlakyFailStatus = Some (one_of (map flaky_fail_word flaky_fail_statuses))
word_kind place (shapes.Word list) = Some (one_of (list_words list))
word_kind place shape = None

-- a value of a shape, with the schemas of the tables and arrays that it may be
abbrev pub schema_with : SchemaPlace → Shape → List Data → Data
schema_with place shape kinds =
    any_of (option_to_list (plain_kind shape) ++ option_to_list (word_kind place shape) ++ kinds)

-- an array of this shape may be without elements
abbrev pub may_be_empty : Shape → Bool
may_be_empty shapes.Command = false
may_be_empty shapes.CommandLine = false
may_be_empty shape = true
