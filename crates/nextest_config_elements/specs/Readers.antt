-- Which type reads the values of a shape.
use Rattle.std.specs.Prelude.{Option, Some}
use Rattle.std.specs.Duration.{as_nanos}
use Rattle.toml.specs.Data.{Data}
use Rattle.nextest_config_values.specs.Duration.{duration_reading}
use Rattle.nextest_config_values.specs.Read.{bool_reading, count_reading, made_of, Reading, u32_reading, word_reading}
use Rattle.nextest_config_elements.specs.Junit.{flaky_fail_reading}
use Rattle.nextest_config_elements.specs.LeakTimeout.{leak_timeout_of, leak_timeout_reading, leak_timeout_reads_back, leak_timeout_results, leak_timeout_word}
use Rattle.nextest_config_elements.specs.MaxFail.{fail_fast_reading, max_fail_reading, terminate_reading}
use Rattle.nextest_config_elements.specs.Priority.{priority_reading}
use Rattle.nextest_config_elements.specs.ReportSkipPolicy.{report_skip_reading}
use Rattle.nextest_config_elements.specs.RetryPolicy.{backoff_reads_back, backoff_word, backoffs_in_order, flaky_result_reading, retry_policy_of, retry_policy_reading}
use Rattle.nextest_config_elements.specs.SlowTimeout.{slow_timeout_of, slow_timeout_reading, slow_timeout_reads_back, slow_timeout_results, slow_timeout_word}
use Rattle.nextest_config_elements.specs.TestThreads.{accepted_as, test_threads_reading}
use Rattle.nextest_config_elements.specs.ThreadsRequired.{threads_reading}
use Rattle.nextest_config_elements.specs.declared.field.Shape.{Shape}
use Rattle.nextest_config_elements.specs.declared.field.Shape.TheVariants as shapes

-- the type that reads a value: what is seen of it, and its reading, by which a value may say that
-- there is none; or no type does
pub data ReaderOf : Type 1 where
  unread : ReaderOf
  read_by : {X Y : Type 0} → (X → Y) → Reading Data (Option Y) → ReaderOf

-- a type of which no value says that there is none
abbrev pub read_always : {X Y : Type 0} → (X → Y) → Reading Data Y → ReaderOf
read_always seen reading = read_by seen (made_of Some reading)

-- a type of which all is seen
abbrev pub read_as_is : {X : Type 0} → Reading Data X → ReaderOf
read_as_is reading = read_always (λ it. it) reading

-- the type that reads the values of a shape (nextest's configuration reference)
abbrev pub reader_of : Shape → ReaderOf
reader_of shapes.Retries = read_by retry_policy_of retry_policy_reading
reader_of shapes.Backoff =
    read_as_is (word_reading backoffs_in_order backoff_word backoff_reads_back)
reader_of shapes.FlakyResult = read_as_is flaky_result_reading
reader_of shapes.ThreadsRequired = read_as_is threads_reading
reader_of shapes.FailFast = read_by (λ it. it) fail_fast_reading
reader_of shapes.MaxFail = read_as_is max_fail_reading
reader_of shapes.TerminateMode = read_as_is terminate_reading
reader_of shapes.SlowTimeout = read_by slow_timeout_of slow_timeout_reading
reader_of shapes.SlowTimeoutResult =
    read_as_is (word_reading slow_timeout_results slow_timeout_word slow_timeout_reads_back)
reader_of shapes.LeakTimeout = read_by leak_timeout_of leak_timeout_reading
reader_of shapes.LeakTimeoutResult =
    read_as_is (word_reading leak_timeout_results leak_timeout_word leak_timeout_reads_back)
reader_of shapes.Duration = read_always as_nanos duration_reading
reader_of shapes.ShortDuration = read_always as_nanos duration_reading
reader_of shapes.Priority = read_as_is priority_reading
reader_of shapes.Boolean = read_as_is bool_reading
reader_of shapes.U32 = read_as_is u32_reading
reader_of shapes.Count = read_as_is count_reading
reader_of shapes.ReportSkipPolicy = read_as_is report_skip_reading
reader_of shapes.FlakyFailStatus = read_as_is flaky_fail_reading
reader_of shapes.Threads = read_always accepted_as test_threads_reading
reader_of shape = unread

module _ {V O : Type 0} (answers : (X Y : Type 0) → (X → Y) → Reading Data (Option Y) → V → O
    → Type 0) (answers_unread : V → O → Type 0) where
  -- what a visitor answers for a type, or where no type reads the value
  abbrev pub IsAnswer : ReaderOf → V → O → Type 0
  IsAnswer unread visitor answer = answers_unread visitor answer
  IsAnswer (read_by {X} {Y} seen reading) visitor answer = answers X Y seen reading visitor answer
