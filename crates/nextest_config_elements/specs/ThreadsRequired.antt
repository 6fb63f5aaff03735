-- The setting `threads-required`: a positive integer, or one of two words (nextest's configuration
-- reference).
use Rattle.std.specs.Prelude.{◌≡◌, ℕ, List, codes, Option, Some, None}
use Rattle.std.proofs.Common.{ap, inl, inr, rules, sym}
use Rattle.toml.specs.Data.{Data, as_integer, as_str}
use Rattle.nextest_config_values.specs.Decisions.{IsFoundOrNone, same_text_decided}
use Rattle.nextest_config_values.specs.Read.Plain.{count_decided}
use Rattle.nextest_config_values.specs.Read.{in_range, IsCount, kind, made_of, one_that, Reading, wrong_kind, wrong_value}
use Rattle.nextest_config_elements.specs.declared.threads_required.ThreadsRequired.{ThreadsRequired}
use Rattle.nextest_config_elements.specs.declared.threads_required.ThreadsRequired.TheVariants.{Count, NumCpus, NumTestThreads}

-- the number of threads, of so many that run tests and so many processors
abbrev pub thread_count : ℕ → ℕ → ThreadsRequired → ℕ
thread_count test_threads num_cpus (Count count) = count
thread_count test_threads num_cpus NumCpus = num_cpus
thread_count test_threads num_cpus NumTestThreads = test_threads

-- the word of a setting that isn't a count
abbrev pub threads_text : ThreadsRequired → Option (List ℕ)
threads_text (Count count) = None
threads_text NumCpus = Some (codes "num-cpus")
threads_text NumTestThreads = Some (codes "num-test-threads")

-- what `threads-required` takes, as a refusal says it
abbrev pub threads_expected : List ℕ
threads_expected = codes "an integer, the string \"num-cpus\" or the string \"num-test-threads\""

pub one_threads : (held : List ℕ) (x y : ThreadsRequired) → threads_text x ≡ Some held
    → threads_text y ≡ Some held → x ≡ y
one_threads held x y a b = search rules

neither : (held : List ℕ) → ¬ (held ≡ codes "num-cpus") → ¬ (held ≡ codes "num-test-threads")
    → (threads : ThreadsRequired) → ¬ (threads_text threads ≡ Some held)
neither held not_cpus not_threads (Count count) same = cc same
neither held not_cpus not_threads NumCpus same = not_cpus (cc same)
neither held not_cpus not_threads NumTestThreads same = not_threads (cc same)

pub threads_or_none : (held : List ℕ) → IsFoundOrNone (λ threads. threads_text threads ≡ Some held)
threads_or_none held = elim (same_text_decided held (codes "num-cpus")) [
  | inl same ↦ inl (NumCpus, ap Some (sym same))
  | inr not_cpus ↦ elim (same_text_decided held (codes "num-test-threads")) [
    | inl same ↦ inl (NumTestThreads, ap Some (sym same))
    | inr not_threads ↦ inr (neither held not_cpus not_threads)
  ]
]

-- the reading of `threads-required` by a text that is held: it is one of the words
abbrev pub threads_in : List ℕ → Reading Data ThreadsRequired
threads_in held = one_that (λ threads. threads_text threads ≡ Some held) (one_threads held)
    (threads_or_none held) (λ value. wrong_value value threads_expected)

-- the reading of `threads-required`: an integer that is a count, or a word
abbrev pub threads_reading : Reading Data ThreadsRequired
threads_reading =
    kind as_integer
    (λ number. made_of Count (in_range IsCount count_decided threads_expected number))
    (kind as_str threads_in (wrong_kind threads_expected))
