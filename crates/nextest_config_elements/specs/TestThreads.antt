-- A number of threads that run tests: an integer other than 0, or a word (nextest's configuration
-- reference). Only its faults count.
use Rattle.std.specs.Prelude.{◌≢◌, zero, suc, ℕ, ℤ, pos, negsuc, List, codes}
use Rattle.std.proofs.Common.{inl, inr, refl}
use Rattle.toml.specs.Data.{as_integer, Data}
use Rattle.nextest_config_values.specs.Decisions.{IsDecided}
use Rattle.nextest_config_values.specs.Read.{kind, Reading}
use Rattle.nextest_config_elements.specs.Acceptance.{Acceptance, accepts_where, one_word}
use Rattle.nextest_config_elements.specs.declared.test_threads.TestThreads.{TestThreads}

-- what is seen of a number of threads: that it is accepted
abbrev pub accepted_as : TestThreads → Acceptance
accepted_as threads = tt

-- what is said to be expected where a number of threads is refused
abbrev pub test_threads_expected : List ℕ
test_threads_expected = codes "an integer other than 0 or the string \"num-cpus\""

pub nonzero_decided : (number : ℤ) → IsDecided (number ≢ pos 0)
nonzero_decided (pos zero) = inr (λ differs. differs refl)
nonzero_decided (pos (suc n)) = inl (λ same. cc same)
nonzero_decided (negsuc n) = inl (λ same. cc same)

-- an integer other than 0
abbrev pub test_threads_number : ℤ → Reading Data Acceptance
test_threads_number number =
    accepts_where (number ≢ pos 0) (nonzero_decided number) test_threads_expected

-- an integer other than 0, or the text `num-cpus` (TOML 1.1, "Integer" and "String")
abbrev pub test_threads_reading : Reading Data Acceptance
test_threads_reading =
    kind as_integer test_threads_number (one_word (codes "num-cpus") test_threads_expected)
