-- The setting `report-skipped`: which skipped tests are reported (nextest's configuration
-- reference).
use Rattle.std.specs.Prelude.{◌≡◌, ◌≢◌, ℕ, List, [], ◌∷◌, codes, Some}
use Rattle.std.proofs.Common.{rules}
use Rattle.toml.specs.Data.{Data}
use Rattle.nextest_config_values.specs.Read.{Reading, value_of, word_reading}
use Rattle.nextest_config_elements.specs.declared.report_skip_policy.MismatchReason.{MismatchReason}
use Rattle.nextest_config_elements.specs.declared.report_skip_policy.MismatchReason.TheVariants as reasons
use Rattle.nextest_config_elements.specs.declared.report_skip_policy.ReportSkipPolicy.{ReportSkipPolicy}
use Rattle.nextest_config_elements.specs.declared.report_skip_policy.ReportSkipPolicy.TheVariants as policies

-- ---- the words of the policies

-- the word of a policy of `report-skipped`
abbrev pub report_skip_word : ReportSkipPolicy → List ℕ
report_skip_word policies.None = codes "none"
report_skip_word policies.Ignored = codes "ignored"
report_skip_word policies.All = codes "all"

-- the policies of `report-skipped`, in the order of their words
abbrev pub report_skip_policies : List ReportSkipPolicy
report_skip_policies = policies.None ∷ policies.Ignored ∷ policies.All ∷ []

pub report_skip_reads_back : (policy : ReportSkipPolicy)
    → value_of report_skip_word report_skip_policies (report_skip_word policy) ≡ Some policy
report_skip_reads_back policy = search rules

-- the reading of `report-skipped`: the word of a policy
abbrev pub report_skip_reading : Reading Data ReportSkipPolicy
report_skip_reading = word_reading report_skip_policies report_skip_word report_skip_reads_back

-- ---- what they report

-- the reason is that the test's ignore status isn't the one asked for
abbrev pub IsIgnoreMismatch : MismatchReason → Type 0
IsIgnoreMismatch reason = reason ≡ reasons.Ignored

-- the reason is another than that the test is no benchmark
abbrev pub IsSubstantiveSkip : MismatchReason → Type 0
IsSubstantiveSkip reason = reason ≢ reasons.NotBenchmark

-- under this policy a test that is skipped for this reason is reported
abbrev pub IsReported : ReportSkipPolicy → MismatchReason → Type 0
IsReported policies.None reason = ⊥
IsReported policies.Ignored reason = IsIgnoreMismatch reason
IsReported policies.All reason = IsSubstantiveSkip reason
