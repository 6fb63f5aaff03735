-- What a profile gets of its report, and the report that this makes (nextest's documentation).
use Rattle.std.specs.Prelude.{◌≡◌, ℕ, codes, IsSome, List, [], ◌∷◌, Option, Some, None, option_map, string_bytes}
use Rattle.nextest_config_values.specs.Read.{bool_reading, made_of, text_reading}
use Rattle.nextest_config_elements.specs.Junit.{flaky_fail_reading, Report}
use Rattle.nextest_config_elements.specs.ReportSkipPolicy.{report_skip_reading}
use Rattle.nextest_config_profiles.specs.Profile.{Gets}
use Rattle.nextest_config_profiles.specs.declared.effective.Effective.{Effective}
use Rattle.nextest_config_profiles.specs.declared.effective.Effective.TheVariants as given
use Rattle.nextest_config_profiles.specs.declared.junit.EffectiveJunit.{EffectiveJunit}
use Rattle.nextest_config_profiles.specs.declared.junit.JunitFault.{JunitFault}
use Rattle.nextest_config_profiles.specs.declared.junit.JunitFault.TheVariants.{Memory, NotGiven}
use Rattle.nextest_config_profiles.specs.declared.profile.EffectiveProfile.{EffectiveProfile}

-- the path of a key in the `junit` table of a profile
abbrev pub junit_path : List ℕ → List (List ℕ)
junit_path key = codes "junit" ∷ key ∷ []

-- what the profile gets for each of the six settings of its report
pub record GetsJunit (profile : EffectiveProfile) (junit : EffectiveJunit) : Type 0 where
  pub of_path : Gets string_bytes (made_of Some text_reading) profile
      (junit_path (codes "path")) junit.path
  pub of_name : Gets string_bytes (made_of Some text_reading) profile
      (junit_path (codes "report-name")) junit.report_name
  pub of_success_output : Gets (λ truth. truth) (made_of Some bool_reading) profile
      (junit_path (codes "store-success-output")) junit.store_success_output
  pub of_failure_output : Gets (λ truth. truth) (made_of Some bool_reading) profile
      (junit_path (codes "store-failure-output")) junit.store_failure_output
  pub of_skipped : Gets (λ policy. policy) (made_of Some report_skip_reading) profile
      (junit_path (codes "report-skipped")) junit.report_skipped
  pub of_flaky_fail_status : Gets (λ status. status) (made_of Some flaky_fail_reading) profile
      (junit_path (codes "flaky-fail-status")) junit.flaky_fail_status

-- ---- the report

-- the value that is given for a setting, where there is one that is judged
abbrev pub value_in : {X : Type 0} → Effective X → Option X
value_in (given.Value profile x) = Some x
value_in other = None

-- the path that is given, or that nothing gives one
abbrev pub path_in : {X : Type 0} → Effective X → Option (Option X)
path_in (given.Value profile x) = Some (Some x)
path_in given.Nothing = Some None
path_in other = None

-- the six settings say all of a report: its path, or that it has none, and its five other parts
pub record SaysReport (junit : EffectiveJunit) (report : Report (Option (List ℕ))) : Type 0 where
  pub of_path : option_map (option_map string_bytes) (path_in junit.path) ≡ Some report.path
  pub of_name : option_map string_bytes (value_in junit.report_name) ≡ Some report.name
  pub of_success_output : value_in junit.store_success_output ≡ Some report.stores_success_output
  pub of_failure_output : value_in junit.store_failure_output ≡ Some report.stores_failure_output
  pub of_skipped : value_in junit.report_skipped ≡ Some report.skipped
  pub of_flaky_fail_status : value_in junit.flaky_fail_status ≡ Some report.flaky_fail_status

-- there is no report of which the six settings say all
abbrev pub SaysNone : EffectiveJunit → Type 0
SaysNone junit = (report : Report (Option (List ℕ))) → ¬ SaysReport junit report

-- the six settings say no report; or memory was refused to the path of the one that they say
abbrev pub IsJunitFault : EffectiveJunit → JunitFault → Type 0
IsJunitFault junit NotGiven = SaysNone junit
IsJunitFault junit Memory =
    (report : Report (Option (List ℕ))) × SaysReport junit report × IsSome report.path
