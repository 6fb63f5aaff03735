-- The setting `junit`, and the report that a profile writes by it.
use Rattle.std.specs.Prelude.{◌≡◌, ◌⊎◌, ℕ, Bool, true, false, List, [], ◌∷◌, codes, Option, Some, None, IsSome, option_map, string_bytes}
use Rattle.std.proofs.Common.{rules}
use Rattle.toml.specs.Data.{boolean, Data, Members, as_table}
use Rattle.nextest_config_values.specs.Helpers.Paths.{joined_path}
use Rattle.nextest_config_values.specs.Read.{bool_reading, inner, kind, made_of, optional, Reading, text_reading, then, value_of, word_reading, wrong_kind}
use Rattle.nextest_config_elements.specs.Fields.{allowed_or, Fields, inherited, inherited_text, no_fields, nothing, plain}
use Rattle.nextest_config_elements.specs.ReportSkipPolicy.{report_skip_reading}
use Rattle.nextest_config_elements.specs.declared.field.FaultSeverity.TheVariants.{Error, ErrorUnlessConverted}
use Rattle.nextest_config_elements.specs.declared.field.Shape.TheVariants as shapes
use Rattle.nextest_config_elements.specs.declared.junit.DefaultJunitImpl.{DefaultJunitImpl}
use Rattle.nextest_config_elements.specs.declared.junit.JunitConfig.{JunitConfig}
use Rattle.nextest_config_elements.specs.declared.junit.JunitFlakyFailStatus.{JunitFlakyFailStatus}
use Rattle.nextest_config_elements.specs.declared.junit.JunitFlakyFailStatus.TheVariants.{Failure, Success}
use Rattle.nextest_config_elements.specs.declared.junit.JunitImpl.{JunitImpl}
use Rattle.nextest_config_elements.specs.declared.junit.JunitSettings.{JunitSettings}
use Rattle.nextest_config_elements.specs.declared.junit.MissingSetting.{MissingSetting}
use Rattle.nextest_config_elements.specs.declared.junit.MissingSetting.TheVariants as missing
use Rattle.nextest_config_elements.specs.declared.report_skip_policy.ReportSkipPolicy.{ReportSkipPolicy}

-- ---- the report

-- what is written in a report, and where to: a path, or one that may be missing
pub record Report (P : Type 0) : Type 0 where
  pub path : P
  pub name : List ℕ
  pub stores_success_output : Bool
  pub stores_failure_output : Bool
  pub skipped : ReportSkipPolicy
  pub flaky_fail_status : JunitFlakyFailStatus

-- what the settings of a report say, whose path may be missing
abbrev pub settings_of : JunitSettings → Report (Option (List ℕ))
settings_of s = record {
  path = option_map (λ path. path.now) s.path;
  name = s.report_name.now;
  stores_success_output = s.store_success_output;
  stores_failure_output = s.store_failure_output;
  skipped = s.report_skipped;
  flaky_fail_status = s.flaky_fail_status;
}

-- what the configuration of a report says
abbrev pub report_of : JunitConfig → Report (List ℕ)
report_of config = record {
  path = string_bytes config.path;
  name = config.report_name.now;
  stores_success_output = config.store_success_output;
  stores_failure_output = config.store_failure_output;
  skipped = config.report_skipped;
  flaky_fail_status = config.flaky_fail_status;
}

-- a report with another path than its own, or with one where it may have none
abbrev pub at_path : {P : Type 0} → Report P → List ℕ → Report (List ℕ)
at_path report path = record {
  path = path;
  name = report.name;
  stores_success_output = report.stores_success_output;
  stores_failure_output = report.stores_failure_output;
  skipped = report.skipped;
  flaky_fail_status = report.flaky_fail_status;
}

-- the report in a folder: `None` where its settings have no path
abbrev pub report_in : List ℕ → Report (Option (List ℕ)) → Option (Report (List ℕ))
report_in folder settings =
    option_map (λ path. at_path settings (joined_path folder path)) settings.path

-- ---- the words of the status

-- how a flaky test that is to fail may be reported, in the order of the words
abbrev pub flaky_fail_statuses : List JunitFlakyFailStatus
flaky_fail_statuses = Failure ∷ Success ∷ []

-- the word of how a flaky test that is to fail is reported
abbrev pub flaky_fail_word : JunitFlakyFailStatus → List ℕ
flaky_fail_word Failure = codes "failure"
flaky_fail_word Success = codes "success"

pub flaky_fail_reads_back : (status : JunitFlakyFailStatus)
    → value_of flaky_fail_word flaky_fail_statuses (flaky_fail_word status) ≡ Some status
flaky_fail_reads_back status = search rules

-- the reading of `flaky-fail-status`: one of its words
abbrev pub flaky_fail_reading : Reading Data JunitFlakyFailStatus
flaky_fail_reading = word_reading flaky_fail_statuses flaky_fail_word flaky_fail_reads_back

-- ---- the table

-- what a table says of a report; all of it may be missing
pub record JunitTable : Type 0 where
  pub path : Option (List ℕ)
  pub report_name : Option (List ℕ)
  pub store_success_output : Option Bool
  pub store_failure_output : Option Bool
  pub report_skipped : Option ReportSkipPolicy
  pub flaky_fail_status : Option JunitFlakyFailStatus

-- the table that says this: its path and its name, whether it has the outputs, and the rest
abbrev pub table_of_keys : Option (List ℕ) × Option (List ℕ) → Option Bool × Option Bool
    → Option ReportSkipPolicy → Option JunitFlakyFailStatus → JunitTable
table_of_keys texts outputs skipped status = record {
  path = texts.0;
  report_name = texts.1;
  store_success_output = outputs.0;
  store_failure_output = outputs.1;
  report_skipped = skipped;
  flaky_fail_status = status;
}

-- what a table that was read says
abbrev pub junit_of : JunitImpl → JunitTable
junit_of junit =
    table_of_keys (option_map string_bytes junit.path, option_map string_bytes junit.report_name)
    (junit.store_success_output, junit.store_failure_output) junit.report_skipped
    junit.flaky_fail_status

-- the table that says nothing of a report
abbrev pub empty_table : JunitTable
empty_table = table_of_keys (None, None) (None, None) None None

-- the key of where the report is written to
abbrev pub path_key : List ℕ
path_key = codes "path"

-- the key of the report's name
abbrev pub report_name_key : List ℕ
report_name_key = codes "report-name"

-- the key of whether the report has the output of tests that pass
abbrev pub store_success_output_key : List ℕ
store_success_output_key = codes "store-success-output"

-- the key of whether the report has the output of tests that fail
abbrev pub store_failure_output_key : List ℕ
store_failure_output_key = codes "store-failure-output"

-- the key of which skipped tests the report has
abbrev pub report_skipped_key : List ℕ
report_skipped_key = codes "report-skipped"

-- the key of how flaky tests that are to fail are reported
abbrev pub flaky_fail_status_key : List ℕ
flaky_fail_status_key = codes "flaky-fail-status"

-- the fields of the table `junit`
abbrev pub junit_fields : Fields
junit_fields =
    plain (allowed_or path_key shapes.Text ErrorUnlessConverted (inherited None))
    (plain (allowed_or report_name_key shapes.Text ErrorUnlessConverted
    (inherited_text (codes "nextest-run")))
    (plain (allowed_or store_success_output_key shapes.Boolean ErrorUnlessConverted
    (inherited (Some (boolean false))))
    (plain (allowed_or store_failure_output_key shapes.Boolean ErrorUnlessConverted
    (inherited (Some (boolean true))))
    (plain (allowed_or report_skipped_key shapes.ReportSkipPolicy Error
    (inherited_text (codes "none")))
    (plain (allowed_or flaky_fail_status_key shapes.FlakyFailStatus Error
    (inherited_text (codes "failure"))) no_fields)))))

-- the keys of `junit` after the outputs, in turn
abbrev pub keys_after_outputs : Option (List ℕ) → Option (List ℕ) → Option Bool → Option Bool
    → Reading Members JunitTable
keys_after_outputs path report_name success failure =
    then (optional report_skipped_key report_skip_reading) (λ skipped.
    made_of (table_of_keys (path, report_name) (success, failure) skipped)
    (optional flaky_fail_status_key flaky_fail_reading))

-- the keys of `junit` after the path and the name, in turn
abbrev pub keys_after_texts : Option (List ℕ) → Option (List ℕ) → Reading Members JunitTable
keys_after_texts path report_name =
    then (optional store_success_output_key bool_reading) (λ success.
    then (optional store_failure_output_key bool_reading)
    (keys_after_outputs path report_name success))

-- the keys of `junit` in turn, each of which may be missing; other keys don't count
abbrev pub junit_table : Reading Members JunitTable
junit_table = then (optional path_key text_reading) (λ path.
    then (optional report_name_key text_reading) (keys_after_texts path))

-- the table has a text, which is kept in memory of its own
abbrev pub HasText : JunitTable → Type 0
HasText said = IsSome said.path ⊎ IsSome said.report_name

-- what `junit` takes, as a refusal says it
abbrev pub junit_expected : List ℕ
junit_expected = codes "a table"

-- the reading of `junit`: a table (TOML 1.1, "Table")
abbrev pub junit_reading : Reading Data JunitTable
junit_reading = kind as_table (inner junit_table) (wrong_kind junit_expected)

-- ---- the default profile

-- what the default profile says of a report
abbrev pub default_of : DefaultJunitImpl → Report (Option (List ℕ))
default_of d = record {
  path = option_map string_bytes d.path;
  name = string_bytes d.report_name;
  stores_success_output = d.store_success_output;
  stores_failure_output = d.store_failure_output;
  skipped = d.report_skipped;
  flaky_fail_status = d.flaky_fail_status;
}

-- the table says all of the report, but its path may be missing
pub record SaysAll (said : JunitTable) (report : Report (Option (List ℕ))) : Type 0 where
  pub of_path : report.path ≡ said.path
  pub of_name : said.report_name ≡ Some report.name
  pub of_success_output : said.store_success_output ≡ Some report.stores_success_output
  pub of_failure_output : said.store_failure_output ≡ Some report.stores_failure_output
  pub of_skipped : said.report_skipped ≡ Some report.skipped
  pub of_flaky_fail_status : said.flaky_fail_status ≡ Some report.flaky_fail_status

-- the table lacks the setting, and none that is written before it
abbrev pub IsFirstMissing : JunitTable → MissingSetting → Type 0
IsFirstMissing said missing.ReportName = said.report_name ≡ None
IsFirstMissing said missing.StoreSuccessOutput = IsSome said.report_name
    × (said.store_success_output ≡ None)
IsFirstMissing said missing.StoreFailureOutput = IsSome said.report_name
    × IsSome said.store_success_output × (said.store_failure_output ≡ None)
IsFirstMissing said missing.ReportSkipped = IsSome said.report_name
    × IsSome said.store_success_output × IsSome said.store_failure_output
    × (said.report_skipped ≡ None)
IsFirstMissing said missing.FlakyFailStatus =
    IsSome said.report_name × IsSome said.store_success_output × IsSome said.store_failure_output
    × IsSome said.report_skipped × (said.flaky_fail_status ≡ None)
