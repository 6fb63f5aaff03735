use Rattle.std.proofs.Common.{ℕ, Bool, List, Option}
use Rattle.std.proofs.lemmas.Iterator.Adapters.{option_map_id}
use Rattle.toml.specs.Data.{Members}
use Rattle.toml.specs.View.{table_view}
use Rattle.nextest_config_values.proofs.Faults.{in_first, in_later, in_made, passed_on}
use Rattle.nextest_config_values.specs.Read.{bool_reading, optional, RefusesBy, text_reading}
use Rattle.nextest_config_values.specs.declared.read.value_fault.ValueFault.{ValueFault}
use Rattle.nextest_config_elements.specs.Junit.{junit_table, keys_after_outputs, keys_after_texts, path_key, report_name_key, report_skipped_key, store_failure_output_key, store_success_output_key}
use Rattle.nextest_config_elements.specs.ReportSkipPolicy.{report_skip_reading}
use Rattle.nextest_config_elements.proofs.junit.JunitImpl.read_table.Goals as goal

pub returns-in_err-report_name-clause-refused : goal.returns-in_err-report_name-clause-refused
returns-in_err-report_name-clause-refused c =
    passed_on _ c.from_residual-in_err-report_name.result _ c.from_residual-in_err-report_name.ensures.1
    (in_later (optional path_key text_reading) (table_view c.args.table.now) c.in_ok-path.ensures.meant (in_first c.in_err-report_name.ensures.refused))

-- a refusal after the texts
after_texts : (table : Members) {path name : Option (List ℕ)} {fault : ValueFault} → (optional path_key text_reading).means table path
    → (optional report_name_key text_reading).means table name → RefusesBy (keys_after_texts path name) table fault → RefusesBy junit_table table fault
after_texts table path name refused = in_later (optional path_key text_reading) table path (in_later (optional report_name_key text_reading) table name refused)

-- a refusal after the outputs
after_outputs : (table : Members) {path name : Option (List ℕ)} {success failure : Option Bool} {fault : ValueFault} → (optional path_key text_reading).means table path
    → (optional report_name_key text_reading).means table name → (optional store_success_output_key bool_reading).means table success
    → (optional store_failure_output_key bool_reading).means table failure → RefusesBy (keys_after_outputs path name success failure) table fault → RefusesBy junit_table table fault
after_outputs table path name success failure refused =
    after_texts table path name (in_later (optional store_success_output_key bool_reading) table success
    (in_later (optional store_failure_output_key bool_reading) table failure refused))

pub returns-in_err-store_success_output-clause-refused : goal.returns-in_err-store_success_output-clause-refused
returns-in_err-store_success_output-clause-refused c =
    passed_on _ c.from_residual-in_err-store_success_output.result _ c.from_residual-in_err-store_success_output.ensures.1
    (after_texts (table_view c.args.table.now) c.in_ok-path.ensures.meant c.in_ok-report_name.ensures.meant (in_first c.in_err-store_success_output.ensures.refused))

pub returns-in_err-store_failure_output-clause-refused : goal.returns-in_err-store_failure_output-clause-refused
returns-in_err-store_failure_output-clause-refused c =
    let table = table_view c.args.table.now in
    passed_on _ c.from_residual-in_err-store_failure_output.result _ c.from_residual-in_err-store_failure_output.ensures.1
    (after_texts table c.in_ok-path.ensures.meant c.in_ok-report_name.ensures.meant
    (in_later (optional store_success_output_key bool_reading) table c.in_ok-store_success_output.ensures.meant (in_first c.in_err-store_failure_output.ensures.refused)))

pub returns-in_err-report_skipped-clause-refused : goal.returns-in_err-report_skipped-clause-refused
returns-in_err-report_skipped-clause-refused c =
    let table = table_view c.args.table.now in
    passed_on _ c.from_residual-in_err-report_skipped.result _ c.from_residual-in_err-report_skipped.ensures.1
    (after_outputs table c.in_ok-path.ensures.meant c.in_ok-report_name.ensures.meant c.in_ok-store_success_output.ensures.meant
    c.in_ok-store_failure_output.ensures.meant (in_first c.in_err-report_skipped.ensures.refused))

pub returns-in_err-flaky_fail_status-clause-refused : goal.returns-in_err-flaky_fail_status-clause-refused
returns-in_err-flaky_fail_status-clause-refused c =
    let table = table_view c.args.table.now in
    passed_on _ c.from_residual-in_err-flaky_fail_status.result _ c.from_residual-in_err-flaky_fail_status.ensures.1
    (after_outputs table c.in_ok-path.ensures.meant c.in_ok-report_name.ensures.meant c.in_ok-store_success_output.ensures.meant
    c.in_ok-store_failure_output.ensures.meant
    (in_later (optional report_skipped_key report_skip_reading) table c.in_ok-report_skipped.ensures.meant (in_made c.in_err-flaky_fail_status.ensures.refused)))

-- a first part means this, and what comes after it that
in_turn : {X : Type 0} {First Later : X → Type 0} (x : X) → First x → Later x → (v : X) × First v × Later v
in_turn x first later = (x, first, later)

pub returns-clause-meant : goal.returns-clause-meant
returns-clause-meant c =
    in_turn _ c.in_ok-path.ensures.meant (in_turn _ c.in_ok-report_name.ensures.meant
    (in_turn _ c.in_ok-store_success_output.ensures.meant (in_turn _ c.in_ok-store_failure_output.ensures.meant
    (in_turn _ c.in_ok-report_skipped.ensures.meant (in_turn _ c.in_ok-flaky_fail_status.ensures.meant (simp option_map_id))))))
