use Rattle.std.proofs.lemmas.Result.{IfOk-weaker}
use Rattle.nextest_config_profiles.proofs.report.rows.rows_of.Goals as goal

pub returns-in_ok-row-in-Fault : goal.returns-in_ok-row-in-Fault
returns-in_ok-row-in-Fault c =
    rw c.in-Fault.is (IfOk-weaker c.alone.result _ _ (λ rows alone. (c.in_ok-row-in-Fault.row, c.in_ok-row-in-Fault.ensures, alone)) c.alone.ensures)

pub returns-in_ok-row-in-Nothing : goal.returns-in_ok-row-in-Nothing
returns-in_ok-row-in-Nothing c =
    rw c.in-Nothing.is (IfOk-weaker c.alone-in-Nothing.result _ _ (λ rows alone. (c.in_ok-row-in-Nothing.row, c.in_ok-row-in-Nothing.ensures, alone)) c.alone-in-Nothing.ensures)
