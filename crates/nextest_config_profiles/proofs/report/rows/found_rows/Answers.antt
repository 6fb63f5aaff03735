use Rattle.std.proofs.lemmas.Result.{IfOk-weaker}
use Rattle.nextest_config_profiles.proofs.report.rows.found_rows.Goals as goal

pub returns-in_ok-row-in-None : goal.returns-in_ok-row-in-None
returns-in_ok-row-in-None c =
    let (keys, state, hidden) = c.in_ok-row-in-None.ensures in
    rw c.in-None.is (IfOk-weaker c.alone.result _ _ (λ rows alone.
    (c.in_ok-row-in-None.row, record { keys_are = rw keys c.in_ok-keys-in-None.ensures; state_is = state; hides = hidden }, alone)) c.alone.ensures)
