use Rattle.nextest_config_values.specs.Read.{fault_of}
use Rattle.nextest_config_lint.specs.Settings.{setting_view}
use Rattle.nextest_config_lint.proofs.FoundKinds.{fault_reported, note_reported}
use Rattle.nextest_config_lint.proofs.faults.find_of_fault.Goals as goal

pub returns-then-branch : goal.returns-then-branch
returns-then-branch c =
    note_reported (setting_view c.args.setting.now) (fault_of c.args.fault) _ c.in_ok-finding.finding _ c.if-is_memory.ensures c.in_ok-is_left_open.ensures c.if-branch.true
    c.in_ok-finding.ensures c.in_ok-found.ensures.faults c.in_ok-found.ensures.features c.in_ok-found.ensures.notes

pub returns : goal.returns
returns c =
    fault_reported (setting_view c.args.setting.now) (fault_of c.args.fault) _ c.in_ok-finding-2.finding _ c.if-is_memory.ensures c.in_ok-is_left_open.ensures c.if-branch.false
    c.in_ok-finding-2.ensures c.in_ok-found-2.ensures.faults c.in_ok-found-2.ensures.features c.in_ok-found-2.ensures.notes
