use Rattle.std.proofs.Common.{refl}
use Rattle.nextest_config_filters.specs.Fault.{fault_of}
use Rattle.nextest_config_lint.specs.Settings.{setting_view}
use Rattle.nextest_config_lint.specs.Texts.{IsTextFault}
use Rattle.nextest_config_lint.proofs.FoundKinds.{text_reported}
use Rattle.nextest_config_lint.proofs.texts.find_in_text.Goals as goal

pub returns-in_ok-found-in-Some : goal.returns-in_ok-found-in-Some
returns-in_ok-found-in-Some c =
    let setting = setting_view c.args.setting.now in
    let wrong : IsTextFault setting.subject (fault_of c.in-Some.fault) = rw c.in-Some.is at c.in_ok-fault.ensures in
    let reports = c.in_ok-found-in-Some.ensures in
    text_reported setting (fault_of c.in-Some.fault) _ c.in_ok-found-in-Some.found wrong (rw c.in_ok-path-in-Some.ensures refl) reports.faults reports.features reports.notes
