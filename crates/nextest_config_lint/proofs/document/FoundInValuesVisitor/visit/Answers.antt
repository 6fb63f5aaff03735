use Rattle.std.proofs.Common.{refl}
use Rattle.nextest_config_lint.specs.Settings.{setting_view}
use Rattle.nextest_config_lint.proofs.FoundValues.{found_of_one_more}
use Rattle.nextest_config_lint.proofs.document.FoundInValuesVisitor.visit.Goals as goal

pub returns : goal.returns
returns c start before so_far =
    found_of_one_more start c.args.self.now _ before (setting_view c.args.setting.now) c.in_ok-found.found so_far refl c.in_ok-found.ensures
    c.in_ok-add.ensures.faults c.in_ok-add.ensures.features c.in_ok-add.ensures.notes c.in_ok-add_keys_in.ensures c.in_ok-add_reference.ensures
