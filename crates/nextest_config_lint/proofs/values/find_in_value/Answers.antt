use Rattle.nextest_config_lint.specs.Settings.{setting_view}
use Rattle.nextest_config_lint.proofs.FoundKinds.{of_checked, of_made}
use Rattle.nextest_config_lint.proofs.values.find_in_value.Goals as goal

pub returns-in-Value : goal.returns-in-Value
returns-in-Value c = of_checked c.args.edition c.args.source.now (setting_view c.args.setting.now) c.check_shape.result c.find_by.result
    (rw c.in-Value.is c.check_shape.ensures.meant) (rw c.in-Value.is c.check_shape.ensures.refused) c.find_by.ensures

pub returns-in-AbsentKey : goal.returns-in-AbsentKey
returns-in-AbsentKey c = of_made c.args.edition c.args.source.now (setting_view c.args.setting.now) c.missing_field.result c.find_of_fault.result
    (rw c.in-AbsentKey.is c.missing_field.ensures) c.find_of_fault.ensures

pub returns-in-RefusedKey : goal.returns-in-RefusedKey
returns-in-RefusedKey c = of_made c.args.edition c.args.source.now (setting_view c.args.setting.now) c.unknown_field.result c.find_of_fault-in-RefusedKey.result
    (rw c.in-RefusedKey.is c.unknown_field.ensures) c.find_of_fault-in-RefusedKey.ensures

pub returns-in-Between : goal.returns-in-Between
returns-in-Between c = of_checked c.args.edition c.args.source.now (setting_view c.args.setting.now) c.check_rules.result c.find_by-in-Between.result
    (rw c.in-Between.is c.check_rules.ensures.meant) (rw c.in-Between.is c.check_rules.ensures.refused) c.find_by-in-Between.ensures
