use Rattle.std.proofs.Common.{◌∙◌, ◌∷◌, [], ap, rules}
use Rattle.std.proofs.lemmas.Iterator.{YieldsList-from_slice}
use Rattle.std.proofs.lemmas.Iterator.Search.{any_from_yields_List}
use Rattle.std.specs.List.{list_any}
use Rattle.nextest_config_elements.specs.Fields.{KeyRule}
use Rattle.nextest_config_profiles.proofs.Narrowed.{any_mapped}
use Rattle.nextest_config_profiles.proofs.Settings.{rules_seen}
use Rattle.nextest_config_profiles.specs.Report.Setting.{is_setting, member_of, rules_in}
use Rattle.nextest_config_profiles.proofs.report.others.has_settings.Goals as goal

pub returns : goal.returns
returns c =
    let fields = c.table_fields.result.now in
    let counts = λ (rule : KeyRule). is_setting ((member_of c.args.field.now).key ∷ []) rule.absent in
    any_from_yields_List (λ f. counts (member_of f)) _ _ c.any.result c.any.ensures.ran (YieldsList-from_slice fields cc) (λ x b q k. search rules)
    ∙ any_mapped counts member_of fields ∙ ap (list_any counts) (rules_seen fields ∙ ap rules_in c.table_fields.ensures)
