use Rattle.std.proofs.Common.{◌∙◌, ◌++◌, [], ap, map}
use Rattle.nextest_config_elements.specs.Fields.{fields_view}
use Rattle.nextest_config_profiles.proofs.Settings.{no_table_more, one_table_more}
use Rattle.nextest_config_profiles.specs.Report.Setting.{rule_owned, settings_at, settings_below}
use Rattle.nextest_config_profiles.proofs.report.setting.all_settings.Goals.{else-not-is_empty, then-not-is_empty+in_ok-push_settings-2}
use Rattle.nextest_config_profiles.proofs.report.setting.all_settings.Goals as goal

pub loop-field-init : goal.loop-field-init
loop-field-init c =
    let known = fields_view c.profile_fields-fields.result.now in
    ap (λ front. front ++ settings_below known) (c.in_ok-push_settings.ensures ∙ ap (λ items. map rule_owned items ++ settings_at [] known) c.new-settings.ensures.items)
    ∙ ap (λ known. settings_at [] known ++ settings_below known) c.profile_fields-fields.ensures

pub loop-field-preserved : goal.loop-field-preserved
loop-field-preserved c =
    elim c.if-not-is_empty.branch [
      | then-not-is_empty+in_ok-push_settings-2 w ↦ rw w.settings-is
          (one_table_more c.profile_fields-fields.result.now c.loop-field.field-index _ _ _ _ _ c.loop-field-test.true c.table_fields-inner.ensures w.in_ok-push_settings-2.ensures c.loop-field.invariant)
      | else-not-is_empty w ↦ rw w.settings-is
          (no_table_more c.profile_fields-fields.result.now c.loop-field.field-index _ _ _ c.table_fields-inner.result.now c.is_empty.result c.loop-field-test.true c.table_fields-inner.ensures
          c.is_empty.ensures w.if-not-is_empty.false c.loop-field.invariant)
    ]
