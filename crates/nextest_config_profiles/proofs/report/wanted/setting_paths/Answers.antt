use Rattle.std.proofs.Common.{◌∙◌, ◌++◌, ap, map, string_bytes}
use Rattle.nextest_config_profiles.proofs.PathTexts.{paths_more}
use Rattle.nextest_config_profiles.specs.Report.Setting.{rule_owned}
use Rattle.nextest_config_profiles.specs.Report.Wanted.{dotted, paths_of}
use Rattle.nextest_config_profiles.proofs.report.wanted.setting_paths.Goals as goal

pub loop-setting-preserved : goal.loop-setting-preserved
loop-setting-preserved c =
    let so_far = map string_bytes c.loop-setting.paths.items in
    paths_more rule_owned c.deref-setting-items.result.now c.loop-setting.setting-index c.setting-item.result _ _ c.loop-setting-test.true c.loop-setting.invariant
    (c.in_ok-push_paths.ensures ∙ ap (λ rule. so_far ++ map dotted (paths_of rule)) (c.lent.ensures ∙ ap rule_owned c.setting-item.is))
