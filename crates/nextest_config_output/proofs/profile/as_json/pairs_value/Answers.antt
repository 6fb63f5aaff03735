use Rattle.std.proofs.Common.{◌∙◌, ap, refl}
use Rattle.std.proofs.lemmas.List.{take_all}
use Rattle.std.proofs.lemmas.List.Sums.{fold_more}
use Rattle.serde_json.proofs.Views.{view-Object}
use Rattle.serde_json.specs.Data.{Members, no_members, object, put}
use Rattle.nextest_config_profiles.specs.declared.report.parts.OverrideSetting.{OverrideSetting}
use Rattle.nextest_config_output.specs.Profile.Object.{literal_data}
use Rattle.nextest_config_output.proofs.profile.as_json.pairs_value.Goals as goal

abbrev with_pair : Members → OverrideSetting → Members
with_pair pairs setting = put setting.key.now (literal_data setting.literal) pairs

pub loop-setting-preserved : goal.loop-setting-preserved
loop-setting-preserved c =
    let l = c.loop-setting in
    c.in_ok-put.ensures
    ∙ rw (
      c.in_ok-value.ensures,
      l.invariant,
      fold_more with_pair no_members c.args.settings.now l.setting-index c.setting-item.result c.loop-setting-test.true,
      ← c.setting-item.is,
    )
    refl

pub returns : goal.returns
returns c =
    let l = c.loop-setting in
    view-Object l.pairs
    ∙ ap object (rw (take_all l.setting-index c.args.settings.now c.loop-setting-test.false) at l.invariant)
