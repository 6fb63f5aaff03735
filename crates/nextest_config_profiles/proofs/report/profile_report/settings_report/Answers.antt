use Rattle.std.proofs.Common.{◌∙◌, ap, subst}
use Rattle.std.proofs.lemmas.List.{take_all}
use Rattle.nextest_config_profiles.specs.Layer.{profiles_in}
use Rattle.nextest_config_profiles.specs.NameList.{AreNamesOf}
use Rattle.nextest_config_profiles.specs.Profile.{names_of}
use Rattle.nextest_config_profiles.specs.Reach.{words_of}
use Rattle.nextest_config_profiles.specs.Report.OtherProfiles.{AreFaultsOf}
use Rattle.nextest_config_profiles.specs.Report.Rows.{AreRows}
use Rattle.nextest_config_profiles.specs.Report.Setting.{rule_of, rule_owned}
use Rattle.nextest_config_profiles.proofs.Somes.{list_more}
use Rattle.nextest_config_profiles.proofs.Zipped.{zip_more}
use Rattle.nextest_config_profiles.proofs.report.profile_report.settings_report.Goals as goal

pub push_setting-requires : goal.push_setting-requires
push_setting-requires c = record {
  chain_is = ap names_of c.as_slice-2.ensures.value ∙ c.in_ok-chain.ensures.names;
  chain_looked_up = rw c.as_slice-2.ensures.value c.in_ok-chain.ensures.looked_up;
  all_looked_up = rw c.as_slice-3.ensures.value c.in_ok-all.ensures.looked_up;
}

pub loop-setting-preserved : goal.loop-setting-preserved
loop-setting-preserved c =
    let i = c.loop-setting.setting-index in
    let settings = c.deref-setting-items.result.now in
    let item = c.setting-item.result in
    let told = c.lent.ensures ∙ ap rule_owned c.setting-item.is in
    let names = ap names_of c.as_slice-3.ensures.value ∙ c.in_ok-all.ensures.names ∙ ap words_of c.as_slice.ensures.value in
    let (rows, are_rows, pushed) = c.in_ok-push_setting.ensures.rows in
    let (added, are_faults, added_too) = c.in_ok-push_setting.ensures.faults in (
      rw pushed (zip_more (AreRows c.args.effective.now c.args.shows_hidden) rule_owned settings i item _ rows c.loop-setting-test.true c.loop-setting.invariant.0 (subst (λ setting. AreRows c.args.effective.now c.args.shows_hidden setting rows) told are_rows)),
      rw added_too
          (list_more (AreFaultsOf c.args.effective.now (words_of c.in_ok-names.names.items)) rule_owned settings i item _ added c.loop-setting-test.true c.loop-setting.invariant.1
          (subst (λ setting. AreFaultsOf c.args.effective.now (words_of c.in_ok-names.names.items) setting added) told (subst (λ names. AreFaultsOf c.args.effective.now names (rule_of c.lent.result) added) names are_faults))),
    )

pub returns-clause-faults : goal.returns-clause-faults
returns-clause-faults c =
    let names = words_of c.in_ok-names.names.items in record {
      names = names;
      are_names = subst (λ files. AreNamesOf (profiles_in files) names) c.files.ensures c.in_ok-names.ensures.names;
      in_order = c.in_ok-names.ensures.order;
      are_faults = rw (take_all c.loop-setting.setting-index c.deref-setting-items.result.now c.loop-setting-test.false, c.deref-setting-items.ensures.value, c.in_ok-settings.ensures) at c.loop-setting.invariant.1;
    }
