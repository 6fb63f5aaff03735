use Rattle.std.proofs.Common.{[], ◌∙◌, option_map, refl, subst, sym}
use Rattle.std.proofs.lemmas.List.{take_all}
use Rattle.nextest_config_profiles.specs.Profile.{layers_in}
use Rattle.nextest_config_profiles.specs.Report.OtherProfiles.{IsFaultOf}
use Rattle.nextest_config_profiles.specs.Report.Setting.{rule_of}
use Rattle.nextest_config_profiles.specs.declared.profile_alone.ProfileAlone.{ProfileAlone}
use Rattle.nextest_config_profiles.proofs.Alone.{looked_up_at}
use Rattle.nextest_config_profiles.proofs.Somes.{some_more}
use Rattle.nextest_config_profiles.proofs.report.other_profiles.faults_of.Goals as goal

pub fault_of-requires : goal.fault_of-requires
fault_of-requires c =
    looked_up_at (layers_in c.args.effective.now) c.args.profiles.now c.loop-profile.profile-index c.profile-item.result c.loop-profile-test.true c.profile-item.is c.requires

pub loop-profile-preserved : goal.loop-profile-preserved
loop-profile-preserved c =
    let is_fault = IsFaultOf c.args.effective.now (rule_of c.args.setting) (option_map (λ name. name.now) c.args.giver) in
    rw c.in_ok-push_some.ensures
    (some_more is_fault (λ profile. profile.name.now) c.args.profiles.now c.loop-profile.profile-index c.profile-item.result _ c.in_ok-fault.fault c.loop-profile-test.true c.loop-profile.invariant
    (subst (λ (profile : ProfileAlone). is_fault profile.name.now c.in_ok-fault.fault) c.profile-item.is c.in_ok-fault.ensures))

pub returns-then-is_documented : goal.returns-then-is_documented
returns-then-is_documented c = rw (sym c.is_documented.ensures ∙ c.if-is_documented.true, c.new-faults.ensures.items) (record { each = []; are_each = tt; whole = refl })

pub returns : goal.returns
returns c = rw (sym c.is_documented.ensures ∙ c.if-is_documented.false)
    (rw (take_all c.loop-profile.profile-index c.args.profiles.now c.loop-profile-test.false) at c.loop-profile.invariant)
