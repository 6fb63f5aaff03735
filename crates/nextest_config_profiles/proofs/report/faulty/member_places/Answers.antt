use Rattle.std.proofs.Common.{map, subst}
use Rattle.std.proofs.lemmas.List.{take_all}
use Rattle.std.proofs.lemmas.Simd.{map-map}
use Rattle.nextest_config_profiles.specs.Report.Rows.{ArePlacesAt, IsPlaceOf, keys_of_member}
use Rattle.nextest_config_profiles.specs.Report.Setting.{member_of, rule_of}
use Rattle.nextest_config_profiles.proofs.Somes.{some_more}
use Rattle.nextest_config_profiles.proofs.report.faulty.member_places.Goals as goal

pub loop-member-preserved : goal.loop-member-preserved
loop-member-preserved c =
    let keys = (rule_of c.args.setting).keys in
    let here = subst (λ path. IsPlaceOf c.args.effective.now c.args.profile.now path c.in_ok-place.place) c.in_ok-keys.ensures c.in_ok-place.ensures in
    rw (c.in_ok-push_some.ensures, map-map (keys_of_member keys) member_of _)
    (some_more (IsPlaceOf c.args.effective.now c.args.profile.now) (λ member. keys_of_member keys (member_of member)) c.members-members.result.now c.loop-member.member-index _ _ c.in_ok-place.place c.loop-member-test.true
    (rw (map-map (keys_of_member keys) member_of _) at c.loop-member.invariant) here)

pub returns : goal.returns
returns c =
    subst (λ members. ArePlacesAt c.args.effective.now c.args.profile.now (map (keys_of_member (rule_of c.args.setting).keys) members) c.loop-member.sources.items) c.members-members.ensures
    (rw (take_all c.loop-member.member-index c.members-members.result.now c.loop-member-test.false) at c.loop-member.invariant)
