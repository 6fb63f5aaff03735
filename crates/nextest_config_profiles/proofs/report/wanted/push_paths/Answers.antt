use Rattle.std.proofs.Common.{◌∙◌, ◌++◌, ◌∷◌, [], ap, map, string_bytes}
use Rattle.std.proofs.lemmas.List.{map_push, take_all}
use Rattle.nextest_config_profiles.proofs.PathTexts.{joined_words, one_more}
use Rattle.nextest_config_profiles.specs.Reach.{words_of}
use Rattle.nextest_config_profiles.specs.Report.Rows.{keys_of_member}
use Rattle.nextest_config_profiles.specs.Report.Setting.{member_of}
use Rattle.nextest_config_profiles.specs.Report.Wanted.{dotted}
use Rattle.nextest_config_profiles.proofs.report.wanted.push_paths.Goals as goal

pub loop-member-init : goal.loop-member-init
loop-member-init c =
    let before = map string_bytes c.args.paths.now.items in
    ap (map string_bytes) c.in_ok-push.ensures.items ∙ map_push string_bytes c.args.paths.now.items c.in_ok-join.field-0
    ∙ ap (λ path. before ++ (path ∷ [])) (c.in_ok-join.ensures.ok ∙ joined_words c.args.setting.keys.now)

pub loop-member-preserved : goal.loop-member-preserved
loop-member-preserved c =
    let keys = words_of c.args.setting.keys.now in
    let paths = c.loop-member.paths.items in
    let path = c.in_ok-join-2.ensures.ok ∙ joined_words c.deref.result.now ∙ ap dotted (ap words_of c.deref.ensures.value ∙ c.in_ok-keys.ensures) in
    ap (map string_bytes) c.in_ok-push-2.ensures.items ∙ map_push string_bytes paths c.in_ok-join-2.field-0
    ∙ ap (λ text. map string_bytes paths ++ (text ∷ [])) path
    ∙ one_more member_of (keys_of_member keys) dotted c.members-members.result.now c.loop-member.member-index _ c.loop-member-test.true
    (map string_bytes c.args.paths.now.items) (map string_bytes paths) (keys ∷ []) c.loop-member.invariant

pub returns : goal.returns
returns c =
    let keys = words_of c.args.setting.keys.now in
    (rw (take_all c.loop-member.member-index c.members-members.result.now c.loop-member-test.false) at c.loop-member.invariant)
    ∙ ap (λ members. map string_bytes c.args.paths.now.items ++ map dotted (keys ∷ map (keys_of_member keys) members)) c.members-members.ensures
