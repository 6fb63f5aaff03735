use Rattle.std.proofs.Common.{◌+◌, ◌∷◌, [], drop, inl, inr, refl, take}
use Rattle.std.proofs.lemmas.List.{map_push, take_all, take_more}
use Rattle.nextest_config.proofs.Lists.{map-around}
use Rattle.toml_spans.proofs.Elements.{all_joined}
use Rattle.nextest_config_profiles.specs.Effective.{Passes}
use Rattle.nextest_config_profiles.specs.Profile.{names_of}
use Rattle.nextest_config_profiles.specs.Reach.{words_of}
use Rattle.nextest_config_profiles.proofs.Alone.{looked_up_at}
use Rattle.nextest_config_profiles.proofs.effective.first_given.Goals as goal

pub returns-in-Some : goal.returns-in-Some
returns-in-Some g c layers looked_up =
    let profiles = c.args.profiles.now in
    let i = c.loop-profile.profile-index in
    let item = c.profile-item.result in
    inl (record {
      before = names_of (take i profiles);
      profile = item.name.now;
      after = names_of (drop (i + 1) profiles);
      whole = map-around (λ profile. profile.name.now) profiles i item c.loop-profile-test.true c.profile-item.is;
      passed = c.loop-profile.invariant layers looked_up;
      given = rw c.in-Some.is at (c.in_ok-given.ensures layers (rw c.as_slice.ensures.value (looked_up_at layers profiles i item c.loop-profile-test.true c.profile-item.is looked_up)));
    })

pub loop-profile-preserved : goal.loop-profile-preserved
loop-profile-preserved g c layers looked_up =
    let before = take c.loop-profile.profile-index c.args.profiles.now in
    let P = Passes g.T.ProfileSetting.seen g.T.ProfileSetting.reading layers (words_of c.args.keys.now) in
    let here = looked_up_at layers _ _ c.profile-item.result c.loop-profile-test.true c.profile-item.is looked_up in
    let passes : P c.profile-item.result.name.now = rw c.in_default.is at (c.in_ok-given.ensures layers (rw c.as_slice.ensures.value here)) in
    rw (take_more _ _ c.profile-item.result c.loop-profile-test.true, ← c.profile-item.is, map_push (λ profile. profile.name.now) before c.profile-item.result)
    (all_joined P (names_of before) (c.profile-item.result.name.now ∷ []) (c.loop-profile.invariant layers looked_up) (passes, tt))

pub returns : goal.returns
returns g c layers looked_up =
    inr (rw (take_all c.loop-profile.profile-index c.args.profiles.now c.loop-profile-test.false) at (c.loop-profile.invariant layers looked_up), refl)
