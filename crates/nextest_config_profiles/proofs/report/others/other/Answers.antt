use Rattle.std.proofs.Common.{◌+◌, ◌∷◌, [], drop, map, string_bytes, subst, take}
use Rattle.std.proofs.lemmas.List.{map_push, take_more}
use Rattle.nextest_config.proofs.Lists.{map-around}
use Rattle.toml_spans.proofs.Elements.{all_joined}
use Rattle.nextest_config_profiles.specs.Report.Others.{IsOtherOf, PassesOther}
use Rattle.nextest_config_profiles.proofs.report.others.other.Goals as goal

pub returns-in-Some : goal.returns-in-Some
returns-in-Some c =
    let chain = c.chain-chain.result.now in
    let i = c.loop-profile.profile-index in
    let is_other = subst (λ profile. IsOtherOf c.args.effective.now c.args.key.now profile c.in-Some.other) c.as_str.ensures.value (rw c.in-Some.is at c.in_ok-other.ensures) in
    rw (← c.chain-chain.ensures)
    (record {
      before = map string_bytes (take i chain);
      profile = string_bytes c.profile-item.result;
      after = map string_bytes (drop (i + 1) chain);
      whole = map-around string_bytes chain i c.profile-item.result c.loop-profile-test.true c.profile-item.is;
      passed = c.loop-profile.invariant;
      is_other = is_other;
    })

pub loop-profile-preserved : goal.loop-profile-preserved
loop-profile-preserved c =
    let chain = c.chain-chain.result.now in
    let i = c.loop-profile.profile-index in
    let P = PassesOther c.args.effective.now c.args.key.now in
    let passes : P (string_bytes c.profile-item.result) = subst P c.as_str.ensures.value (rw c.in_default.is at c.in_ok-other.ensures) in
    rw (take_more chain i c.profile-item.result c.loop-profile-test.true, ← c.profile-item.is, map_push string_bytes (take i chain) c.profile-item.result)
    (all_joined P (map string_bytes (take i chain)) (string_bytes c.profile-item.result ∷ []) c.loop-profile.invariant (passes, tt))
