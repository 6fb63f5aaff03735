use Rattle.std.proofs.Common.{string_bytes, subst}
use Rattle.std.proofs.lemmas.List.{map_push, take_more}
use Rattle.nextest_config.proofs.Lists.{zip_push}
use Rattle.nextest_config_profiles.specs.Report.Chain.{IsChainProfile}
use Rattle.nextest_config_profiles.proofs.report.chain.chain.Goals as goal

pub loop-name-preserved : goal.loop-name-preserved
loop-name-preserved c =
    let names = c.chain-names.result.now in
    let i = c.loop-name.name-index in
    let here = subst (λ name. IsChainProfile c.args.effective.now name c.in_ok-chain_profile.field-0) c.as_str.ensures.value c.in_ok-chain_profile.ensures in
    rw (take_more names i c.name-item.result c.loop-name-test.true, ← c.name-item.is, map_push string_bytes _ c.name-item.result, c.in_ok-push.ensures.items)
    (zip_push (IsChainProfile c.args.effective.now) _ _ _ _ c.loop-name.invariant here)
