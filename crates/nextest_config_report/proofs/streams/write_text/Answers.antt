use Rattle.std.proofs.Common.{rules}
use Rattle.std.proofs.lemmas.List.{take_rest}
use Rattle.nextest_config_report.proofs.Fronts.{more_added}
use Rattle.nextest_config_report.proofs.streams.write_text.Goals as goal

pub loop-rest-preserved : goal.loop-rest-preserved
loop-rest-preserved g c =
    let added = more_added _ _ _ c.args.text.now c.loop-rest.rest.now c.in_ok-count.count c.loop-rest.invariant.0 c.in_ok-count.ensures.bytes in
    (rw (take_rest c.loop-rest.rest.now c.in_ok-count.count) added, search rules)
