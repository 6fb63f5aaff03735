use Rattle.std.proofs.Common.{rules}
use Rattle.std.proofs.lemmas.Iterator.Consumers.{YieldsList-end, YieldsList-from_first}
use Rattle.nextest_config.specs.NextestVersion.{errors_left, told_by}
use Rattle.nextest_config_report.specs.Show.{unknown_data}
use Rattle.nextest_config_report.proofs.Values.{array_view}
use Rattle.nextest_config_report.proofs.show.unknown_value.Goals as goal

pub returns : goal.returns
returns c =
    let all = YieldsList-end (YieldsList-from_first told_by errors_left (errors_left c.args.errors) (search rules)) c.loop-source.yielded _ c.loop-source.yielded_by _ c.next.new.self c.in-None.is c.next.ensures.steps in
    array_view unknown_data told_by c.loop-source.yielded _ c.loop-source.entries c.loop-source.invariant all.0
