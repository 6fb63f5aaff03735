use Rattle.std.proofs.Common.{rules}
use Rattle.std.proofs.lemmas.Iterator.Consumers.{YieldsList-end, YieldsList-from_first}
use Rattle.nextest_config.specs.NextestVersion.{place_of, arrays_left}
use Rattle.nextest_config_report.specs.Show.{place_data}
use Rattle.nextest_config_report.proofs.Values.{array_view}
use Rattle.nextest_config_report.proofs.show.arrays_value.Goals as goal

pub returns : goal.returns
returns c =
    let all = YieldsList-end (YieldsList-from_first (λ source. place_of source.now) arrays_left (arrays_left c.args.arrays) (search rules)) c.loop-source.yielded _ c.loop-source.yielded_by _ c.next.new.self c.in-None.is c.next.ensures.steps in
    array_view place_data (λ source. place_of source.now) c.loop-source.yielded _ c.loop-source.sources c.loop-source.invariant all.0
