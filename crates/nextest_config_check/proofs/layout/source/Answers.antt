use Rattle.std.proofs.Common.{refl}
use Rattle.nextest_config_check.proofs.Lines.{unmarked_below_first}
use Rattle.nextest_config_check.proofs.layout.source.Goals as goal

pub returns : goal.returns
returns c =
    let line = c.split_line.result.0.now in
    let contents = c.split_line.result.1.now in
    let unmarked = unmarked_below_first c.args.block.now line contents c.split_line.ensures c.requires in
    rw c.in_ok-from_str.ensures.ok
    (record { line = line; contents = contents; first = c.split_line.ensures; names = rw c.in-Some.is at c.in_ok-source.ensures; unmarked = unmarked; holds = refl })
