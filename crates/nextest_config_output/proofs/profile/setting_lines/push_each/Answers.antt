use Rattle.std.proofs.Common.{map}
use Rattle.nextest_config_output.specs.Profile.SourcedLine.{line_of}
use Rattle.nextest_config_output.proofs.Pushes.{one_pushed}
use Rattle.nextest_config_output.proofs.profile.setting_lines.push_each.Goals as goal

pub loop-item-preserved : goal.loop-item-preserved
loop-item-preserved g c =
    one_pushed line_of (g.T.ToLine.reported c.args.name.now) c.loop-item.lines.items _ c.in_ok-to_line.field-0 (map line_of c.args.lines.now.items) c.args.items.now c.loop-item.item-index
    c.item-item.result c.loop-item-test.true c.item-item.is c.loop-item.invariant c.in_ok-push.ensures.items c.in_ok-to_line.ensures
