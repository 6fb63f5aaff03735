use Rattle.std.proofs.Common.{string_bytes}
use Rattle.nextest_config_output.specs.Profile.Overrides.{override_line}
use Rattle.nextest_config_output.proofs.Pushes.{several_pushed}
use Rattle.nextest_config_output.proofs.profile.overrides.push_override_lines.Goals as goal

pub loop-one-preserved : goal.loop-one-preserved
loop-one-preserved c =
    several_pushed (override_line c.args.name.now) _ _ (string_bytes c.args.text.now) c.args.overrides.now c.loop-one.one-index c.one-item.result c.loop-one-test.true
    c.one-item.is c.loop-one.invariant c.in_ok-push_override.ensures
