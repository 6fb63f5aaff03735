use Rattle.std.proofs.Common.{None, refl}
use Rattle.nextest_config_profiles.proofs.report.source.source_of.Goals as goal

pub returns-then-layer-eq0 : goal.returns-then-layer-eq0
returns-then-layer-eq0 c = rw c.if-layer-eq0.true (record { of_profile = refl; span = None; in_index = refl; in_file = refl })
