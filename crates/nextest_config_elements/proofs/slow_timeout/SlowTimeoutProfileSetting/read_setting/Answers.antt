use Rattle.std.proofs.Common.{sym}
use Rattle.nextest_config_elements.proofs.slow_timeout.SlowTimeoutProfileSetting.read_setting.Goals as goal

pub returns-clause-refused : goal.returns-clause-refused
returns-clause-refused c = rw (sym c.in_default.ensures) c.read_set.ensures.refused
