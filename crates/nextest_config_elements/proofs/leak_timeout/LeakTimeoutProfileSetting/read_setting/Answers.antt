use Rattle.std.proofs.Common.{sym}
use Rattle.nextest_config_elements.proofs.leak_timeout.LeakTimeoutProfileSetting.read_setting.Goals as goal

pub returns-in-None-clause-refused : goal.returns-in-None-clause-refused
returns-in-None-clause-refused c = rw (sym c.in-None.ensures) c.read_set.ensures.refused
