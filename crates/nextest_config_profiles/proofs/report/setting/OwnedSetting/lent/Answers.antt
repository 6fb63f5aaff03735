use Rattle.std.proofs.Common.{refl}
use Rattle.nextest_config_profiles.proofs.report.setting.OwnedSetting.lent.Goals as goal

pub returns : goal.returns
returns c = rw c.as_slice.ensures.value refl
