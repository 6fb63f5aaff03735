use Rattle.std.proofs.Common.{map, rules}
use Rattle.nextest_config_profiles.proofs.Narrowed.{settings_left}
use Rattle.nextest_config_profiles.specs.Report.Wanted.{path_of}
use Rattle.nextest_config_profiles.proofs.report.narrowed.keep_settings.Goals as goal

pub returns : goal.returns
returns c = settings_left (map path_of c.args.wanted.now) _ _ (λ x b g y k. rw (← k.leaves, ← k.shows) (search rules)) _ _ c.retain_mut.ensures.filtered
