use Rattle.std.proofs.Common.{rules}
use Rattle.std.proofs.lemmas.Fn.{filter_same}
use Rattle.nextest_config_profiles.proofs.report.narrowed.keep_overrides.Goals as goal

pub returns : goal.returns
returns c = filter_same _ _ _ (λ x b f' k. rw (← k.shows) (search rules)) _ _ c.retain.ensures.filtered
