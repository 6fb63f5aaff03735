use Rattle.std.proofs.Common.{◌∙◌, ap}
use Rattle.toml.proofs.Views.{view-Table}
use Rattle.toml.specs.Data.{table}
use Rattle.toml.specs.View.{members_view}
use Rattle.nextest_config_elements.specs.SlowTimeout.{terminate_after_key}
use Rattle.nextest_config_profiles.proofs.Without.{removed}
use Rattle.nextest_config_profiles.proofs.report.converted.without.Goals as goal

pub returns : goal.returns
returns c = view-Table c.remove.new.self ∙ ap (λ entries. table (members_view entries)) c.remove.ensures.entries ∙ ap table (removed terminate_after_key c.args.members.entries)
