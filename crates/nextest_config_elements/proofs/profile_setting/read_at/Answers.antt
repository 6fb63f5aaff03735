use Rattle.std.proofs.Common.{rules}
use Rattle.toml.specs.View.{view}
use Rattle.nextest_config_values.proofs.Faults.{refused_where}
use Rattle.nextest_config_elements.proofs.profile_setting.read_at.Goals as goal

pub returns-clause-refused : goal.returns-clause-refused
returns-clause-refused g c =
    refused_where g.T.ProfileSetting.reading (view c.args.value.now) c.args.at.now _ _ c.read_setting.ensures.refused
    c.map_err.ensures.cases (λ fault told made. search rules)
