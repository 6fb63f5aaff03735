use Rattle.std.proofs.Common.{◌≡◌, [], ◌∙◌, Some, ap, option_map, sym}
use Rattle.toml.specs.Data.{get_member}
use Rattle.toml.specs.View.{table_view, view}
use Rattle.nextest_config_values.proofs.Faults.{refused_at, refused_below}
use Rattle.nextest_config_values.specs.Read.{key}
use Rattle.nextest_config.specs.NextestVersion.{experimental_key, features_asked, features_under}
use Rattle.nextest_config.proofs.nextest_version.version_only_deserialize.read_experimental.Goals as goal

pub returns-in-Err-clause-refused : goal.returns-in-Err-clause-refused
returns-in-Err-clause-refused c =
    let document = table_view c.args.document.now in
    let value = view c.in-Some.value.now in
    let there : get_member experimental_key document ≡ Some value = sym c.value_at.ensures ∙ ap (option_map (λ found. view found.now)) c.in-Some.is in
    let below = refused_below (key experimental_key) (features_under c.args.edition) value document c.in-Err.fault c.below_key.result c.in-Err.ensures.refused c.below_key.ensures.memory c.below_key.ensures.fault in
    refused_at (features_asked c.args.edition) document [] c.below_key.result c.at.result (rw there below) c.at.ensures.memory c.at.ensures.told
