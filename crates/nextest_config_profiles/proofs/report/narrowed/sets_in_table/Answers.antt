use Rattle.std.proofs.Common.{◌∙◌, ◌&&◌, ◌++◌, ◌∷◌, [], ap, map, rules}
use Rattle.std.proofs.lemmas.Iterator.{YieldsList-from_slice}
use Rattle.std.proofs.lemmas.Iterator.Search.{any_from_yields_List}
use Rattle.std.specs.List.{list_any}
use Rattle.nextest_config_profiles.proofs.Settings.{any_at, holds}
use Rattle.nextest_config_profiles.specs.Report.Narrowed.{sets_keys}
use Rattle.nextest_config_profiles.specs.Report.Setting.{is_setting, member_of, settings_at}
use Rattle.nextest_config_profiles.specs.Report.Wanted.{path_of}
use Rattle.nextest_config_profiles.proofs.report.narrowed.sets_in_table.Goals as goal

pub returns : goal.returns
returns c =
    let sets = sets_keys (map path_of c.args.wanted.now) c.args.shown.now in
    let above = (member_of c.args.table.now).key ∷ [] in
    let fields = c.table_fields.result.now in
    any_from_yields_List (λ f. is_setting above (member_of f).absent && sets (above ++ ((member_of f).key ∷ []))) _ _ c.any.result c.any.ensures.ran
    (YieldsList-from_slice fields cc) (λ x b q k. search rules)
    ∙ any_at sets above fields ∙ ap (λ known. list_any (holds sets) (settings_at above known)) c.table_fields.ensures
