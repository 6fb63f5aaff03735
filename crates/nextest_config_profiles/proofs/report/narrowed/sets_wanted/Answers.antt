use Rattle.std.proofs.Common.{◌∙◌, ◌&&◌, ◌∷◌, [], ap, map, rules}
use Rattle.std.proofs.lemmas.Iterator.{YieldsList-from_slice}
use Rattle.std.proofs.lemmas.Iterator.Search.{any_from_yields_List}
use Rattle.std.specs.List.{list_any}
use Rattle.nextest_config_profiles.proofs.Settings.{any_at, any_below, holds, some_below, some_itself}
use Rattle.nextest_config_profiles.specs.Report.Narrowed.{sets_keys}
use Rattle.nextest_config_profiles.specs.Report.Setting.{is_setting, member_of, parts_in, settings_at, settings_below, table_fields}
use Rattle.nextest_config_profiles.specs.Report.Wanted.{path_of}
use Rattle.nextest_config_profiles.proofs.report.narrowed.sets_wanted.Goals as goal

pub returns-then-any : goal.returns-then-any
returns-then-any c =
    let sets = sets_keys (map path_of c.args.wanted.now) c.args.shown.now in
    let fields = c.profile_fields-fields.result.now in
    some_itself sets c.any.result c.if-any.true
    (any_from_yields_List (λ f. is_setting [] (member_of f).absent && sets ((member_of f).key ∷ [])) _ _ c.any.result c.any.ensures.ran (YieldsList-from_slice fields cc) (λ x b q k. search rules)
    ∙ any_at sets [] fields ∙ ap (λ known. list_any (holds sets) (settings_at [] known)) c.profile_fields-fields.ensures)

pub returns-else-any : goal.returns-else-any
returns-else-any c =
    let sets = sets_keys (map path_of c.args.wanted.now) c.args.shown.now in
    let fields = c.profile_fields-fields.result.now in
    some_below sets c.any.result c.any-else-any.result c.if-any.false
    (any_from_yields_List (λ f. is_setting [] (member_of f).absent && sets ((member_of f).key ∷ [])) _ _ c.any.result c.any.ensures.ran (YieldsList-from_slice fields cc) (λ x b q k. search rules)
    ∙ any_at sets [] fields ∙ ap (λ known. list_any (holds sets) (settings_at [] known)) c.profile_fields-fields.ensures)
    (any_from_yields_List (λ f. list_any (holds sets) (settings_at ((member_of f).key ∷ []) (table_fields (member_of f).shape (parts_in f)))) _ _ c.any-else-any.result c.any-else-any.ensures.ran
    (YieldsList-from_slice fields cc) (λ x b q k. search rules)
    ∙ any_below sets fields ∙ ap (λ known. list_any (holds sets) (settings_below known)) c.profile_fields-fields.ensures)
