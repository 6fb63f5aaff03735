use Rattle.std.proofs.Common.{◌≡◌, [], ◌∷◌, ◌++◌, Some, option_map, refl, rules}
use Rattle.std.proofs.lemmas.List.{map_push}
use Rattle.nextest_config_lint.specs.Found.{found_at, suggestion_of, unknown_name}
use Rattle.nextest_config_lint.specs.Settings.{setting_view}
use Rattle.nextest_config_lint.specs.declared.finding.Finding.{Finding}
use Rattle.nextest_config_lint.specs.declared.finding.FindingKind.TheVariants.{UnknownFeature}
use Rattle.nextest_config_lint.proofs.features.add_feature.Goals as goal

pub returns : goal.returns
returns c =
    let hint = option_map suggestion_of c.in_ok-hint.hint in
    let to = c.in_ok-path.ensures in
    let finding : Finding = record { path = c.in_ok-path.path; kind = UnknownFeature c.in_ok-name.name c.in_ok-hint.hint } in
    let pushed : c.push.new.self.items ≡ c.args.findings.now.items ++ (finding ∷ []) = search rules in (
      Some (found_at ((setting_view c.args.setting.now).path ++ (to.0 ∷ [])) (unknown_name c.args.name.now hint)),
      (to.0, hint, to.1, c.in_ok-hint.ensures, refl),
      rw (pushed, map_push, to.2, c.in_ok-name.ensures.ok) refl,
    )
