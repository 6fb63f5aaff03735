use Rattle.std.proofs.Common.{◌≡◌, ◌≢◌, [], ◌∷◌, inr, map, refl, rules, string_bytes}
use Rattle.nextest_config.specs.NextestVersion.{features_of, no_features}
use Rattle.nextest_config_lint.specs.Found.{found_at, tool_names}
use Rattle.nextest_config_lint.specs.Settings.{setting_view}
use Rattle.nextest_config_lint.specs.declared.finding.Finding.{Finding}
use Rattle.nextest_config_lint.specs.declared.finding.FindingKind.TheVariants.{ToolFeatures}
use Rattle.nextest_config_lint.proofs.features.tool_features.Goals as goal

pub returns : goal.returns
returns c =
    let names = map string_bytes c.in_ok-features.features.keys in
    let some : features_of c.args.named.now ≢ no_features = λ none. (let is = c.is_empty.ensures.1 none in cc (is, c.if-is_empty.false)) in
    let finding : Finding = record { path = c.in_ok-path.path; kind = ToolFeatures c.in_ok-features.features } in
    let pushed : c.push.new.self.items ≡ finding ∷ [] = search rules in (
      found_at (setting_view c.args.setting.now).path (tool_names names) ∷ [],
      inr (some, (names, c.in_ok-features.ensures, refl)),
      rw (pushed, c.in_ok-path.ensures) refl,
    )
