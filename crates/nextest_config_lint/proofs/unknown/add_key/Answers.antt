use Rattle.std.proofs.Common.{◌≡◌, [], ◌∷◌, ◌++◌, Some, map, option_map, refl, rules}
use Rattle.std.proofs.lemmas.List.{map_push}
use Rattle.nextest_config_lint.specs.Found.{found_at, suggestion_of, unknown_key}
use Rattle.nextest_config_lint.specs.Settings.{mark_step}
use Rattle.nextest_config_lint.specs.declared.finding.Finding.{Finding}
use Rattle.nextest_config_lint.specs.declared.finding.FindingKind.TheVariants.{UnknownKey}
use Rattle.nextest_config_lint.proofs.unknown.add_key.Goals as goal

pub returns : goal.returns
returns c =
    let hint = option_map suggestion_of c.in_ok-hint.hint in
    let finding : Finding = record { path = c.in_ok-path.path; kind = UnknownKey c.in_ok-key.key c.in_ok-hint.hint } in
    let pushed : c.push.new.self.items ≡ c.args.findings.now.items ++ (finding ∷ []) = search rules in (
      Some (found_at (map mark_step c.args.path.now) (unknown_key c.args.name.now hint)),
      rw (← c.if-is_among.ensures) (hint, rw (c.as_slice.ensures.value, c.in_ok-known.ensures) at c.in_ok-hint.ensures, refl),
      rw (pushed, map_push, c.in_ok-path.ensures, c.in_ok-key.ensures.ok) refl,
    )
