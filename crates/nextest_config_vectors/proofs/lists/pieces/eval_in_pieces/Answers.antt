use Rattle.std.proofs.Common.{map, sym, ap, subst, ◌∙◌}
use Rattle.semver.specs.Identifiers.{parts_of}
use Rattle.nextest_config.specs.NextestVersion.{source_under, alone, configuration_of, IsSelected, Roles, verdict}
use Rattle.nextest_config.specs.NextestVersion.Verdict.{Verdict}
use Rattle.nextest_config_vectors.proofs.lists.pieces.eval_in_pieces.Goals as goal

pub returns-in-Ok-clause-selected : goal.returns-in-Ok-clause-selected
returns-in-Ok-clause-selected c =
    let (asked, read, selects) = c.law_selected.ensures (map (source_under c.args.edition) c.args.sources.now) (configuration_of c.in_ok-whole.whole) c.in_ok-whole.ensures.stands in
    let current = parts_of c.args.current.now in
    let told = c.in-Ok.ensures.value ∙ ap (λ (roles : Roles). verdict roles current c.args.override_version_check) c.nextest_version.ensures in
    (asked, read, subst (λ (v : Verdict). IsSelected (map (alone current c.args.override_version_check) asked) v) (sym told) (selects current c.args.override_version_check))
