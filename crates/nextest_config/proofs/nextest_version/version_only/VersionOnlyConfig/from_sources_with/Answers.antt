use Rattle.std.proofs.Common.{sym, subst}
use Rattle.nextest_config.specs.NextestVersion.{AreGivenAs, givens_of, sources_under}
use Rattle.nextest_config.proofs.nextest_version.version_only.VersionOnlyConfig.from_sources_with.Goals as goal

pub returns-clause-refused : goal.returns-clause-refused
returns-clause-refused c =
    let givens = givens_of c.args.repository.now c.args.tools.now in
    c.of_list.ensures (sources_under c.args.edition c.args.repository.now c.args.tools.now)
    (c.in-Err.ensures.refused givens (subst (AreGivenAs givens) (sym c.as_slice.ensures.value) c.in_ok-files.ensures))
