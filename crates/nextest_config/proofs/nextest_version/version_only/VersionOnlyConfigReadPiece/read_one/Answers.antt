use Rattle.std.proofs.Common.{rules}
use Rattle.nextest_config.specs.NextestVersion.{source_under, configuration_of}
use Rattle.nextest_config.proofs.Standing.{stands_for_nothing}
use Rattle.nextest_config.proofs.nextest_version.version_only.VersionOnlyConfigReadPiece.read_one.Goals as goal

pub returns-then-asks_nothing-clause-read : goal.returns-then-asks_nothing-clause-read
returns-then-asks_nothing-clause-read c = stands_for_nothing (source_under c.args.edition.now c.args.source.now) (configuration_of c.new.result) c.new.ensures
    (c.asks_nothing.ensures (search rules) c.args.edition.now c.args.source.now.source.kind)
