use Rattle.std.proofs.Common.{rules}
use Rattle.nextest_config.specs.NextestVersion.{under, configuration_of, file_given}
use Rattle.nextest_config.proofs.Standing.{stands_for_nothing}
use Rattle.nextest_config.proofs.nextest_version.file.File.read.Goals as goal

pub returns-then-asks_nothing-clause-stands : goal.returns-then-asks_nothing-clause-stands
returns-then-asks_nothing-clause-stands c =
    let given = file_given c.args.self.now in
    stands_for_nothing (under c.args.edition given) (configuration_of c.new.result) c.new.ensures
    (rw c.contents.ensures at c.asks_nothing.ensures (search rules) c.args.edition given.place.kind)
