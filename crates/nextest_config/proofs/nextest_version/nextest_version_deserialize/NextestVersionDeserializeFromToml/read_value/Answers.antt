use Rattle.std.proofs.Common.{rules, sym}
use Rattle.nextest_config.proofs.nextest_version.nextest_version_deserialize.NextestVersionDeserializeFromToml.read_value.Goals as goal

pub returns-in-None-clause-refused : goal.returns-in-None-clause-refused
returns-in-None-clause-refused c = rw (sym c.in_default.ensures, sym c.in-None.ensures) (search rules)
