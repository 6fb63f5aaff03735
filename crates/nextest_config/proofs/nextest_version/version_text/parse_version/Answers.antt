use Rattle.std.proofs.Common.{inl, inr, rules}
use Rattle.semver.specs.Identifiers.{parts_of}
use Rattle.nextest_config.specs.NextestVersion.{no_version, read_three, read_two}
use Rattle.nextest_config.proofs.nextest_version.version_text.parse_version.Goals as goal

pub returns-in-Some-2-clause-version : goal.returns-in-Some-2-clause-version
returns-in-Some-2-clause-version c =
    let (numbers, three, parts) = read_three c.args.text.now (parts_of c.in-Some-2.version) (search rules) (search rules) in
    (numbers, inl three, parts)

pub returns-in-Some-3-clause-version : goal.returns-in-Some-3-clause-version
returns-in-Some-3-clause-version c =
    let (numbers, two, parts) = read_two c.args.text.now (parts_of c.in-Some-3.version) (search rules) (search rules) in
    (numbers, inr two, parts)

pub returns-clause-fault : goal.returns-clause-fault
returns-clause-fault c = (search rules, search rules, no_version c.args.text.now (search rules) (search rules))
