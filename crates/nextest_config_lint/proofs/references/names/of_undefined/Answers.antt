use Rattle.std.proofs.Common.{map, option_map, rules, string_bytes}
use Rattle.nextest_config_lint.specs.Found.{suggestion_of}
use Rattle.nextest_config_lint.proofs.references.names.of_undefined.Goals as goal

pub returns-clause-reported : goal.returns-clause-reported
returns-clause-reported c files by =
    let names = map string_bytes c.names.result.now.keys in
    let are = c.names.ensures files by in
    (names, option_map suggestion_of c.in_ok-hint.hint, are, c.in_ok-hint.ensures, search rules)
