use Rattle.std.proofs.Common.{IsTrue, inl, map, option_map, rules, string_bytes}
use Rattle.std.specs.List.{filter}
use Rattle.nextest_config_lint.proofs.OtherNames.{others_are}
use Rattle.nextest_config_lint.specs.Found.{suggestion_of}
use Rattle.nextest_config_lint.specs.References.Profiles.{is_other}
use Rattle.nextest_config_lint.proofs.references.profiles.of_parent_name.Goals as goal

pub returns-clause-reported : goal.returns-clause-reported
returns-clause-reported c files by =
    let undefined : IsTrue c.is_undefined_profile.result = search rules in
    let names = map string_bytes c.args.defined.now.profiles.keys in
    let words = filter (is_other c.args.profile.now) names in
    let are = others_are files c.args.profile.now names by.profiles in
    inl ((c.is_undefined_profile.ensures files by).0 undefined, (words, option_map suggestion_of c.in_ok-hint.hint, are, c.in_ok-hint.ensures, search rules))
