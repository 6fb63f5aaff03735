use Rattle.std.proofs.Common.{◌≡◌, ◌∙◌, Some, ap, sym, option_map, rules}
use Rattle.std.specs.Option.{option_copied}
use Rattle.nextest_config.specs.NextestVersion.{variable_of}
use Rattle.nextest_config.proofs.Features.{not_set, set_to}
use Rattle.nextest_config.proofs.nextest_version.experimental.ConfigExperimental.is_enabled.Goals as goal

pub returns-in-Some-get : goal.returns-in-Some-get
returns-in-Some-get c =
    let named : variable_of c.args.self ≡ Some c.in-Some.name.now = sym c.env_var.ensures ∙ ap (option_map (λ name. name.now)) c.in-Some.is in
    set_to c.args.variables.now c.args.self c.in-Some.name.now named c.in-Some-get.value.now c.eq.result (sym c.get.ensures.value ∙ ap option_copied c.in-Some-get.is) (search rules)

pub returns-in-None : goal.returns-in-None
returns-in-None c =
    let named : variable_of c.args.self ≡ Some c.in-Some.name.now = sym c.env_var.ensures ∙ ap (option_map (λ name. name.now)) c.in-Some.is in
    not_set c.args.variables.now c.args.self c.in-Some.name.now named (sym c.get.ensures.value ∙ ap option_copied c.in-None.is)
