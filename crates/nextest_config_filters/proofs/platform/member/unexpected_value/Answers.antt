use Rattle.std.proofs.Common.{◌∷◌, [], sym}
use Rattle.std.specs.Str.{chars}
use Rattle.toml_spans.specs.Characters.{double_quote}
use Rattle.nextest_config_filters.specs.Front.{in_run, IsRest}
use Rattle.nextest_config_filters.specs.declared.front.Run.TheVariants.{Value}
use Rattle.nextest_config_filters.proofs.Fronts.{past, rest_behind, run_in}
use Rattle.nextest_config_filters.proofs.platform.member.unexpected_value.Goals as goal

pub fault_up_to-requires : goal.fault_up_to-requires
fault_up_to-requires c =
    let quoted = chars c.args.quoted.now in
    let rest = chars c.in-Some.rest.now in
    let run : IsRest quoted (c.in-Some.field-0-0 ∷ rest) =
    rw (sym c.in-Some.ensures, c.behind_run.ensures) (run_in (in_run Value) quoted) in
    rw c.requires (rest_behind double_quote quoted rest (past quoted rest c.in-Some.field-0-0 run).0)

pub fault_up_to-requires-in-None : goal.fault_up_to-requires-in-None
fault_up_to-requires-in-None c = (double_quote ∷ [], c.requires)
