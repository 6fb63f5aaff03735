use Rattle.std.proofs.Common.{◌∷◌, [], ap, ◌∙◌, refl}
use Rattle.toml_spans.specs.Characters.{backslash}
use Rattle.nextest_config_filters.proofs.filter.argument.unknown_escape.Goals as goal

pub split_before-requires : goal.split_before-requires
split_before-requires c =
    (backslash ∷ c.in-Some.c ∷ [], c.requires ∙ ap (λ rest. backslash ∷ rest) c.in-Some.ensures)

pub returns : goal.returns
returns c =
    let escape = c.split_before.ensures.front (backslash ∷ c.in-Some.c ∷ [])
    (c.requires ∙ ap (λ rest. backslash ∷ rest) c.in-Some.ensures) in
    rw (c.in-Some.ensures, c.fault_at.ensures, escape, c.split_before.ensures.rest, c.escape_flaw.ensures) refl
