use Rattle.std.proofs.Common.{◌∙◌, ◌++◌, string_bytes, refl, subst, sym, true, ap}
use Rattle.std.proofs.Output.{contents_after_writes}
use Rattle.nextest_config_values.specs.Literal.Value.{IsLiteral}
use Rattle.toml.specs.View.{view}
use Rattle.nextest_config_values.proofs.literal.value.value_text.Goals as goal

pub returns-in-Ok : goal.returns-in-Ok
returns-in-Ok c =
    let (text, written, is) = c.in-Ok.ensures c.new-f.ensures.plain (refl {a = true}) in
    subst (IsLiteral (view c.args.value.now))
    (sym (ap string_bytes c.into_inner.ensures ∙ contents_after_writes _ string_bytes (λ w l v t. t) _ text _ written.wrote ∙ ap (λ l. l ++ text) (ap string_bytes c.new-f.ensures.writer ∙ c.new.ensures.bytes))) is
