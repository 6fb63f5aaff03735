use Rattle.std.proofs.Common.{◌≡◌, ◌⊎◌, ◌∙◌, ap, codes, false, inl, rules, subst, sym, to_z-of_z, true}
use Rattle.std.proofs.lemmas.Result.{IfOk-weaker}
use Rattle.std.specs.Fmt.{signed_decimal}
use Rattle.toml.specs.Data.{integer}
use Rattle.toml.proofs.Views.{view-Boolean, view-Integer}
use Rattle.nextest_config_elements.specs.MaxFail.{HasInteger, number_from_parts}
use Rattle.nextest_config_lint.specs.Hints.Written.{Writes}
use Rattle.nextest_config_lint.proofs.hints.written.hint_by_text.Goals as goal

pub returns-in-true : goal.returns-in-true
returns-in-true c =
    IfOk-weaker c.hint_if_taken.result _ _ (λ hint meant. inl (_, subst (Writes c.args.text.now) (sym (view-Boolean true)) c.in-true.is, meant)) c.hint_if_taken.ensures

pub returns-in-false : goal.returns-in-false
returns-in-false c =
    IfOk-weaker c.hint_if_taken-in-false.result _ _ (λ hint meant. inl (_, subst (Writes c.args.text.now) (sym (view-Boolean false)) c.in-false.is, meant)) c.hint_if_taken-in-false.ensures

pub returns-then-is_written : goal.returns-then-is_written
returns-then-is_written c =
    let parsed = c.in-Ok.ensures.value.0 in
    let has : HasInteger c.args.text.now c.in-Ok.number = rw parsed.1 (number_from_parts c.args.text.now parsed.0.0, parsed.0.1) in
    let written : (c.args.text.now ≡ signed_decimal c.in-Ok.number) ⊎ (c.args.text.now ≡ codes "-0") = search rules in
    IfOk-weaker c.hint_if_taken-then-is_written.result _ _ (λ hint meant. inl (_, subst (Writes c.args.text.now) (sym (view-Integer _ ∙ ap integer (to_z-of_z has.1))) (has, written), meant)) c.hint_if_taken-then-is_written.ensures
