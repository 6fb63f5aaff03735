use Rattle.std.proofs.Common.{◌≡◌, ◌∙◌, ap, false, nat_eq, rules, tests, true}
use Rattle.std.proofs.lemmas.Iterator.{cases_from_any, YieldsList-from_slice}
use Rattle.std.specs.Cmp.Lexicographic.{pointwise}
use Rattle.nextest_config_elements.specs.declared.field.Field.{out-Field}
use Rattle.nextest_config_lint.proofs.Keys.{any_known, words_of_fields}
use Rattle.nextest_config_lint.specs.Settings.{is_known}
use Rattle.nextest_config_lint.proofs.settings.is_among.Goals as goal

pub returns : goal.returns
returns c = any_known (λ f. (out-Field f).key.now) c.args.name.now c.args.fields.now c.any.result
    (cases_from_any _ _ _ (λ f. pointwise nat_eq (out-Field f).key.now c.args.name.now ≡ true) (λ f. pointwise nat_eq (out-Field f).key.now c.args.name.now ≡ false) c.any.ensures.ran
    (YieldsList-from_slice c.args.fields.now cc)
    (λ x q k. search (rules, tests)) (λ x q k. search (rules, tests)))
    ∙ ap (λ words. is_known words c.args.name.now) (words_of_fields c.args.fields.now)
