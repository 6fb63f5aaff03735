use Rattle.std.proofs.Common.{◌≡◌, ◌∙◌, ap, false, lit<, nat_eq, rules, tests, true}
use Rattle.std.proofs.lemmas.List.{map-id}
use Rattle.std.proofs.lemmas.Iterator.{cases_from_any}
use Rattle.std.proofs.lemmas.Iterator.Splits.{YieldsList-from_str_split}
use Rattle.std.specs.Cmp.Lexicographic.{pointwise}
use Rattle.nextest_config_lint.proofs.Keys.{any_known}
use Rattle.nextest_config_values.specs.NearestWord.{dash}
use Rattle.nextest_config_lint.specs.Unknown.{pieces_of}
use Rattle.nextest_config_lint.specs.Settings.{is_known}
use Rattle.nextest_config_lint.proofs.unknown.has_part.Goals as goal

pub returns : goal.returns
returns c = any_known (λ part. part) c.args.name.now (pieces_of c.args.word.now) c.any.result
    (cases_from_any _ _ _ (λ part. pointwise nat_eq part c.args.name.now ≡ true) (λ part. pointwise nat_eq part c.args.name.now ≡ false) c.any.ensures.ran
    (YieldsList-from_str_split dash c.args.word.now (lit< tt) c.split.ensures.text c.split.ensures.has_more c.split.ensures.pattern)
    (λ x q k. search (rules, tests)) (λ x q k. search (rules, tests)))
    ∙ ap (λ parts. is_known parts c.args.name.now) (map-id (pieces_of c.args.word.now))
