use Rattle.std.proofs.Common.{◌≡◌, arith, false, nat_eq, rules, subst, tests, true}
use Rattle.std.proofs.lemmas.Iterator.{cases_from_all, YieldsList, YieldsList-from_zip}
use Rattle.std.proofs.lemmas.Iterator.Consumers.{YieldsList-at}
use Rattle.std.proofs.lemmas.Str.{Bytes-gives, reads_byte}
use Rattle.nextest_config_values.proofs.NearestWords.{alike_by_pairs}
use Rattle.nextest_config_values.specs.NearestWord.{plain_byte}
use Rattle.nextest_config_values.proofs.nearest_word.is_same.Goals as goal

pub returns-then-name-word : goal.returns-then-name-word
returns-then-name-word c =
    let of_name = subst (YieldsList reads_byte (λ byte. byte) c.bytes.result) c.bytes.ensures.rest (record { runs = Bytes-gives c.bytes.result }) in
    let of_word = subst (YieldsList reads_byte (λ byte. byte) c.bytes-then-name-word.result) c.bytes-then-name-word.ensures.rest (record { runs = Bytes-gives c.bytes-then-name-word.result }) in
    alike_by_pairs (λ a b. nat_eq (plain_byte a) (plain_byte b)) c.args.name.now c.args.word.now c.all.result (omega (arith, c.if-name-word.true))
    (cases_from_all c.all.new.self _ _ (λ pair. nat_eq (plain_byte pair.0) (plain_byte pair.1) ≡ true) (λ pair. nat_eq (plain_byte pair.0) (plain_byte pair.1) ≡ false) c.all.ensures.ran
    (YieldsList-from_zip {steps = reads_byte} {others = reads_byte} {v = λ byte. byte} {w = λ byte. byte} {s = c.zip.result} (YieldsList-at c.zip.ensures.first of_name) (YieldsList-at c.zip.ensures.second of_word))
    (λ x q k. search (rules, tests)) (λ x q k. search (rules, tests)))
