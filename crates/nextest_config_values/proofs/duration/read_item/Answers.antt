use Rattle.std.proofs.Common.{◌≡◌, ◌∙◌, ◌||◌, ℕ, not, rules, sym}
use Rattle.std.proofs.lemmas.List.Sorted.{answers_always}
use Rattle.std.specs.Char.{is_ascii_digit, is_whitespace}
use Rattle.nextest_config_values.specs.Duration.{is_in_word}
use Rattle.nextest_config_values.proofs.Durations.{number_expected, number_too_large, read, unit_missing, unit_unknown}
use Rattle.nextest_config_values.proofs.duration.read_item.Goals as goal

ends_word : (c : ℕ) → (is_whitespace c || is_ascii_digit c) ≡ not (is_in_word c)
ends_word c = search rules

pub returns-then-is_empty-clause-refused : goal.returns-then-is_empty-clause-refused
returns-then-is_empty-clause-refused c = number_expected c.args.at
    (c.split_run.ensures.run is_ascii_digit (search (rules, answers_always))) (search rules)

pub returns-in_default-clause-refused : goal.returns-in_default-clause-refused
returns-in_default-clause-refused c =
    number_too_large c.args.at (c.split_run.ensures.run is_ascii_digit (search (rules, answers_always))) c.in_default.field-0
    (search rules) (rw c.in_default.is at c.parse.ensures.value.0)

pub returns-then-is_empty-2-clause-refused : goal.returns-then-is_empty-2-clause-refused
returns-then-is_empty-2-clause-refused c =
    unit_missing c.args.at c.utf8.text c.trim_start-after.utf8
    (c.split_run.ensures.run is_ascii_digit (search (rules, answers_always))) c.trim_start-after.ensures.trim
    (c.split_run-2.ensures.run is_in_word (search (rules, answers_always, ends_word))) c.parse.result c.parse.ensures.value.0
    c.in-Ok.number c.in-Ok.is (search rules)

pub returns-in-None-clause-refused : goal.returns-in-None-clause-refused
returns-in-None-clause-refused c =
    unit_unknown c.args.at c.utf8.text c.trim_start-after.utf8
    (c.split_run.ensures.run is_ascii_digit (search (rules, answers_always))) c.trim_start-after.ensures.trim
    (c.split_run-2.ensures.run is_in_word (search (rules, answers_always, ends_word))) c.parse.result c.parse.ensures.value.0
    c.in-Ok.number c.in-Ok.is (search rules) (sym c.unit_length.ensures ∙ c.in-None.is)

pub returns-in-Some-clause-read : goal.returns-in-Some-clause-read
returns-in-Some-clause-read c = rw (c.from.ensures, c.from-in-Some.ensures)
    (read c.args.at c.utf8.text c.trim_start-after.utf8
    (c.split_run.ensures.run is_ascii_digit (search (rules, answers_always))) c.trim_start-after.ensures.trim
    (c.split_run-2.ensures.run is_in_word (search (rules, answers_always, ends_word))) c.parse.result c.parse.ensures.value.0
    c.in-Ok.number c.in-Ok.is c.in-Some.unit (sym c.unit_length.ensures ∙ c.in-Some.is))
