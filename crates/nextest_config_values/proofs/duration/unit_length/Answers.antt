use Rattle.std.proofs.Common.{◌≡◌, ◌≢◌, ◌∙◌, ◌||◌, ℕ, Bool, true, List, length, nat_eq, refl, rules, slice_get, Some}
use Rattle.std.specs.List.{filter}
use Rattle.std.specs.Prelude.{chars}
use Rattle.std.specs.Str.{IsUtf8}
use Rattle.nextest_config_values.specs.Duration.{length_in, unit_length, units}
use Rattle.nextest_config_values.proofs.Units.{by_bytes, by_first, by_no_first, by_one, by_others, encoded, first_is, others}
use Rattle.nextest_config_values.proofs.duration.unit_length.Goals as goal

-- the bytes that words of units begin with
abbrev begins_unit : ℕ → Bool
begins_unit b = nat_eq b 110 || (nat_eq b 117 || (nat_eq b 194 || (nat_eq b 109 || (nat_eq b 115 || (nat_eq b 104 || (nat_eq b 100 || (nat_eq b 119 || nat_eq b 121)))))))

-- a word of more than one byte
longer : (word : List ℕ) → IsUtf8 word → length word ≢ 1 → length_in (others (encoded units)) word ≡ unit_length (chars word)
longer word utf8 long = by_others (encoded units) word long ∙ by_bytes units word utf8 (search rules)

-- one that begins so
beginning : (kind : ℕ → Bool) (word : List ℕ) (first : ℕ) → IsUtf8 word → length word ≢ 1 → Some first ≡ slice_get word 0 → kind first ≡ true
    → length_in (filter (λ row. first_is kind row.0) (others (encoded units))) word ≡ unit_length (chars word)
beginning kind word first utf8 long begins is = by_first kind (others (encoded units)) word first begins is ∙ longer word utf8 long

pub returns-in-110 : goal.returns-in-110
unfolding lib.Utf8.encode
returns-in-110 c = c.find_unit-in-110.ensures ∙ beginning (λ b. nat_eq b 110) _ c.in_ok-first.first.now c.utf8.word c.if-word-eq1.false (search rules) (search rules)

pub returns-in-117 : goal.returns-in-117
unfolding lib.Utf8.encode
returns-in-117 c = c.find_unit-in-117.ensures ∙ beginning (λ b. nat_eq b 117 || nat_eq b 194) _ c.in_ok-first.first.now c.utf8.word c.if-word-eq1.false (search rules) (search rules)

pub returns-in-109 : goal.returns-in-109
unfolding lib.Utf8.encode
returns-in-109 c = c.find_unit-in-109.ensures ∙ beginning (λ b. nat_eq b 109) _ c.in_ok-first.first.now c.utf8.word c.if-word-eq1.false (search rules) (search rules)

pub returns-in-115 : goal.returns-in-115
unfolding lib.Utf8.encode
returns-in-115 c = c.find_unit-in-115.ensures ∙ beginning (λ b. nat_eq b 115) _ c.in_ok-first.first.now c.utf8.word c.if-word-eq1.false (search rules) (search rules)

pub returns-in-104 : goal.returns-in-104
unfolding lib.Utf8.encode
returns-in-104 c = c.find_unit-in-104.ensures ∙ beginning (λ b. nat_eq b 104) _ c.in_ok-first.first.now c.utf8.word c.if-word-eq1.false (search rules) (search rules)

pub returns-in-100 : goal.returns-in-100
unfolding lib.Utf8.encode
returns-in-100 c = c.find_unit-in-100.ensures ∙ beginning (λ b. nat_eq b 100) _ c.in_ok-first.first.now c.utf8.word c.if-word-eq1.false (search rules) (search rules)

pub returns-in-119 : goal.returns-in-119
unfolding lib.Utf8.encode
returns-in-119 c = c.find_unit-in-119.ensures ∙ beginning (λ b. nat_eq b 119) _ c.in_ok-first.first.now c.utf8.word c.if-word-eq1.false (search rules) (search rules)

pub returns-in-121 : goal.returns-in-121
unfolding lib.Utf8.encode
returns-in-121 c = c.find_unit-in-121.ensures ∙ beginning (λ b. nat_eq b 121) _ c.in_ok-first.first.now c.utf8.word c.if-word-eq1.false (search rules) (search rules)

pub returns-in_err-first : goal.returns-in_err-first
unfolding lib.Utf8.encode
returns-in_err-first c = c.from_residual.ensures ∙ by_no_first begins_unit (others (encoded units)) c.args.word.now (λ b e. absurd (cc (e, c.in_err-first.ensures.value, c.as_bytes.ensures.value))) refl
    ∙ longer _ c.utf8.word c.if-word-eq1.false

pub returns-in_default : goal.returns-in_default
unfolding lib.Utf8.encode
returns-in_default c = by_no_first begins_unit (others (encoded units)) c.args.word.now (λ b e. (let same : b ≡ c.in_ok-first.first.now = cc (e, c.in_ok-first.ensures.value, c.as_bytes.ensures.value) in rw same (search rules))) refl
    ∙ longer _ c.utf8.word c.if-word-eq1.false

pub returns-then-word-eq1 : goal.returns-then-word-eq1
unfolding lib.Utf8.encode
returns-then-word-eq1 c = c.find_unit.ensures ∙ by_one (encoded units) c.args.word.now c.if-word-eq1.true
    ∙ by_bytes units c.args.word.now c.utf8.word (search rules)
