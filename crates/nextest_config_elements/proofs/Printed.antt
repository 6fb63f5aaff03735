-- The printed text of a count has that count.
use Rattle.std.proofs.Common.{◌≡◌, ℕ, ◌<◌, ◌^◌, pos, List, [], ◌∷◌, ◌++◌, codes, refl, sym, ap, append-nil, arith}
use Rattle.std.specs.Prelude.{slice_index}
use Rattle.std.specs.Char.{to_ascii_lowercase}
use Rattle.std.specs.Fmt.{decimal}
use Rattle.std.specs.Str.Parse.{AllDigits, IsNumeral}
use Rattle.std.proofs.lemmas.Bool.{lt-ltb}
use Rattle.std.proofs.lemmas.Fmt.{decimal_is_IsNumeral}
use Rattle.std.proofs.lemmas.Str.Parse.{digit_from_value}
use Rattle.nextest_config_values.specs.Identifier.{HasNoColon}
use Rattle.nextest_config_elements.proofs.Limits.{cut_count, whole_count}
use Rattle.nextest_config_elements.specs.MaxFail.{HasCount, IsAllText, IsCountText, IsLimitText, limit_text, unsigned}
use Rattle.nextest_config_elements.specs.declared.max_fail.MaxFail.TheVariants.{Count}
use Rattle.nextest_config_elements.specs.declared.max_fail.TerminateMode.{TerminateMode}
use Rattle.nextest_config_elements.specs.declared.max_fail.TerminateMode.TheVariants.{Wait, Immediate}

digits_uncut : (digits : List ℕ) → AllDigits 10 digits → HasNoColon digits
digits_uncut [] h = tt
digits_uncut (c ∷ cs) h = (λ e. let range = digit_from_value c h.0 in omega arith, digits_uncut cs h.1)

digits_not_all : (digits rest : List ℕ) → IsNumeral 10 digits → ¬ (IsAllText (digits ++ rest))
digits_not_all [] rest h = absurd (omega (arith, h.0))
digits_not_all (c ∷ cs) rest h = λ all.
    let range = digit_from_value c h.1.0 in
    let first : to_ascii_lowercase c ≡ 97 = ap (λ bs. slice_index bs 0) all in
    let lower = rw (lt-ltb c 65 (omega arith)) at first in
    omega (arith, range, lower)

count_printed : (max_fail : ℕ) → 0 < max_fail → max_fail < 2 ^ 63 → IsCountText (decimal max_fail) max_fail
count_printed max_fail positive fits =
    let printed = decimal_is_IsNumeral max_fail (omega arith) in
    record {
      number = record { sign = unsigned; digits = decimal max_fail; whole = refl; numeral = printed.0; value = ap pos (sym printed.1) };
      positive = positive;
      fits = fits;
    }

printed_count : (max_fail : ℕ) (mode : TerminateMode) → IsNumeral 10 (decimal max_fail) → HasCount (limit_text (Count max_fail mode)) (decimal max_fail) mode
printed_count max_fail Wait digits =
    whole_count (decimal max_fail) (rw append-nil at (digits_not_all (decimal max_fail) [] digits)) (digits_uncut (decimal max_fail) digits.1)
printed_count max_fail Immediate digits =
    cut_count (limit_text (Count max_fail Immediate)) (decimal max_fail) (codes "immediate") Immediate
    (digits_not_all (decimal max_fail) (codes ":immediate") digits) (record { cut = refl; first = digits_uncut (decimal max_fail) digits.1 }) refl

pub limit_printed : (max_fail : ℕ) (mode : TerminateMode) → 0 < max_fail → max_fail < 2 ^ 63 → IsLimitText (limit_text (Count max_fail mode)) (Count max_fail mode)
limit_printed max_fail mode positive fits =
    (decimal max_fail, printed_count max_fail mode (decimal_is_IsNumeral max_fail (omega arith)).0, count_printed max_fail positive fits)
