-- A line of printable ASCII that isn't cut is shown as it is.
use Rattle.std.proofs.Common.{◌≡◌, ◌∙◌, ℕ, ◌<◌, ◌≤◌, ◌==◌, zero, suc, true, false, List, [], ◌∷◌, flat_map, length, take, ap, arith, refl, sym}
use Rattle.std.proofs.lemmas.Bool.Decides.{nat_tests}
use Rattle.std.proofs.lemmas.List.{append-nil}
use Rattle.std.specs.List.{list_all}
use Rattle.std.specs.Prelude.{chars}
use Rattle.nextest_config_values.proofs.Printable.{ascii_chars, bounds, shown_itself, text_stays}
use Rattle.nextest_config_values.specs.Literal.Shown.{is_printable}
use Rattle.nextest_config_output.proofs.PlainTexts.{unless}
use Rattle.nextest_config_output.specs.Findings.Excerpt.{is_cut, shown_line}
use Rattle.nextest_config_output.specs.Findings.Excerpt.Shown.{character_shown}

no_tab : (c : ℕ) → 32 ≤ c → (c == 9) ≡ false
no_tab c low = grind (arith, nat_tests)

itself : (c : ℕ) → is_printable c ≡ true → character_shown c ≡ c ∷ []
itself c is = unless (c == 9) _ _ (no_tab c (bounds c is).0) (shown_itself c is)

each : (c : ℕ) → is_printable c ≡ true → (character_shown c ≡ c ∷ []) × (c < 128)
each c is = let (low, high) = bounds c is in (itself c is, omega (arith, high))

take_whole : (n : ℕ) (cs : List ℕ) → length cs ≤ n → take n cs ≡ cs
take_whole zero [] short = refl
take_whole (suc n) [] short = refl
take_whole zero (c ∷ cs) short = absurd (omega (arith, short))
take_whole (suc n) (c ∷ cs) short = ap (λ front. c ∷ front) (take_whole n cs (omega (arith, short)))

not_cut : (cs : List ℕ) → length cs ≤ 200 → is_cut cs ≡ false
not_cut cs short = grind (arith, nat_tests)

pub plain_line : (line : List ℕ) → length line ≤ 200 → list_all is_printable line ≡ true → shown_line (take 201 (chars line)) ≡ line
plain_line line short is =
    let decoded : chars line ≡ line = ascii_chars character_shown is_printable each line is in
    let same : flat_map character_shown line ≡ line = ap (flat_map character_shown) (sym decoded) ∙ text_stays character_shown is_printable each line is in
    rw (decoded, take_whole 201 line (omega (arith, short)), take_whole 200 line short, not_cut line short)
    (append-nil _ ∙ same)
