-- A text in which nothing is escaped stays as it is.
use Rattle.std.proofs.Common.{◌≡◌, ℕ, ◌<◌, ◌==◌, ◌||◌, cond, not, Bool, true, false, List, [], ◌∷◌, arith, refl, sym}
use Rattle.std.proofs.lemmas.Bool.{true≢false}
use Rattle.std.specs.List.{list_all}
use Rattle.nextest_config_values.proofs.Printable.{both_are, bounds, shown_itself, text_stays}
use Rattle.nextest_config_values.specs.Literal.Shown.{is_printable}
use Rattle.nextest_config_output.specs.Findings.Escapes.{escaped_character, escaped_text, is_marked, is_plain}
use Rattle.nextest_config_output.specs.declared.findings.escapes.Escapes.{Escapes}
use Rattle.nextest_config_output.specs.declared.findings.escapes.Escapes.TheVariants.{InLine, Message, Property}

pub unless : (b : Bool) (xs ys : List ℕ) {zs : List ℕ} → b ≡ false → ys ≡ zs → cond b xs ys ≡ zs
unless true xs ys is same = absurd (true≢false is)
unless false xs ys is same = same

is_not : (b : Bool) → not b ≡ true → b ≡ false
is_not true is = sym is
is_not false is = refl

neither : (a b : Bool) → (a || b) ≡ false → (a ≡ false) × (b ≡ false)
neither true b is = absurd (true≢false is)
neither false b is = (refl, is)

unmarked : (escapes : Escapes) (c : ℕ) → is_printable c ≡ true → is_marked escapes c ≡ false → escaped_character escapes c ≡ c ∷ []
unmarked InLine c is none = shown_itself c is
unmarked Message c is none = unless (c == 37) _ _ none (shown_itself c is)
unmarked Property c is none =
    let (others, comma) = neither (c == 37 || c == 58) (c == 44) none in
    let (percent, colon) = neither (c == 37) (c == 58) others in
    unless (c == 58) _ _ colon (unless (c == 44) _ _ comma (unless (c == 37) _ _ percent (shown_itself c is)))

each : (escapes : Escapes) (c : ℕ) → is_plain escapes c ≡ true → (escaped_character escapes c ≡ c ∷ []) × (c < 128)
each escapes c is =
    let (one, unmarked_is) = both_are (is_printable c) (not (is_marked escapes c)) is in
    let (low, high) = bounds c one in
    (unmarked escapes c one (is_not _ unmarked_is), omega (arith, high))

pub plain_text : (escapes : Escapes) (text : List ℕ) → list_all (is_plain escapes) text ≡ true → escaped_text escapes text ≡ text
unfolding escaped_text
plain_text escapes text is = text_stays (escaped_character escapes) (is_plain escapes) (each escapes) text is
