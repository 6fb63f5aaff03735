-- Leaving out a fraction.
use Rattle.std.proofs.Common.{◌≡◌, ℕ, Bool, true, false, List, [], ◌∷◌, ◌++◌, refl, rules}
use Rattle.std.specs.Char.{is_ascii_digit}
use Rattle.toml_spans.specs.Characters.{dot}
use Rattle.nextest_config_values.specs.Duration.{IsRun}
use Rattle.nextest_config_values.specs.Duration.Unjudged.{before_by, begins_with_digit, without_fractions_after}
use Rattle.nextest_config_values.specs.Duration.Unjudged.Before.{digit, fraction}

-- the digits of a fraction are left out
past_digits : (run behind : List ℕ) → IsRun is_ascii_digit run behind → without_fractions_after fraction (run ++ behind) ≡ without_fractions_after digit behind
past_digits [] [] h = refl
past_digits [] (c ∷ cs) h = let no : is_ascii_digit c ≡ false = search rules in rw no refl
past_digits (c ∷ run) behind h =
    let yes : is_ascii_digit c ≡ true = search rules in
    rw yes (past_digits run behind (record { inside = h.inside.1; over = h.over }))

-- a dot between two digits is left out, with the digits after it
pub fraction_step : {text behind digits after : List ℕ} {after_digit : Bool} (kept : List ℕ) (c : ℕ) → kept ++ without_fractions_after (before_by after_digit) (c ∷ behind) ≡ text
    → after_digit ≡ true → c ≡ dot → begins_with_digit behind ≡ true → behind ≡ digits ++ after → IsRun is_ascii_digit digits after
    → kept ++ without_fractions_after (before_by after_digit) after ≡ text
fraction_step {digits = digits} {after = after} kept c so digit_before is_dot begins parts h =
    rw digit_before (rw (digit_before, is_dot, begins, parts, past_digits digits after h) at so)
