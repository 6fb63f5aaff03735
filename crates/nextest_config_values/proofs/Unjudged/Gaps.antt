-- Leaving out gaps, a character at a time.
use Rattle.std.proofs.Common.{◌≡◌, ℕ, Bool, true, false, List, [], ◌∷◌, ◌++◌, refl, ap, sym, ◌∙◌, inl, inr, append_assoc, rules}
use Rattle.std.proofs.lemmas.Bool.{and_parts, cases_Bool, false≢true}
use Rattle.std.specs.Prelude.{IsTrue, ◌&&◌, ◌||◌}
use Rattle.std.specs.Char.{is_ascii_digit, is_whitespace}
use Rattle.nextest_config_values.specs.Duration.{IsRun}
use Rattle.nextest_config_values.specs.Duration.Unjudged.{begins_with_digit, space_then_digit, without_gaps, without_gaps_after}

-- white space is no digit
no_digit : (c : ℕ) → IsTrue (is_whitespace c) → is_ascii_digit c ≡ false
no_digit c white = search rules

-- after white space, a digit comes next or not
pub past_space : (space behind : List ℕ) → IsRun is_whitespace space behind → space_then_digit (space ++ behind) ≡ begins_with_digit behind
past_space [] [] h = refl
past_space [] (c ∷ cs) h = let no : is_whitespace c ≡ false = search rules in elim (cases_Bool (is_ascii_digit c)) [
  | inl holds ↦ rw holds refl
  | inr other ↦ rw (other, no) refl
]
past_space (c ∷ space) behind h =
    let white : is_whitespace c ≡ true = search rules in
    rw (no_digit c h.inside.0, white) (past_space space behind (record { inside = h.inside.1; over = h.over }))

-- within a gap, a digit comes next after the white space
gap_goes_on : (in_gap : Bool) (c : ℕ) (cs : List ℕ) → (in_gap ≡ true → space_then_digit (c ∷ cs) ≡ true)
    → (is_whitespace c && (in_gap || space_then_digit cs)) ≡ (is_whitespace c && space_then_digit cs)
gap_goes_on in_gap c cs next = search rules

-- ---- the loop

-- what is kept so far, and that a digit comes next within a gap
pub record IsSoFar (text kept rest : List ℕ) (after_digit in_gap : Bool) : Type 0 where
  pub whole : kept ++ without_gaps_after after_digit rest ≡ without_gaps text
  pub digit_next : in_gap ≡ true → space_then_digit rest ≡ true

-- a character of a gap is left out
pub left_out : {text kept : List ℕ} {after_digit in_gap : Bool} (c : ℕ) (behind : List ℕ) → IsSoFar text kept (c ∷ behind) after_digit in_gap
    → (after_digit && (is_whitespace c && (in_gap || space_then_digit behind))) ≡ true → IsSoFar text kept behind after_digit true
left_out {text} {kept} {after_digit} {in_gap} c behind so gap =
    let (digit, white_next) = and_parts after_digit (is_whitespace c && (in_gap || space_then_digit behind)) gap in
    let (white, next) = and_parts (is_whitespace c) (space_then_digit behind) (sym (gap_goes_on in_gap c behind so.digit_next) ∙ white_next) in
    record { whole = rw digit (rw (digit, white, next) at so.whole); digit_next = λ h. next }

-- any other stays
pub stays : {text kept : List ℕ} {after_digit in_gap : Bool} (c : ℕ) (behind : List ℕ) → IsSoFar text kept (c ∷ behind) after_digit in_gap
    → (after_digit && (is_whitespace c && (in_gap || space_then_digit behind))) ≡ false → IsSoFar text (kept ++ (c ∷ [])) behind (is_ascii_digit c) false
stays {text} {kept} {after_digit} {in_gap} c behind so none =
    let other : (after_digit && (is_whitespace c && space_then_digit behind)) ≡ false = ap (λ b. after_digit && b) (sym (gap_goes_on in_gap c behind so.digit_next)) ∙ none in record {
      whole = append_assoc kept (c ∷ []) (without_gaps_after (is_ascii_digit c) behind) ∙ rw other at so.whole;
      digit_next = λ never. absurd (false≢true never);
    }
