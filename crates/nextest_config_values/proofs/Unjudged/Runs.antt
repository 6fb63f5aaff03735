-- Lists of characters that are cut after a run of one kind.
use Rattle.std.proofs.Common.{◌≡◌, ℕ, ◌+◌, ◌≤◌, suc, Bool, cond, List, [], ◌∷◌, length, take, drop, get_or, ◌-◌, Some, None, nat_lt, ◌∙◌, inl, inr, rules, arith}
use Rattle.std.specs.Prelude.{not}
use Rattle.std.proofs.lemmas.Bool.{cases_Bool}
use Rattle.std.proofs.lemmas.Bool.Decides.{nat_tests}
use Rattle.std.proofs.lemmas.Grind.{common_steps}
use Rattle.std.proofs.lemmas.List.{take_all}
use Rattle.std.proofs.lemmas.List.Sums.{prefix_len-le-length}
use Rattle.std.specs.List.{position, position_or_len}
use Rattle.std.specs.Option.{unwrap_or}
use Rattle.nextest_config_values.specs.Duration.{IsRun}

-- the cut at the first character of another kind
cut_at_place : (kind : ℕ → Bool) (text : List ℕ) → let place = position_or_len (λ c. not (kind c)) text in IsRun kind (take place text) (drop place text)
cut_at_place kind [] = record { inside = tt; over = λ begins. begins }
cut_at_place kind (c ∷ cs) =
    let rest = cut_at_place kind cs in
    elim (cases_Bool (kind c)) [
      | inl holds ↦
          let one : 1 + position_or_len (λ d. not (kind d)) cs ≡ suc (position_or_len (λ d. not (kind d)) cs) = omega arith in
          rw (holds, one) (record { inside = (holds, rest.inside); over = rest.over })
      | inr other ↦ rw other (record { inside = tt; over = λ begins. search rules })
    ]

-- the place that `position` finds, or the end
place_found : (n len : ℕ) → n ≤ len → unwrap_or (cond (nat_lt n len) (Some n) None) len ≡ n
place_found n len within = grind (arith, nat_tests, common_steps)

-- a list that is cut where the first character ends the run, or at its end
pub cut_found : (kind : ℕ → Bool) (text : List ℕ) (end : ℕ) → end ≡ unwrap_or (position (λ c. not (kind c)) text) (length text) → IsRun kind (take end text) (drop end text)
cut_found kind text end found =
    let place : end ≡ position_or_len (λ c. not (kind c)) text = found ∙ place_found (position_or_len (λ c. not (kind c)) text) (length text) (prefix_len-le-length (λ c. not (not (kind c))) text) in
    rw place (cut_at_place kind text)

-- a list with an element, as a pattern takes it apart
pub first_and_rest : (text : List ℕ) (c : ℕ) → 1 ≤ length text → c ≡ get_or text 0 c → text ≡ c ∷ take (length text - 1) (drop 1 text)
first_and_rest [] c some first = absurd (omega (arith, some))
first_and_rest (d ∷ text) c some first = rw (take_all (suc (length text) - 1) text (omega arith)) (cc first)
