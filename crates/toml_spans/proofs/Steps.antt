-- Paths, step by step.
use Rattle.std.proofs.Common.{◌≡◌, ◌+◌, ◌<◌, ℕ, Bool, true, false, List, [], ◌∷◌, ◌++◌, get_or, length, map, Option, Some, ap, refl, take, append_assoc, append-nil}
use Rattle.std.proofs.lemmas.Grind.{flat_map-append}
use Rattle.std.proofs.lemmas.List.{map_more}
use Rattle.std.proofs.lemmas.Option.{none-some, option_and_then_some, same_Some}
use Rattle.toml_spans.specs.Step.{follow, follow_path, index, key, PathStep, printed_path, step_of, step_text}
use Rattle.toml_spans.specs.declared.step.Step.{Step}

module _ {A : Type 0} (from : A → PathStep → Option A) where
  -- steps behind those that lead here
  follow_on : (path rest : List PathStep) (a b : A) → follow from path a ≡ Some b → follow from (path ++ rest) a ≡ follow from rest b
  follow_on [] rest a b is = ap (follow from rest) (same_Some a b is)
  follow_on (step ∷ path) rest a b is = option_and_then_some (follow from path) (from a step) b is (λ next leads below. rw leads (follow_on path rest next b below))

  -- steps behind a path that leads here
  pub follow_path_on : (at_key : List ℕ → Option A) (path rest : List PathStep) (b : A) → follow_path from at_key path ≡ Some b
      → follow_path from at_key (path ++ rest) ≡ follow from rest b
  follow_path_on at_key [] rest b is = absurd (none-some b is)
  follow_path_on at_key (key text ∷ path) rest b is = option_and_then_some (follow from path) (at_key text) b is (λ next leads below. rw leads (follow_on path rest next b below))
  follow_path_on at_key (index place ∷ path) rest b is = absurd (none-some b is)

-- whether a step stands after others
abbrev pub is_some_step : List PathStep → Bool
is_some_step [] = false
is_some_step (step ∷ steps) = true

pub is_some_after : (steps : List PathStep) (step : PathStep) → true ≡ is_some_step (steps ++ (step ∷ []))
is_some_after [] step = refl
is_some_after (first ∷ steps) step = refl

printed_more : (steps : List PathStep) (step : PathStep) → printed_path (steps ++ (step ∷ [])) ≡ printed_path steps ++ step_text (is_some_step steps) step
printed_more [] step = append-nil (step_text false step)
printed_more (first ∷ steps) step = rw (flat_map-append (step_text true) steps (step ∷ []), append-nil (step_text true step), append_assoc)

-- one step more
pub printed_one_more : (steps : List Step) (i : ℕ) (x : Step) (behind : Bool) → i < length steps → x ≡ get_or steps i x → behind ≡ is_some_step (map step_of (take i steps))
    → printed_path (map step_of (take i steps)) ++ step_text behind (step_of x) ≡ printed_path (map step_of (take (i + 1) steps))
printed_one_more steps i x behind within at is = rw (at, map_more step_of steps i x within, printed_more (map step_of (take i steps)) (step_of (get_or steps i x)), is) refl
