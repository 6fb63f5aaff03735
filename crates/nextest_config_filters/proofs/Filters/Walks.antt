-- The walk, and what it keeps of each state.
use Rattle.std.proofs.Common.{◌≡◌, ℕ, suc, ◌-◌, ◌<◌, ◌≤◌, Bor, List, [], ◌∷◌, length, Some, None, refl, sym, ap, ◌∙◌, inl, inr, arith, eq-eqb, eqb-true}
use Rattle.std.specs.Prelude.{◌==◌}
use Rattle.std.proofs.lemmas.Bool.{cases_Bool}
use Rattle.std.proofs.lemmas.Str.{encodes-chars, length-le-encodes}
use Rattle.std.specs.Str.{chars, IsUtf8}
use Rattle.nextest_config_filters.specs.Filter.Reading.{closes, ends, not_closed}
use Rattle.nextest_config_filters.specs.Filter.Regex.{judged_at}
use Rattle.nextest_config_filters.specs.Filter.Steps.{at_level, IsLeftOpen, Shows}
use Rattle.nextest_config_filters.specs.Filter.Walk.{Finds, next, next_of, reported_of, start, State}
use Rattle.nextest_config_filters.specs.declared.filter.FilterPlace.{FilterPlace}
use Rattle.nextest_config_filters.specs.declared.filter.reading.Expects.TheVariants.{Operator}
use Rattle.nextest_config_filters.specs.declared.filter.walk.State.{State as OwnState}
use Rattle.nextest_config_filters.proofs.Steps.{one_end}

-- a text has no more characters than bytes
pub chars_fit : (text : List ℕ) → IsUtf8 text → length (chars text) ≤ length text
chars_fit text u = omega (arith, length-le-encodes (chars text), ap length (encodes-chars text u))

-- where a state is shown, what is read is the same
pub shown_reading : (place : FilterPlace) (level : ℕ) (own : OwnState) (now : State) → Shows level own now
    → judged_at place own.expects (chars own.rest.now) ≡ judged_at place now.expects now.rest
shown_reading place level own now shows = rw (shows.expects, shows.rest) refl

-- ---- the parenthesis of a level

level_fits : (level : ℕ) (open_ones : List (List ℕ)) (opened : List ℕ) → at_level level open_ones ≡ Some opened
    → level ≤ length open_ones
level_fits level [] opened is = cc is
level_fits level (last ∷ others) opened is = elim (cases_Bool (level == suc (length others))) [
  | inl same ↦ omega (arith, eqb-true level (suc (length others)) same)
  | inr other ↦ let inner = level_fits level others opened (rw other at is) in omega arith
]

stays_at_level : (level : ℕ) (last : List ℕ) (others : List (List ℕ)) (opened : List ℕ)
    → at_level level others ≡ Some opened → at_level level (last ∷ others) ≡ Some opened
stays_at_level level last others opened is =
    let fits = level_fits level others opened is in
    elim (cases_Bool (level == suc (length others))) [
      | inl same ↦ absurd (omega (arith, eqb-true level (suc (length others)) same))
      | inr other ↦ rw other is
    ]

-- ---- steps

pub closing_step : (level : ℕ) (own : OwnState) (open_ones : List (List ℕ)) (rest : Bor (List ℕ))
    → own.depth ≡ length open_ones
    → ((opened : List ℕ) → at_level level open_ones ≡ Some opened → chars own.last.now ≡ opened)
    → (own.depth ≡ 0 → ⊥)
    → (over : State) × (next_of (closes (chars rest.now)) open_ones ≡ Some over)
    × Shows level (record { expects = Operator; rest = rest; depth = own.depth - 1; last = own.last }) over
closing_step level own [] rest deep of_level some = absurd (some deep)
closing_step level own (last ∷ others) rest deep of_level some = (
  record { expects = Operator; open_ones = others; rest = chars rest.now },
  refl,
  record {
    expects = refl;
    rest = refl;
    deep = omega (arith, deep);
    of_level = λ opened is. of_level opened (stays_at_level level last others opened is);
  },
)

-- ---- the last parenthesis that is open

reported_at_end : (level : ℕ) (open_ones : List (List ℕ)) (behind : List ℕ) → level ≡ length open_ones → 0 < level
    → ((opened : List ℕ) → at_level level open_ones ≡ Some opened → behind ≡ opened)
    → reported_of ends open_ones ≡ Some (not_closed behind)
reported_at_end level [] behind deep some of_level = absurd (omega arith)
reported_at_end level (last ∷ others) behind deep some of_level =
    ap (λ b. Some (not_closed b)) (sym (of_level last (rw (eq-eqb level (suc (length others)) deep) refl)))

end_stops : (place : FilterPlace) (state : State) → judged_at place state.expects state.rest ≡ ends
    → next place state ≡ None
end_stops place state at_end = ap (λ reading. next_of reading state.open_ones) at_end

-- of a walk that ends with a number of open parentheses, a walk that keeps that level finds the last
pub found_open : (place : FilterPlace) (cs behind : List ℕ) (many level : ℕ) (first : IsLeftOpen place cs level)
    → (left : IsLeftOpen place cs many)
    → ((opened : List ℕ) → at_level level left.state.open_ones ≡ Some opened → behind ≡ opened)
    → Finds place cs (Some (not_closed behind))
found_open place cs behind many level first left of_level =
    let same = one_end (next place) (start cs) first.state left.state first.leads (end_stops place first.state first.at_end)
    left.leads (end_stops place left.state left.at_end) in
    let deep : level ≡ length left.state.open_ones = first.open_many ∙ ap (λ (s : State). length s.open_ones) same in
    record {
      state = left.state;
      leads = left.leads;
      over = end_stops place left.state left.at_end;
      finds = ap (λ reading. reported_of reading left.state.open_ones) left.at_end
          ∙ reported_at_end level left.state.open_ones behind deep first.some of_level;
    }
