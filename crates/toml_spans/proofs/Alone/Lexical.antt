-- Runs and blanks of a text are the same before each front of what they leave.
use Rattle.std.proofs.Common.{◌≡◌, ℕ, ◌+◌, ◌<◌, Bool, true, false, ◌==◌, ◌&&◌, ◌||◌, List, [], ◌∷◌, ◌++◌, length, take, drop, Option, is_some, unwrap_or, refl, sym, ap, ◌∙◌, inl, inr, arith, take_at, drop_at, length-append, rules}
use Rattle.std.proofs.lemmas.Bool.{cases_Bool, false≢true}
use Rattle.std.proofs.lemmas.Bool.Decides.{nat_tests}
use Rattle.std.proofs.lemmas.List.{length-take-le, take-append-drop}
use Rattle.std.proofs.lemmas.List.Sums.{prefix_len-le-length}
use Rattle.std.specs.List.{prefix_len}
use Rattle.toml_parser.proofs.LexicalLemmas.{skip_ws_none}
use Rattle.toml_parser.specs.Lexical.{first, is_ws, line_feed, skip_blank, skip_from, skip_turn, skip_ws, split_while}
use Rattle.toml_spans.proofs.Alone.Reads.{Skips}

-- the first byte is no such one, or the text is over before it
pub first_cut : (r b : List ℕ) (k : ℕ) → (0 == k) ≡ false → (first (r ++ b) == k) ≡ false → (first r == k) ≡ false
first_cut [] b k some other = some
first_cut (c ∷ r) b k some other = other

-- a text that isn't empty begins with its first byte
pub first_same : (t b : List ℕ) → 0 < length t → first (t ++ b) ≡ first t
first_same [] b some = absurd (omega (arith, some))
first_same (c ∷ t) b some = refl

-- a run ends where it did
pub run_cut : (p : ℕ → Bool) (w r b : List ℕ) → prefix_len p (w ++ (r ++ b)) ≡ length w → prefix_len p (w ++ r) ≡ length w
run_cut p [] [] b is = refl
run_cut p [] (c ∷ r) b is = elim (cases_Bool (p c)) [ inl passes ↦ absurd (omega (arith, rw passes at is)) | inr stops ↦ rw stops refl ]
run_cut p (c ∷ w) r b is = elim (cases_Bool (p c)) [
  | inl passes ↦ rw passes (omega (arith, run_cut p w r b (omega (arith, rw passes at is))))
  | inr stops ↦ absurd (omega (arith, rw stops at is))
]

-- so does the run at the front, before each front of what is left
pub run_on : (p : ℕ → Bool) (s : List ℕ) (n : ℕ) (r b : List ℕ) → prefix_len p s ≡ n → drop n s ≡ r ++ b → (length (take n s) ≡ n) × (prefix_len p (take n s ++ r) ≡ n)
run_on p s n r b is cut =
    let size : length (take n s) ≡ n = length-take-le n s (omega (arith, is, prefix_len-le-length p s)) in
    let whole : s ≡ take n s ++ (r ++ b) = sym (take-append-drop n s) ∙ ap (λ (u : List ℕ). take n s ++ u) cut in
    (size, run_cut p (take n s) r b (sym (ap (prefix_len p) whole) ∙ is ∙ sym size) ∙ size)

-- and as it is split off
pub split_alone : (p : ℕ → Bool) (s : List ℕ) → let n = prefix_len p s in Skips (λ t r. (split_while p t ≡ (take n s, r)) × (length t ≡ n + length r)) s (drop n s)
split_alone p s =
    let n = prefix_len p s in
    record {
      front = take n s;
      whole = sym (take-append-drop n s);
      on = λ r b cut.
          let (size, run) = run_on p s n r b refl cut in
          (rw (run, take_at (take n s) r n size, drop_at (take n s) r n size) refl, omega (arith, size, length-append (take n s) r));
    }

-- white space at the front
pub ws_alone : (s : List ℕ) → Skips (λ t r. skip_ws t ≡ r) s (skip_ws s)
unfolding skip_ws
ws_alone s =
    let split = split_alone is_ws s in
    record { front = split.front; whole = split.whole; on = λ r b cut. ap (λ parts. parts.1) (split.on r b cut).0 }

-- ---- blanks and comments

-- white space within a line
pub ws_step : (c : ℕ) (t : List ℕ) → is_ws c ≡ true → skip_ws (c ∷ t) ≡ skip_ws t
unfolding skip_ws
ws_step c t ws = search rules

-- and among lines
pub ws_skipped : (comments : Bool) (c : ℕ) (t : List ℕ) → is_ws c ≡ true → skip_from comments false (c ∷ t) ≡ skip_from comments false t
unfolding skip_from
ws_skipped comments c t ws = elim (cases_Bool (c == 10 || (c == 13 && first t == 10))) [ inl feed ↦ rw feed refl | inr other ↦ rw (other, ws) refl ]

-- so nothing but blanks stands before what white space leaves
pub blank_ws : (text : List ℕ) → skip_blank (skip_ws text) ≡ skip_blank text
unfolding skip_ws
blank_ws [] = refl
blank_ws (c ∷ text) = elim (cases_Bool (is_ws c)) [
  | inl space ↦ ap skip_blank (ws_step c text space) ∙ blank_ws text ∙ sym (ws_skipped true c text space)
  | inr other ↦ ap skip_blank (skip_ws_none (c ∷ text) other)
]

-- what is left after blanks begins with no line feed
skip_stops : (comments inside : Bool) (s : List ℕ) → (first (skip_from comments inside s) == line_feed) ≡ false
unfolding skip_from
skip_stops comments inside [] = refl
skip_stops comments inside (c ∷ s) =
    let turn = skip_turn comments inside c (first s) in
    elim (cases_Bool (is_some turn)) [
      | inl more ↦ rw more (skip_stops comments (unwrap_or turn false) s)
      | inr ends ↦ rw ends (elim (cases_Bool (c == line_feed)) [ inl feed ↦ absurd (false≢true (sym ends ∙ rw feed refl)) | inr other ↦ other ])
    ]

-- a turn is the same before a front of what is left, which begins with no line feed
turn_cut : (comments inside : Bool) (c : ℕ) (w r b : List ℕ) → (first (r ++ b) == line_feed) ≡ false → skip_turn comments inside c (first (w ++ r)) ≡ skip_turn comments inside c (first (w ++ (r ++ b)))
turn_cut comments inside c (d ∷ w) r b stop = refl
turn_cut comments inside c [] (d ∷ r) b stop = refl
turn_cut comments inside c [] [] b stop = rw stop refl

-- one turn more
skip_more : (comments inside : Bool) (c : ℕ) (t r : List ℕ) (turn : Option Bool) → skip_turn comments inside c (first t) ≡ turn → is_some turn ≡ true → skip_from comments (unwrap_or turn false) t ≡ r → skip_from comments inside (c ∷ t) ≡ r
unfolding skip_from
skip_more comments inside c t r turn same some is = rw (same, some) is

-- where a run of blanks doesn't begin, none begins before a front of the text
skip_none : (comments inside : Bool) (c : ℕ) (s r b : List ℕ) → is_some (skip_turn comments inside c (first s)) ≡ false → c ∷ s ≡ r ++ b → skip_from comments inside r ≡ r
unfolding skip_from
skip_none comments inside c s [] b none cut = refl
skip_none comments inside c s (d ∷ []) b none cut =
    let here : c ≡ d = cc cut in
    let not_feed : is_some (skip_turn comments inside c 0) ≡ false = grind (arith, nat_tests, none) in
    rw (← here, not_feed) refl
skip_none comments inside c s (d ∷ e ∷ r) b none cut =
    let here : c ≡ d = cc cut in
    let more : s ≡ e ∷ (r ++ b) = cc cut in
    let same : is_some (skip_turn comments inside d e) ≡ false = rw (here, more) at none in
    rw same refl

-- blanks and comments at the front
pub skip_alone : (comments inside : Bool) (s : List ℕ) → Skips (λ t r. skip_from comments inside t ≡ r) s (skip_from comments inside s)
unfolding skip_from
skip_alone comments inside [] = record { front = []; whole = refl; on = λ r b cut. elim r as (λ r. [] ≡ r ++ b → skip_from comments inside r ≡ r) [ [] ↦ λ _. refl | d ∷ r ↦ λ cut. absurd (cc cut) ] cut }
skip_alone comments inside (c ∷ s) =
    let turn = skip_turn comments inside c (first s) in
    elim (cases_Bool (is_some turn)) [
      | inl more ↦
          let rest = skip_from comments (unwrap_or turn false) s in
          let later : Skips (λ t r. skip_from comments (unwrap_or turn false) t ≡ r) s rest = skip_alone comments (unwrap_or turn false) s in
          let stop : (first rest == line_feed) ≡ false = skip_stops comments (unwrap_or turn false) s in
          let here : Skips (λ t r. skip_from comments inside t ≡ r) (c ∷ s) rest = record {
            front = c ∷ later.front;
            whole = ap (λ (u : List ℕ). c ∷ u) later.whole;
            on = λ r b cut. skip_more comments inside c (later.front ++ r) r turn
                (turn_cut comments inside c later.front r b (rw cut at stop) ∙ ap (λ (u : List ℕ). skip_turn comments inside c (first u)) (sym (later.whole ∙ ap (λ (u : List ℕ). later.front ++ u) cut)))
                more (later.on r b cut);
          } in
          rw more here
      | inr none ↦
          let here : Skips (λ t r. skip_from comments inside t ≡ r) (c ∷ s) (c ∷ s) = record { front = []; whole = refl; on = λ r b cut. skip_none comments inside c s r b none cut } in
          rw none here
    ]
