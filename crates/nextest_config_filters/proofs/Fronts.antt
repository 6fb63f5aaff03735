-- Fronts of lists of characters, and what stands behind them.
use Rattle.std.proofs.Common.{◌≡◌, ℕ, ◌-◌, ◌≤◌, ◌<◌, Bool, true, false, List, [], ◌∷◌, ◌++◌, length, drop, take, nat_eq, refl, sym, ap, ◌∙◌, inl, inr, arith, append_assoc, length-append, eqb-true}
use Rattle.std.specs.Prelude.{◌==◌, ◌&&◌}
use Rattle.std.proofs.Math.Seq.{drop-append_seam, take-append_seam}
use Rattle.std.proofs.lemmas.Bool.{cases_Bool}
use Rattle.std.specs.Char.{is_whitespace}
use Rattle.std.specs.List.{AllByRecursion}
use Rattle.std.specs.Str.{drop_trailing_whitespace as without_spaces_behind, skip_leading_whitespace as behind_spaces}
use Rattle.nextest_config_filters.specs.Front.{before, begins, begins_word, behind_run, behind_standing, in_word, is_doubled, IsFront, IsRest, run, standing, without_first}

-- a run and what stands behind it are the whole
pub run_whole : (kind : ℕ → Bool) (cs : List ℕ) → run kind cs ++ behind_run kind cs ≡ cs
run_whole kind [] = refl
run_whole kind (c ∷ cs) = elim (cases_Bool (kind c)) [
  | inl holds ↦ rw holds (ap (λ rest. c ∷ rest) (run_whole kind cs))
  | inr other ↦ rw other refl
]

-- characters of a kind go over to where none of the kind stands
pub run_over : (kind : ℕ → Bool) (word rest : List ℕ) → AllByRecursion (λ c. kind c ≡ true) word → run kind rest ≡ []
    → (run kind (word ++ rest) ≡ word) × (behind_run kind (word ++ rest) ≡ rest)
run_over kind [] rest all none = (none, ap (λ r. r ++ behind_run kind rest) (sym none) ∙ run_whole kind rest)
run_over kind (c ∷ word) rest all none =
    let inner = run_over kind word rest all.1 none in
    rw all.0 (ap (λ w. c ∷ w) inner.0, inner.1)

-- what stands twice does
doubled_whole : (c : ℕ) (cs : List ℕ) → is_doubled c cs ≡ true → c ∷ c ∷ without_first cs ≡ c ∷ cs
doubled_whole c [] doubled = cc doubled
doubled_whole c (d ∷ cs) doubled = elim (cases_Bool (c == d)) [
  | inl same ↦ ap (λ e. c ∷ e ∷ cs) (eqb-true c d same)
  | inr other ↦ let no : false ≡ true = rw other at doubled in cc no
]

-- what stands there and what comes behind it are the whole
pub standing_whole : (cs : List ℕ) → standing cs ++ behind_standing cs ≡ cs
standing_whole [] = refl
standing_whole (c ∷ cs) = elim (cases_Bool (begins_word c)) [
  | inl word ↦ rw word (ap (λ rest. c ∷ rest) (run_whole in_word cs))
  | inr other ↦ elim (cases_Bool (is_doubled c cs)) [
    | inl doubled ↦ rw (other, doubled) (doubled_whole c cs doubled)
    | inr single ↦ rw (other, single) refl
  ]
]

-- ---- rests

pub rest_within : (cs inner rest : List ℕ) → IsRest cs inner → IsRest inner rest → IsRest cs rest
rest_within cs inner rest (front, whole) (more, inner_whole) = (
  front ++ more,
  whole ∙ ap (λ r. front ++ r) inner_whole ∙ sym (append_assoc front more rest),
)

pub one_in : (c : ℕ) (cs : List ℕ) → IsRest (c ∷ cs) cs
one_in c cs = (c ∷ [], refl)

pub rest_fits : (cs rest : List ℕ) → IsRest cs rest → length rest ≤ length cs
rest_fits cs rest (front, whole) = omega (arith, ap length whole ∙ length-append front rest)

-- what stands behind a character
pub past : (cs rest : List ℕ) (c : ℕ) → IsRest cs (c ∷ rest) → IsRest cs rest × (length rest < length cs)
past cs rest c is =
    let long = rest_fits cs (c ∷ rest) is in
    (rest_within cs (c ∷ rest) rest is (one_in c rest), omega arith)

pub without_first_rest : (cs : List ℕ) → IsRest cs (without_first cs)
without_first_rest [] = ([], refl)
without_first_rest (c ∷ cs) = (c ∷ [], refl)

-- a rest of what comes behind a character
pub rest_behind : (c : ℕ) (cs rest : List ℕ) → IsRest cs rest → IsRest (c ∷ cs) rest
rest_behind c cs rest is = (c ∷ is.0, ap (λ r. c ∷ r) is.1)

-- a front that a rest ends
pub front_of : (cs front rest : List ℕ) → cs ≡ front ++ rest → take (length cs - length rest) cs ≡ front
front_of cs front rest whole =
    let long : length cs - length rest ≡ length front = omega (arith, ap length whole ∙ length-append front rest) in
    rw (long, whole) (take-append_seam front rest)

-- what stands before a rest, and that, are the whole
pub before_whole : (cs rest : List ℕ) → IsRest cs rest → cs ≡ before cs rest ++ rest
before_whole cs rest (front, whole) = whole ∙ ap (λ f. f ++ rest) (sym (front_of cs front rest whole))

-- ---- spaces, and runs

pub spaces_in : (cs : List ℕ) → IsRest cs (behind_spaces cs)
spaces_in [] = ([], refl)
spaces_in (c ∷ cs) = elim (cases_Bool (is_whitespace c)) [
  | inl space ↦ rw space (rest_within (c ∷ cs) cs (behind_spaces cs) (one_in c cs) (spaces_in cs))
  | inr other ↦ rw other ([], refl)
]

pub run_in : (kind : ℕ → Bool) (cs : List ℕ) → IsRest cs (behind_run kind cs)
run_in kind cs = (run kind cs, sym (run_whole kind cs))

-- a front, and what comes behind as much
pub front_dropped : (front cs : List ℕ) → IsFront front cs → cs ≡ front ++ drop (length front) cs
front_dropped front cs (rest, whole) = whole ∙ ap (λ r. front ++ r) (sym (rw whole (drop-append_seam front rest)))

pub begun : (c : ℕ) (cs : List ℕ) → begins c cs ≡ true → cs ≡ c ∷ without_first cs
begun c [] is = cc is
begun c (d ∷ cs) is = ap (λ e. e ∷ cs) (sym (eqb-true c d is))

pub without_spaces_front : (cs : List ℕ) → IsFront (without_spaces_behind cs) cs
without_spaces_front [] = ([], refl)
without_spaces_front (c ∷ cs) =
    let inner = without_spaces_front cs in
    elim (cases_Bool (is_whitespace c && nat_eq (length (without_spaces_behind cs)) 0)) [
      | inl dropped ↦ rw dropped (c ∷ cs, refl)
      | inr kept ↦ rw kept (inner.0, ap (λ rest. c ∷ rest) inner.1)
    ]

-- what stands before the end of a front, without the spaces there, is a front
pub front_without_spaces : (cs front rest : List ℕ) → cs ≡ front ++ rest → IsFront (without_spaces_behind front) cs
front_without_spaces cs front rest whole =
    let inner = without_spaces_front front in (
      inner.0 ++ rest,
      whole ∙ ap (λ f. f ++ rest) inner.1 ∙ append_assoc (without_spaces_behind front) inner.0 rest,
    )
