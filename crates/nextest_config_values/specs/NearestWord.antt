-- The word of a list that a name comes nearest to.
use Rattle.std.proofs.Common.{◌≡◌, ℕ, suc, ◌<◌, ◌≤◌, ◌/◌, max, Bool, true, ◌⊎◌, List, [], ◌∷◌, ◌++◌, length, nat_eq, Option, Some, None, refl, sym, ap, ◌∙◌, drop, subst, arith}
use Rattle.std.specs.Prelude.{◌==◌, chars, if◌then◌else◌}
use Rattle.std.specs.Char.{to_ascii_lowercase}
use Rattle.std.specs.Cmp.Lexicographic.{pointwise}
use Rattle.std.specs.List.{AllByRecursion}
use Rattle.strsim.specs.Edits.{levenshtein_row}

-- ---- how far a word is

-- the byte `-`
abbrev pub dash : ℕ
dash = 45

-- the byte `_`
abbrev pub underscore : ℕ
underscore = 95

-- an ASCII letter in lower case, and `-` for `_`
abbrev pub plain_byte : ℕ → ℕ
plain_byte b = if b == underscore then dash else to_ascii_lowercase b

-- the name is the word but for ASCII letter case and `_` in place of `-`
abbrev pub is_same : List ℕ → List ℕ → Bool
is_same name word = pointwise (λ a b. nat_eq (plain_byte a) (plain_byte b)) name word

-- how many characters are put in, left out or replaced from the name to the word (Levenshtein)
abbrev pub distance : List ℕ → List ℕ → ℕ
distance name word = levenshtein_row nat_eq (chars name) (chars word) (length (chars word))

-- a word that is the same comes before all others, which come by their distance
abbrev pub farness : List ℕ → List ℕ → ℕ
farness name word = if is_same name word then 0 else suc (distance name word)

-- ---- the nearest

-- the most edits of a name of so many characters
abbrev pub most_edits : ℕ → ℕ
most_edits n = max 1 (n / 3)

-- few edits lead from the name to the word, and fewer than it has characters
pub record IsFewEdits (name word : List ℕ) : Type 0 where
  pub few : distance name word ≤ most_edits (length (chars name))
  pub below_length : distance name word < length (chars name)

-- the name may have been meant for the word
abbrev pub IsNear : List ℕ → List ℕ → Type 0
IsNear name word = (is_same name word ≡ true) ⊎ IsFewEdits name word

-- the word is near, and the first of the nearest
pub record IsNearestWord (words : List (List ℕ)) (name word : List ℕ) : Type 0 where
  pub before : List (List ℕ)
  pub after : List (List ℕ)
  pub whole : words ≡ before ++ (word ∷ after)
  pub near : IsNear name word
  pub farther_before : AllByRecursion (λ other. farness name word < farness name other) before
  pub none_nearer : AllByRecursion (λ other. farness name word ≤ farness name other) after

-- the word that a name comes nearest to, or none where no word is near
abbrev pub IsNearest : List (List ℕ) → List ℕ → Option (List ℕ) → Type 0
IsNearest words name (Some word) = IsNearestWord words name word
IsNearest words name None = AllByRecursion (λ word. ¬ IsNear name word) words

-- ---- the law

-- what holds of each element holds of the one in the middle
at_middle : (P : List ℕ → Type 0) (before : List (List ℕ)) (word : List ℕ) (after : List (List ℕ))
    → AllByRecursion P (before ++ (word ∷ after)) → P word
at_middle P [] word after holds = holds.0
at_middle P (first ∷ before) word after holds = at_middle P before word after holds.1

-- of two words that are the first of the least by one measure, both are one
one_least : (f : List ℕ → ℕ) (word other : List ℕ) (before after front rest : List (List ℕ))
    → before ++ (word ∷ after) ≡ front ++ (other ∷ rest)
    → AllByRecursion (λ x. f word < f x) before → AllByRecursion (λ x. f word ≤ f x) after
    → AllByRecursion (λ x. f other < f x) front → AllByRecursion (λ x. f other ≤ f x) rest
    → word ≡ other
one_least f word other [] after [] rest same farther none_nearer also_farther also_none = cc same
one_least f word other [] after (first ∷ front) rest same farther none_nearer also_farther also_none
    =
    let here : word ≡ first = cc same in
    let not_above : f word ≤ f other =
    at_middle (λ x. f word ≤ f x) front other rest
    (subst (AllByRecursion (λ x. f word ≤ f x)) (ap (drop 1) same) none_nearer) in
    absurd (omega (arith, ap f here, also_farther.0))
one_least f word other (first ∷ before) after [] rest same farther none_nearer also_farther
    also_none =
    let here : first ≡ other = cc same in
    let not_above : f other ≤ f word =
    at_middle (λ x. f other ≤ f x) before word after
    (subst (AllByRecursion (λ x. f other ≤ f x)) (ap (drop 1) (sym same)) also_none) in
    absurd (omega (arith, ap f here, farther.0))
one_least f word other (first ∷ before) after (next ∷ front) rest same farther none_nearer
    also_farther also_none =
    one_least f word other before after front rest (ap (drop 1) same) farther.1 none_nearer
    also_farther.1 also_none

-- where no word is near, none is the nearest
never_both : (words : List (List ℕ)) (name word : List ℕ) → IsNearestWord words name word
    → AllByRecursion (λ other. ¬ IsNear name other) words → ⊥
never_both words name word nearest none =
    at_middle (λ other. ¬ IsNear name other) nearest.before word nearest.after
    (subst (AllByRecursion (λ other. ¬ IsNear name other)) nearest.whole none) nearest.near

-- a name has one nearest word, or none
pub nearest_once : (words : List (List ℕ)) (name : List ℕ) (a b : Option (List ℕ))
    → IsNearest words name a → IsNearest words name b → a ≡ b
nearest_once words name None None h k = refl
nearest_once words name None (Some word) h k = absurd (never_both words name word k h)
nearest_once words name (Some word) None h k = absurd (never_both words name word h k)
nearest_once words name (Some word) (Some other) h k =
    ap Some (one_least (farness name) word other h.before h.after k.before k.after
    (sym h.whole ∙ k.whole) h.farther_before h.none_nearer k.farther_before k.none_nearer)
