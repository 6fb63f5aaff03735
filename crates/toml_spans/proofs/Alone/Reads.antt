-- What is read of a text is a front of it, which is read so before each front of what it leaves.
use Rattle.std.proofs.Common.{◌≡◌, ℕ, ◌<◌, ◌≤◌, Bool, true, false, cond, List, ◌∷◌, ◌++◌, length, Some, None, option_and_then, refl, sym, ap, ◌∙◌, arith, append_assoc, length-append, rules}
use Rattle.toml_parser.specs.Lexical.{Read}
use Rattle.toml.specs.Parse.{read_map}

-- a front of a text, so much of which is skipped, and what holds of that front before each front of what is left
pub record Skips (Q : List ℕ → List ℕ → Type 0) (text rest : List ℕ) : Type 0 where
  pub front : List ℕ
  pub whole : text ≡ front ++ rest
  pub on : (r b : List ℕ) → rest ≡ r ++ b → Q (front ++ r) r

-- what is read of a text: nothing, or a value of a front, of which this holds before each front of what is left
pub data Alone {A : Type 0} (P : List ℕ → A → List ℕ → Type 0) (text : List ℕ) (followed : Read A) : Type 0 where
  refuses : followed ≡ None → Alone P text followed
  reads : (value : A) (front rest : List ℕ) → text ≡ front ++ rest → followed ≡ Some (value, rest) → ((r b : List ℕ) → rest ≡ r ++ b → P (front ++ r) value r) → Alone P text followed

-- what a reader tells of a text, and that it reads some of it
pub record Tells {A : Type 0} (reader : List ℕ → Read A) (text : List ℕ) (value : A) (rest : List ℕ) : Type 0 where
  pub told : reader text ≡ Some (value, rest)
  pub shorter : length rest < length text

-- two fronts in a row, and what is left after them
in_a_row : (x y z text rest : List ℕ) → text ≡ x ++ rest → rest ≡ y ++ z → text ≡ (x ++ y) ++ z
in_a_row x y z text rest whole then = whole ∙ ap (λ (u : List ℕ). x ++ u) then ∙ sym (append_assoc x y z)

-- what is left is no longer
no_longer : (x y : List ℕ) → length y ≤ length (x ++ y)
no_longer x y = omega (arith, length-append x y)

module _ {A : Type 0} {P : List ℕ → A → List ℕ → Type 0} {s : List ℕ} {x : Read A} where
  -- another fact of the same fronts
  pub as_read : {S : List ℕ → A → List ℕ → Type 0} → Alone P s x → ((t b : List ℕ) (v : A) (r : List ℕ) → s ≡ t ++ b → length r ≤ length t → P t v r → S t v r) → Alone S s x
  as_read (refuses bad) f = refuses bad
  as_read (reads v front rest whole is on) f = reads v front rest whole is (λ r b cut. f (front ++ r) b v r (in_a_row front r b s rest whole cut) (no_longer front r) (on r b cut))

  -- after a byte
  pub behind : {S : List ℕ → A → List ℕ → Type 0} (c : ℕ) → Alone P s x → ((t : List ℕ) (v : A) (r : List ℕ) → length r ≤ length t → P t v r → S (c ∷ t) v r) → Alone S (c ∷ s) x
  behind c (refuses bad) f = refuses bad
  behind c (reads v front rest whole is on) f = reads v (c ∷ front) rest (ap (λ (u : List ℕ). c ∷ u) whole) is (λ r b cut. f (front ++ r) v r (no_longer front r) (on r b cut))

  -- what was read, under f
  pub alone_map : {B : Type 0} {S : List ℕ → B → List ℕ → Type 0} (f : A → B) → Alone P s x → ((t : List ℕ) (v : A) (r : List ℕ) → P t v r → S t (f v) r) → Alone S s (read_map f x)
  alone_map f (refuses bad) on = refuses (ap (read_map f) bad)
  alone_map f (reads v front rest whole is kept) on = reads (f v) front rest whole (ap (read_map f) is) (λ r b cut. on (front ++ r) v r (kept r b cut))

  -- one reader after another
  pub alone_then : {B : Type 0} {Q : A → List ℕ → B → List ℕ → Type 0} {S : List ℕ → B → List ℕ → Type 0} (next : A × List ℕ → Read B)
      → Alone P s x → ((v : A) (rest : List ℕ) → Alone (Q v) rest (next (v, rest)))
      → ((t : List ℕ) (v : A) (t' : List ℕ) (w : B) (r : List ℕ) → length t' ≤ length t → P t v t' → Q v t' w r → S t w r) → Alone S s (option_and_then next x)
  alone_then next (refuses bad) later join = refuses (ap (option_and_then next) bad)
  alone_then {S = S} next (reads v front rest whole is on) later join = elim (later v rest) [
    | refuses bad ↦ refuses (ap (option_and_then next) is ∙ bad)
    | reads w more rest' whole' is' on' ↦ reads w (front ++ more) rest' (in_a_row front more rest' s rest whole whole') (ap (option_and_then next) is ∙ is')
        (λ r b cut.
        rw (append_assoc front more r) (join (front ++ (more ++ r)) v (more ++ r) w r (no_longer front (more ++ r)) (on (more ++ r) b (in_a_row more r b rest rest' whole' cut)) (on' r b cut)))
  ]

  -- a value that was read leaves the end of the text
  pub front_of : (value : A) (rest : List ℕ) → Alone P s x → x ≡ Some (value, rest) → (front : List ℕ) × (s ≡ front ++ rest) × ((r b : List ℕ) → rest ≡ r ++ b → P (front ++ r) value r)
  front_of h0 rest h2 is = search rules

-- ---- one of two

-- one of two readers, by one test
pub alone_if : {A : Type 0} {S : List ℕ → A → List ℕ → Type 0} {s : List ℕ} {x y : Read A} (p : Bool) → (p ≡ true → Alone S s x) → (p ≡ false → Alone S s y) → Alone S s (cond p x y)
alone_if true held failed = held refl
alone_if false held failed = failed refl

-- ---- what is skipped

-- a byte more in front
pub skips_after : {Q S : List ℕ → List ℕ → Type 0} {s rest : List ℕ} (c : ℕ) → Skips Q s rest → ((t r : List ℕ) → Q t r → S (c ∷ t) r) → Skips S (c ∷ s) rest
skips_after c skipped f = record {
  front = c ∷ skipped.front;
  whole = ap (λ (u : List ℕ). c ∷ u) skipped.whole;
  on = λ r b cut. f (skipped.front ++ r) r (skipped.on r b cut);
}

-- a reader after what is skipped
pub alone_skip : {B : Type 0} {Q : List ℕ → List ℕ → Type 0} {P S : List ℕ → B → List ℕ → Type 0} {s rest : List ℕ} (next : List ℕ → Read B)
    → Skips Q s rest → ((u : List ℕ) → Alone P u (next u)) → ((t t' : List ℕ) (w : B) (r : List ℕ) → length t' ≤ length t → Q t t' → P t' w r → S t w r) → Alone S s (next rest)
alone_skip {s = s} {rest = rest} next skipped later join = elim (later rest) [
  | refuses bad ↦ refuses bad
  | reads w more rest' whole' is' on' ↦ reads w (skipped.front ++ more) rest' (in_a_row skipped.front more rest' s rest skipped.whole whole') is'
      (λ r b cut. rw (append_assoc skipped.front more r)
      (join (skipped.front ++ (more ++ r)) (more ++ r) w r (no_longer skipped.front (more ++ r)) (skipped.on (more ++ r) b (in_a_row more r b rest rest' whole' cut)) (on' r b cut)))
]

-- what is skipped, as a reader of a value
pub skipped_alone : {A : Type 0} {Q : List ℕ → List ℕ → Type 0} {s rest : List ℕ} (value : A) → Skips Q s rest → {S : List ℕ → A → List ℕ → Type 0} → ((t r : List ℕ) → Q t r → S t value r) → Alone S s (Some (value, rest))
skipped_alone {rest = rest} value skipped on = reads value skipped.front rest skipped.whole refl (λ r b cut. on (skipped.front ++ r) r (skipped.on r b cut))
