-- Values of a text are the same before each front of what they leave.
use Rattle.std.proofs.Common.{◌≡◌, ℕ, zero, suc, ◌+◌, ◌<◌, ◌≤◌, Bool, true, false, cond, ◌&&◌, ◌||◌, ◌==◌, List, [], ◌∷◌, ◌++◌, length, take, drop, Option, option_and_then, option_map, Some, None, refl, sym, ap, ◌∙◌, inl, inr, arith, eqb-true, take_at, drop_at, length-append, length-drop, rules}
use Rattle.std.proofs.lemmas.Bool.{and_parts, and_right, cases_Bool, false≢true, or_parts}
use Rattle.std.proofs.lemmas.Bool.Decides.{nat_tests}
use Rattle.std.proofs.lemmas.List.{drop-append-le, get_or_append_left, length-take-le, take-append-drop}
use Rattle.std.proofs.lemmas.List.Sums.{prefix_len-le-length}
use Rattle.std.specs.Char.{is_ascii_digit}
use Rattle.std.specs.List.{prefix_len}
use Rattle.std.specs.Prelude.{slice_index}
use Rattle.toml_parser.proofs.LexicalLemmas.{within_from_byte}
use Rattle.toml_parser.specs.Lexical.{first, is_word, Read, skip_blank, skip_ws}
use Rattle.toml_parser.specs.Numbers.{unquoted, word_len, word_value}
use Rattle.toml_parser.specs.Strings.{key_after, quoted, simple_key}
use Rattle.toml_parser.specs.declared.scalar.Scalar.{Scalar}
use Rattle.toml.specs.Data.{array, Data, no_items, push_item, string, table}
use Rattle.toml.specs.Parse.{after_byte, after_element, atom, items, key_equals, keyval, members, read_map, scalar_data, val}
use Rattle.toml.specs.Tables.{close, no_nodes, put}
use Rattle.toml_spans.proofs.Alone.Lexical.{first_same, run_cut, skip_alone, ws_alone}
use Rattle.toml_spans.proofs.Alone.Reads.{Alone, alone_map, alone_skip, alone_then, as_read, behind, reads, refuses, skipped_alone, Skips, Tells}
use Rattle.toml_spans.proofs.Alone.Strings.{key_after_alone, quoted_alone}

-- ---- words

-- a run that ends within the first part ends there whatever follows
run_within : (p : ℕ → Bool) (w u v : List ℕ) → prefix_len p (w ++ u) < length w → prefix_len p (w ++ v) ≡ prefix_len p (w ++ u)
run_within p [] u v within = absurd (omega (arith, within))
run_within p (c ∷ w) u v within = elim (cases_Bool (p c)) [
  | inl passes ↦ rw passes (ap (λ n. 1 + n) (run_within p w u v (omega (arith, rw passes at within))))
  | inr stops ↦ rw stops refl
]

-- a word is not empty where a digit stands
word_at : (y : List ℕ) (k : ℕ) → is_ascii_digit (slice_index y k) ≡ true → 0 < prefix_len is_word (drop k y)
word_at [] zero digit = absurd (false≢true digit)
word_at [] (suc k) digit = absurd (false≢true digit)
word_at (c ∷ y) zero digit = let word : is_word c ≡ true = grind (arith, nat_tests) in rw word (omega arith)
word_at (c ∷ y) (suc k) digit = word_at y k digit

-- a word, which may go on after a space
abbrev joins : List ℕ → ℕ → Bool
joins y n = slice_index y n == 32 && is_ascii_digit (slice_index y (n + 1))

-- its length where it does, and where it doesn't
word_joined : (y : List ℕ) (n : ℕ) → prefix_len is_word y ≡ n → joins y n ≡ true → word_len y ≡ n + 1 + prefix_len is_word (drop (n + 1) y)
unfolding word_len
word_joined y n is both = rw (is, both) refl

word_single : (y : List ℕ) (n : ℕ) → prefix_len is_word y ≡ n → joins y n ≡ false → word_len y ≡ n
unfolding word_len
word_single y n is none = rw (is, none) refl

-- where a word doesn't go on, it doesn't before a front of what follows
joins_cut : (w r b : List ℕ) → joins (w ++ (r ++ b)) (length w) ≡ false → joins (w ++ r) (length w) ≡ false
joins_cut [] [] b none = refl
joins_cut [] (c ∷ []) b none = and_right (c == 32) false refl
joins_cut [] (c ∷ d ∷ r) b none = none
joins_cut (d ∷ w) r b none =
    let next : suc (length w) + 1 ≡ suc (length w + 1) = omega arith in
    rw next (joins_cut w r b (rw next at none))

-- a byte of the first part
byte_within : (w u v : List ℕ) (k : ℕ) → k < length w → slice_index (w ++ v) k ≡ slice_index (w ++ u) k
byte_within w u v k within = get_or_append_left w v 0 k within ∙ sym (get_or_append_left w u 0 k within)

-- a word ends where it did
word_cut : (w r b : List ℕ) → word_len (w ++ (r ++ b)) ≡ length w → word_len (w ++ r) ≡ length w
word_cut w r b is =
    let whole = w ++ (r ++ b) in
    let n = prefix_len is_word whole in
    elim (cases_Bool (joins whole n)) [
      | inr none ↦
          let all : n ≡ length w = sym (word_single whole n refl none) ∙ is in
          word_single (w ++ r) (length w) (run_cut is_word w r b all) (joins_cut w r b (rw all at none))
      | inl both ↦
          let sum : n + 1 + prefix_len is_word (drop (n + 1) whole) ≡ length w = sym (word_joined whole n refl both) ∙ is in
          let some : 0 < prefix_len is_word (drop (n + 1) whole) = word_at whole (n + 1) (and_parts (slice_index whole n == 32) (is_ascii_digit (slice_index whole (n + 1))) both).1 in
          let within : n + 1 < length w = omega (arith, sum, some) in
          let run : prefix_len is_word (w ++ r) ≡ n = run_within is_word w (r ++ b) r (omega (arith, within)) in
          let both_there : joins (w ++ r) n ≡ true = rw (byte_within w (r ++ b) r n (omega (arith, within)), byte_within w (r ++ b) r (n + 1) within) both in
          let left : (v : List ℕ) → drop (n + 1) (w ++ v) ≡ drop (n + 1) w ++ v = λ v. drop-append-le (n + 1) w v (omega (arith, within)) in
          let size : prefix_len is_word (drop (n + 1) w ++ (r ++ b)) ≡ length (drop (n + 1) w) = sym (ap (prefix_len is_word) (left (r ++ b))) ∙ omega (arith, sum, length-drop (n + 1) w) in
          let cut : prefix_len is_word (drop (n + 1) (w ++ r)) ≡ length (drop (n + 1) w) = ap (prefix_len is_word) (left r) ∙ run_cut is_word (drop (n + 1) w) r b size in
          word_joined (w ++ r) n run both_there ∙ omega (arith, cut, length-drop (n + 1) w, within)
    ]

-- a word ends within the text
word_within : (s : List ℕ) → word_len s ≤ length s
word_within s =
    let n = prefix_len is_word s in
    elim (cases_Bool (joins s n)) [
      | inr none ↦ omega (arith, word_single s n refl none, prefix_len-le-length is_word s)
      | inl both ↦
          let some : n < length s = within_from_byte s n (omega (arith, eqb-true (slice_index s n) 32 (and_parts (slice_index s n == 32) (is_ascii_digit (slice_index s (n + 1))) both).0)) in
          omega (arith, word_joined s n refl both, some, prefix_len-le-length is_word (drop (n + 1) s), length-drop (n + 1) s)
    ]

-- what a word tells
unquoted_is : (t : List ℕ) (n : ℕ) (v : Scalar) → word_len t ≡ n → (n == 0) ≡ false → word_value (take n t) ≡ Some v → unquoted t ≡ Some (v, drop n t)
unfolding unquoted
unquoted_is t n v size some is = rw (size, some, is) refl

-- a value without quotes
unquoted_alone : (s : List ℕ) → Alone (Tells unquoted) s (unquoted s)
unfolding unquoted
unquoted_alone s = elim (cases_Bool (word_len s == 0)) [ inl none ↦ rw none (refuses refl) | inr some ↦ by_value some (word_value (take (word_len s) s)) refl ]
  where
    by_value : (word_len s == 0) ≡ false → (found : Option Scalar) → word_value (take (word_len s) s) ≡ found → Alone (Tells unquoted) s (unquoted s)
    by_value some None is = refuses (rw (some, is) refl)
    by_value some (Some v) is =
        let n = word_len s in
        let size : length (take n s) ≡ n = length-take-le n s (word_within s) in
        let whole : s ≡ take n s ++ drop n s = sym (take-append-drop n s) in
        let more : 0 < n = grind (arith, nat_tests) in
        reads v (take n s) (drop n s) whole (unquoted_is s n v refl some is) (λ r b cut.
        let same_len : word_len (take n s ++ r) ≡ n = word_cut (take n s) r b (sym (ap word_len (whole ∙ ap (λ (u : List ℕ). take n s ++ u) cut)) ∙ sym size) ∙ size in
        record {
          told = unquoted_is (take n s ++ r) n v same_len some (ap word_value (take_at (take n s) r n size) ∙ is) ∙ ap (λ (u : List ℕ). Some (v, u)) (drop_at (take n s) r n size);
          shorter = omega (arith, size, length-append (take n s) r, more);
        })

-- ---- what begins a value

-- the first byte of a text, which a front of it has
begins_so : (c : ℕ) (s t b r : List ℕ) → c ∷ s ≡ t ++ b → length r < length t → first t ≡ c
begins_so c s t b r whole shorter = sym (ap first whole ∙ first_same t b (omega (arith, shorter)))

-- an empty text is no string and no word
atom_nil : atom [] ≡ None
unfolding atom unquoted word_len
atom_nil = refl

-- nor is one that begins with a bracket or a byte order mark
pub atom_none : (c : ℕ) (s : List ℕ) → ((c == 91 || c == 123) || c == 239) ≡ true → atom (c ∷ s) ≡ None
unfolding atom unquoted word_len
atom_none c s is = search rules

-- a string or a word
pub atom_alone : (s : List ℕ) → Alone (Tells atom) s (atom s)
unfolding atom
atom_alone [] = refuses atom_nil
atom_alone (c ∷ s) = elim (cases_Bool (c == 34 || c == 39)) [
  | inl begins ↦
      let here : Alone (Tells (λ t. read_map string (quoted t))) (c ∷ s) (read_map string (quoted (c ∷ s))) = alone_map string (quoted_alone (c ∷ s) begins) (λ t v r on. record { told = ap (read_map string) on.told; shorter = on.shorter }) in
      rw begins (as_read here (λ t b v r whole up on. record { told = rw (begins_so c s t b r whole on.shorter, begins) on.told; shorter = on.shorter }))
  | inr other ↦
      let here : Alone (Tells (λ t. read_map scalar_data (unquoted t))) (c ∷ s) (read_map scalar_data (unquoted (c ∷ s))) = alone_map scalar_data (unquoted_alone (c ∷ s)) (λ t v r on. record { told = ap (read_map scalar_data) on.told; shorter = on.shorter }) in
      rw other (as_read here (λ t b v r whole up on. record { told = rw (begins_so c s t b r whole on.shorter, other) on.told; shorter = on.shorter }))
]

-- ---- what stands between values

-- a byte, and what is skipped after it
pub byte_alone : {A : Type 0} (byte : ℕ) → (0 == byte) ≡ false → (value : A) (f : List ℕ → List ℕ) → ((u : List ℕ) → Skips (λ t r. f t ≡ r) u (f u)) → (s : List ℕ)
    → Alone (Tells (λ t. option_map (λ rest. (value, f rest)) (after_byte byte t))) s (option_map (λ rest. (value, f rest)) (after_byte byte s))
byte_alone byte some value f skipped [] = refuses (rw some refl)
byte_alone byte some value f skipped (c ∷ s) = elim (cases_Bool (c == byte)) [
  | inr other ↦ rw other (refuses refl)
  | inl is ↦
      let here : Alone (λ t v r. (v ≡ value) × (f t ≡ r)) s (Some (value, f s)) = skipped_alone value (skipped s) (λ t r left. (refl, left)) in
      rw is (behind c here (λ t v r up on. record { told = rw (is, on.0, on.1) refl; shorter = omega (arith, up) }))
]

-- a key and `=`
pub key_equals_alone : (s : List ℕ) → Alone (Tells key_equals) s (key_equals s)
unfolding key_equals
key_equals_alone s = alone_then _ (key_after_alone 80 [] s) (λ k rest. byte_alone 61 refl k skip_ws ws_alone rest) (λ t k t' v r up is on. record { told = rw is.told on.told; shorter = omega (arith, is.shorter, on.shorter) })

-- a comma, or the closing bracket, which stays
abbrev comma_or : ℕ → List ℕ → Option (List ℕ)
comma_or closing u = cond (first u == 44) (Some (drop 1 u)) (cond (first u == closing) (Some u) None)

-- what a reader after an element tells
pub record TellsNext {A : Type 0} (P : List ℕ → A → List ℕ → Type 0) (after : List ℕ → Option (List ℕ)) (t : List ℕ) (v : A) (r : List ℕ) : Type 0 where
  pub rest : List ℕ
  pub is : after t ≡ Some rest
  pub up : length rest ≤ length t
  pub on : P rest v r

module _ {A : Type 0} {P : List ℕ → A → List ℕ → Type 0} (closing : ℕ) (some : (0 == closing) ≡ false) (next : List ℕ → Read A) (later : (u : List ℕ) → Alone P u (next u)) (shorter : (t : List ℕ) (v : A) (r : List ℕ) → P t v r → length r < length t) where
  -- a reader after a comma, or at the closing bracket
  comma_alone : (u : List ℕ) → Alone (TellsNext P (comma_or closing)) u (option_and_then next (comma_or closing u))
  comma_alone [] = refuses (rw some refl)
  comma_alone (c ∷ u) = elim (cases_Bool (c == 44)) [
    | inl comma ↦ rw comma (behind c (later u) (λ t v r up on. record { rest = t; is = rw comma refl; up = omega arith; on = on }))
    | inr other ↦ elim (cases_Bool (c == closing)) [
      | inl is ↦ rw (other, is) (as_read (later (c ∷ u)) (λ t b v r whole up on. record { rest = t; is = rw (begins_so c u t b r whole (shorter t v r on), other, is) refl; up = omega arith; on = on }))
      | inr neither ↦ rw (other, neither) (refuses refl)
    ]
  ]

  -- a reader after an element of a list
  pub after_alone : (s : List ℕ) → Alone (TellsNext P (after_element closing)) s (option_and_then next (after_element closing s))
  unfolding after_element
  after_alone s = alone_skip (λ u. option_and_then next (comma_or closing u)) (skip_alone true false s) comma_alone
      (λ t t' v r up is on. record { rest = on.rest; is = ap (comma_or closing) is ∙ on.is; up = omega (arith, up, on.up); on = on.on })

-- ---- lists

-- what a reader of some depth tells, at this depth or a greater one
pub record Deepens {A : Type 0} (reader : ℕ → List ℕ → Read A) (depth : ℕ) (t : List ℕ) (v : A) (r : List ℕ) : Type 0 where
  pub told : (up : ℕ) → depth ≤ up → reader up t ≡ Some (v, r)
  pub shorter : length r < length t

module _ {E F B : Type 0} (closing : ℕ) (some : (0 == closing) ≡ false) (element : ℕ → List ℕ → Read E) (grow : E → F → Option F) (end : F → B) (loop : ℕ → ℕ → F → List ℕ → Read B) where
  -- after an element, which may be refused
  abbrev grown : ℕ → ℕ → Option F → List ℕ → Read B
  grown up m found t = option_and_then (λ more. option_and_then (loop up m more) (after_element closing t)) found

  -- a list at the first byte that is no blank
  abbrev list_at : ℕ → ℕ → F → List ℕ → Read B
  list_at up m found t = cond (first t == closing) (Some (end found, drop 1 t)) (option_and_then (λ e. grown up m (grow e.0 found) e.1) (element up t))

  -- the loop reads that, turn by turn
  record IsList : Type 0 where
    over : (up : ℕ) (found : F) (t : List ℕ) → loop up zero found t ≡ None
    turn : (up m : ℕ) (found : F) (t : List ℕ) → loop up (suc m) found t ≡ list_at up m found (skip_blank t)

  -- what it tells, in as many elements as the text has bytes or more
  record TellsList (depth : ℕ) (found : F) (t : List ℕ) (v : B) (r : List ℕ) : Type 0 where
    told : (up m : ℕ) → depth ≤ up → length t ≤ m → loop up m found t ≡ Some (v, r)
    shorter : length r < length t

  -- after an element
  record TellsGrown (depth : ℕ) (found : Option F) (t : List ℕ) (v : B) (r : List ℕ) : Type 0 where
    told : (up m : ℕ) → depth ≤ up → length t ≤ m → grown up m found t ≡ Some (v, r)
    shorter : length r < length t

  -- and behind blanks
  record TellsAt (depth : ℕ) (found : F) (t : List ℕ) (v : B) (r : List ℕ) : Type 0 where
    told : (up m : ℕ) → depth ≤ up → length t ≤ suc m → list_at up m found t ≡ Some (v, r)
    shorter : length r < length t

  module _ (is : IsList) (depth : ℕ) (empty : element depth [] ≡ None) (elements : (s : List ℕ) → Alone (Deepens element depth) s (element depth s)) where
    -- after an element, with those that follow
    grown_alone : (n : ℕ) → ((found : F) (u : List ℕ) → Alone (TellsList depth found) u (loop depth n found u)) → (found : Option F) (s : List ℕ) → Alone (TellsGrown depth found) s (grown depth n found s)
    grown_alone n more None s = refuses refl
    grown_alone n more (Some found) s = as_read (after_alone closing some (loop depth n found) (more found) (λ t v r on. on.shorter) s) (λ t b v r whole up next.
        record { told = λ up m enough fits. rw next.is (next.on.told up m enough (omega (arith, fits, next.up))); shorter = omega (arith, next.up, next.on.shorter) })

    -- the list there
    at_alone : (n : ℕ) (found : F) → ((found : F) (u : List ℕ) → Alone (TellsList depth found) u (loop depth n found u)) → (s : List ℕ) → Alone (TellsAt depth found) s (list_at depth n found s)
    at_alone n found more [] = rw (some, empty) (refuses refl)
    at_alone n found more (c ∷ s) = elim (cases_Bool (c == closing)) [
      | inl closes ↦ rw closes (reads (end found) (c ∷ []) s refl refl (λ r b cut. record { told = λ up m enough fits. rw closes refl; shorter = omega arith }))
      | inr other ↦
          let next = λ (e : E × List ℕ). grown depth n (grow e.0 found) e.1 in
          let here : Alone (λ t v r. (e : E) × (t' : List ℕ) × Deepens element depth t e t' × TellsGrown depth (grow e found) t' v r) (c ∷ s) (option_and_then next (element depth (c ∷ s))) =
          alone_then next (elements (c ∷ s)) (λ e rest. grown_alone n more (grow e found) rest) (λ t e t' v r up one on. (e, t', one, on)) in
          rw other (as_read here (λ t b v r whole up told.
          let begins : first t ≡ c = begins_so c s t b r whole (omega (arith, told.2.shorter, told.3.shorter)) in
          record {
            told = λ up m enough fits. rw (begins, other, told.2.told up enough) (told.3.told up m enough (omega (arith, fits, told.2.shorter)));
            shorter = omega (arith, told.2.shorter, told.3.shorter);
          }))
    ]

    -- what it tells after the blanks in front of it
    list_told : (found : F) (t t' : List ℕ) (v : B) (r : List ℕ) → skip_blank t ≡ t' → length t' ≤ length t → TellsAt depth found t' v r → (up m : ℕ) → depth ≤ up → length t ≤ m → loop up m found t ≡ Some (v, r)
    list_told found t t' v r skips shorter on up zero enough fits = absurd (omega (arith, fits, shorter, on.shorter))
    list_told found t t' v r skips shorter on up (suc m) enough fits = is.turn up m found t ∙ rw skips (on.told up m enough (omega (arith, fits, shorter)))

    -- a list of so many elements at most
    list_alone : (n : ℕ) (found : F) (s : List ℕ) → Alone (TellsList depth found) s (loop depth n found s)
    list_alone zero found s = refuses (is.over depth found s)
    list_alone (suc n) found s = rw (is.turn depth n found s) (alone_skip (list_at depth n found) (skip_alone true false s) (at_alone n found (λ more u. list_alone n more u))
        (λ t t' v r up skips on. record { told = list_told found t t' v r skips up on; shorter = omega (arith, up, on.shorter) }))

-- ---- values

-- what a value tells
abbrev pub TellsVal : ℕ → List ℕ → Data → List ℕ → Type 0
TellsVal = Deepens val

-- a string or a word is a value at any depth
val_atom : (up : ℕ) (t : List ℕ) (d : Data) (r : List ℕ) → (first t == 91) ≡ false → (first t == 123) ≡ false → atom t ≡ Some (d, r) → val up t ≡ Some (d, r)
unfolding val
val_atom up t d r square brace is = search rules

-- so it is read alone
word_or_string : (depth c : ℕ) (s : List ℕ) → (c == 91) ≡ false → (c == 123) ≡ false → Alone (TellsVal depth) (c ∷ s) (atom (c ∷ s))
word_or_string depth c s square brace = as_read (atom_alone (c ∷ s)) (λ t b v r whole up on.
    let begins : first t ≡ c = begins_so c s t b r whole on.shorter in
    record { told = λ up enough. val_atom up t v r (rw begins square) (rw begins brace) on.told; shorter = on.shorter })

-- an empty text has no value, and no pair
val_nil : (depth : ℕ) → val depth [] ≡ None
unfolding val
val_nil zero = atom_nil
val_nil (suc depth) = atom_nil

pair_nil : (depth : ℕ) → keyval (val depth) [] ≡ None
unfolding key_equals key_after simple_key
pair_nil depth = refl

-- nor has one that begins with a byte order mark
pub val_mark : (depth c : ℕ) (s : List ℕ) → (c == 239) ≡ true → val depth (c ∷ s) ≡ None
unfolding val
val_mark zero c s mark = atom_none c s (rw mark (grind (arith, nat_tests)))
val_mark (suc depth) c s mark =
    let square : (c == 91) ≡ false = grind (arith, nat_tests) in
    let brace : (c == 123) ≡ false = grind (arith, nat_tests) in
    rw (square, brace) (atom_none c s (rw (square, brace) mark))

module _ (depth : ℕ) (on : (s : List ℕ) → Alone (TellsVal depth) s (val depth s)) where
  -- a key and its value
  pair_alone : (s : List ℕ) → Alone (Deepens (λ up. keyval (val up)) depth) s (keyval (val depth) s)
  pair_alone s = alone_then {Q = λ k. Deepens (λ up t. read_map (λ (d : Data). (k, d)) (val up t)) depth} _ (key_equals_alone s)
      (λ k rest. alone_map (λ d. (k, d)) (on rest) (λ t d r is. record { told = λ up enough. ap (read_map (λ (d : Data). (k, d))) (is.told up enough); shorter = is.shorter }))
      (λ t k t' p r up is is_on. record { told = λ up enough. rw is.told (is_on.told up enough); shorter = omega (arith, is.shorter, is_on.shorter) })

  -- the items of an array
  items_alone : (n : ℕ) (s : List ℕ) → Alone (λ t v r. ((up m : ℕ) → depth ≤ up → length t ≤ m → items (val up) m no_items t ≡ Some (v, r)) × (length r < length t)) s (items (val depth) n no_items s)
  unfolding items
  items_alone n s = as_read (list_alone 93 refl val (λ d found. Some (push_item found d)) (λ found. found) (λ up m found t. items (val up) m found t)
      (record { over = λ up found t. refl; turn = λ up m found t. refl }) depth (val_nil depth) on n no_items s) (λ t b v r whole up is. (is.told, is.shorter))

  -- the pairs of an inline table
  members_alone : (n : ℕ) (s : List ℕ) → Alone (λ t v r. ((up m : ℕ) → depth ≤ up → length t ≤ m → members (val up) m no_nodes t ≡ Some (v, r)) × (length r < length t)) s (members (val depth) n no_nodes s)
  unfolding members
  members_alone n s = as_read (list_alone 125 refl (λ up. keyval (val up)) (λ p found. put p.0 p.1 found) close (λ up m found t. members (val up) m found t)
      (record { over = λ up found t. refl; turn = λ up m found t. refl }) depth (pair_nil depth) pair_alone n no_nodes s) (λ t b v r whole up is. (is.told, is.shorter))

-- what is told at a depth that has room for one more
deeper : (depth : ℕ) (t r : List ℕ) (d : Data) → ((up : ℕ) → depth ≤ up → val (suc up) t ≡ Some (d, r)) → (up : ℕ) → suc depth ≤ up → val up t ≡ Some (d, r)
deeper depth t r d told zero enough = absurd (omega (arith, enough))
deeper depth t r d told (suc up) enough = told up (omega (arith, enough))

-- a value
pub val_alone : (depth : ℕ) (s : List ℕ) → Alone (TellsVal depth) s (val depth s)
unfolding val
val_alone zero [] = refuses atom_nil
val_alone zero (c ∷ s) = elim (cases_Bool (c == 91 || c == 123)) [
  | inl opens ↦ refuses (atom_none c s (rw opens refl))
  | inr other ↦
      let (square, brace) = or_parts (c == 91) (c == 123) other in
      word_or_string zero c s square brace
]
val_alone (suc depth) [] = refuses atom_nil
val_alone (suc depth) (c ∷ s) = elim (cases_Bool (c == 91)) [
  | inl opens ↦
      let here : Alone (λ t v r. TellsVal (suc depth) (c ∷ t) v r) s (read_map array (items (val depth) (length (c ∷ s)) no_items s)) = alone_map array (items_alone depth (val_alone depth) (length (c ∷ s)) s) (λ t v r on. record {
        told = deeper depth (c ∷ t) r (array v) (λ up enough. rw opens (ap (read_map array) (on.0 up (length (c ∷ t)) enough (omega arith))));
        shorter = omega (arith, on.1);
      }) in
      rw opens (behind c here (λ t v r up on. on))
  | inr other ↦ elim (cases_Bool (c == 123)) [
    | inl opens ↦
        let here : Alone (λ t v r. TellsVal (suc depth) (c ∷ t) v r) s (read_map table (members (val depth) (length (c ∷ s)) no_nodes s)) = alone_map table (members_alone depth (val_alone depth) (length (c ∷ s)) s) (λ t v r on. record {
          told = deeper depth (c ∷ t) r (table v) (λ up enough. rw (other, opens) (ap (read_map table) (on.0 up (length (c ∷ t)) enough (omega arith))));
          shorter = omega (arith, on.1);
        }) in
        rw (other, opens) (behind c here (λ t v r up on. on))
    | inr neither ↦ rw (other, neither) (word_or_string (suc depth) c s other neither)
  ]
]
