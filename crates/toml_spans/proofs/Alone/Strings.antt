-- Strings and keys of a text are the same before each front of what they leave.
use Rattle.std.proofs.Common.{◌≡◌, ℕ, zero, suc, ◌+◌, ◌<◌, ◌≤◌, Bool, true, false, cond, ◌&&◌, ◌||◌, ◌==◌, nat_le, nat_lt, List, [], ◌∷◌, ◌++◌, length, take, drop, Option, option_and_then, option_map, Some, None, is_some, slice_index, refl, sym, ap, subst, ◌∙◌, inl, inr, arith, le-leb, leb-true, eqb-true, take_at, drop_at, length-append, rules}
use Rattle.std.proofs.lemmas.Bool.{and_parts, and_right, cases_Bool, false≢true}
use Rattle.std.proofs.lemmas.Bool.Decides.{nat_tests}
use Rattle.std.proofs.lemmas.List.{length-take-le, take-append-drop}
use Rattle.std.specs.List.{list_all, prefix_len}
use Rattle.std.specs.Char.{is_digit}
use Rattle.std.specs.Str.Parse.{digits_value}
use Rattle.std.specs.Prelude.{encode_utf8}
use Rattle.toml_parser.proofs.LexicalLemmas.{skip_ws_none}
use Rattle.toml_parser.specs.Lexical.{first, is_bare, is_ws, Read, skip_from, skip_ws, split_while, starts_newline}
use Rattle.toml_parser.specs.Strings.{after_piece, at_delims, body, escape, escape_char, hex_escape, hex_len, is_plain, is_scalar, Key, key_after, one_line, quoted, simple_escape, simple_key, special, starts_string, trim_newline}
use Rattle.toml.specs.Parse.{read_map}
use Rattle.toml_spans.proofs.Alone.Lexical.{first_cut, first_same, run_on, skip_alone, split_alone, ws_alone, ws_skipped, ws_step}
use Rattle.toml_spans.proofs.Alone.Reads.{Alone, alone_if, alone_map, alone_skip, alone_then, as_read, behind, reads, refuses, skipped_alone, Skips, skips_after, Tells}

-- ---- escapes

-- the digits of an escape
hex_alone : (n : ℕ) (s : List ℕ) → Alone (λ t v r. hex_escape n t ≡ Some (v, r)) s (hex_escape n s)
unfolding hex_escape
hex_alone n s =
    let digits = take n s in
    let valid = list_all (λ c. is_digit c 16) digits in
    elim (cases_Bool ((nat_le n (length s) && valid) && is_scalar (digits_value 16 digits))) [
      | inr bad ↦ refuses (rw bad refl)
      | inl good ↦
          let (left, scalar) = and_parts (nat_le n (length s) && valid) (is_scalar (digits_value 16 digits)) good in
          let (fits, all) = and_parts (nat_le n (length s)) valid left in
          let size : length digits ≡ n = length-take-le n s (leb-true n (length s) fits) in
          reads (digits_value 16 digits) digits (drop n s) (sym (take-append-drop n s)) (rw good refl) (λ r b cut.
          let fits_there : nat_le n (length (digits ++ r)) ≡ true = le-leb n (length (digits ++ r)) (omega (arith, length-append digits r, size)) in
          rw (fits_there, take_at digits r n size, drop_at digits r n size, all, scalar) refl)
    ]

-- a byte that passes a test is none that doesn't
differs : (p : ℕ → Bool) (c k : ℕ) → p c ≡ true → p k ≡ false → (c == k) ≡ false
differs p c k passes fails = search rules

-- the letter of an escape
abbrev is_letter : ℕ → Bool
is_letter c = nat_lt 0 (hex_len c) || is_some (simple_escape c)

-- it is no white space, and no line ends at it
letter_in_line : (c : ℕ) (t : List ℕ) → is_letter c ≡ true → starts_newline (skip_ws (c ∷ t)) ≡ false
letter_in_line c t letter =
    rw (skip_ws_none (c ∷ t) (rw (differs is_letter c 32 letter refl, differs is_letter c 9 letter refl) refl), differs is_letter c 10 letter refl, differs is_letter c 13 letter refl) refl

-- what an escape tells, which doesn't begin with the end of a line
record TellsEscape (t : List ℕ) (v : ℕ) (r : List ℕ) : Type 0 where
  told : escape_char t ≡ Some (v, r)
  in_line : starts_newline (skip_ws t) ≡ false

-- what stands for a character after a backslash
escape_char_alone : (s : List ℕ) → Alone TellsEscape s (escape_char s)
unfolding escape_char
escape_char_alone [] = refuses refl
escape_char_alone (c ∷ s) = elim (cases_Bool (nat_lt 0 (hex_len c))) [
  | inl hex ↦ rw hex (behind c (hex_alone (hex_len c) s) (λ t v r shorter is. record { told = rw hex is; in_line = letter_in_line c t (rw hex refl) }))
  | inr other ↦ rw other (one_escape other (simple_escape c) refl)
]
  where
    one_escape : nat_lt 0 (hex_len c) ≡ false → (found : Option ℕ) → simple_escape c ≡ found → Alone TellsEscape (c ∷ s) (option_map (λ v. (v, s)) found)
    one_escape other None is = refuses refl
    one_escape other (Some v) is = reads v (c ∷ []) s refl refl (λ r b cut. record { told = rw (other, is) refl; in_line = letter_in_line c r (rw (other, is) refl) })

-- a line feed, or a carriage return before one, among lines
lines_feed : (c : ℕ) (t : List ℕ) → (c == 10 || (c == 13 && first t == 10)) ≡ true → skip_from false false (c ∷ t) ≡ skip_from false false t
unfolding skip_from
lines_feed c t feed = rw feed refl

-- white space from the end of a line on, up to the next text
record TellsCut (t r : List ℕ) : Type 0 where
  skipped : skip_from false false t ≡ r
  ends : starts_newline (skip_ws t) ≡ true

-- after the end of a line
feed_alone : (c : ℕ) (s : List ℕ) → is_ws c ≡ false → starts_newline (c ∷ s) ≡ true → Skips TellsCut (c ∷ s) (skip_from false false (c ∷ s))
feed_alone c s other ends = elim (cases_Bool (c == 10)) [
  | inl feed ↦ rw (lines_feed c s ends) (skips_after c (skip_alone false false s) (λ t r is. record { skipped = lines_feed c t (rw feed refl) ∙ is; ends = rw (skip_ws_none (c ∷ t) other, feed) refl }))
  | inr none ↦ after_return c s other none (rw none at ends) ends
]
  where
    after_return : (c : ℕ) (s : List ℕ) → is_ws c ≡ false → (c == 10) ≡ false → (c == 13 && first s == 10) ≡ true → starts_newline (c ∷ s) ≡ true → Skips TellsCut (c ∷ s) (skip_from false false (c ∷ s))
    after_return c [] other none both ends = absurd (false≢true (sym (and_right (c == 13) false refl) ∙ both))
    after_return c (d ∷ s) other none both ends =
        let feed : (d == 10) ≡ true = (and_parts (c == 13) (d == 10) both).1 in
        rw (lines_feed c (d ∷ s) ends, lines_feed d s (rw feed refl)) (skips_after c (skips_after {S = λ t r. (skip_from false false t ≡ r) × (first t ≡ d)} d (skip_alone false false s) (λ t r is. (lines_feed d t (rw feed refl) ∙ is, refl)))
        (λ t r is. let pair : (c == 10 || (c == 13 && first t == 10)) ≡ true = rw (none, is.1) both in
        record { skipped = lines_feed c t pair ∙ is.0; ends = rw (skip_ws_none (c ∷ t) other) pair }))

-- white space from the end of a line on
cut_alone : (s : List ℕ) → starts_newline (skip_ws s) ≡ true → Skips TellsCut s (skip_from false false s)
unfolding skip_ws
cut_alone [] ends = absurd (false≢true ends)
cut_alone (c ∷ s) ends = elim (cases_Bool (is_ws c)) [
  | inl ws ↦ rw (ws_skipped false c s ws) (skips_after c (cut_alone s (rw (ws_step c s ws) at ends)) (λ t r is. record { skipped = ws_skipped false c t ws ∙ is.skipped; ends = rw (ws_step c t ws) is.ends }))
  | inr other ↦ feed_alone c s other (rw (skip_ws_none (c ∷ s) other) at ends)
]

-- what follows a backslash
pub escape_alone : (multi : Bool) (s : List ℕ) → Alone (λ t v r. escape multi t ≡ Some (v, r)) s (escape multi s)
unfolding escape
escape_alone multi s = elim (cases_Bool (multi && starts_newline (skip_ws s))) [
  | inl cut ↦
      let (several, ends) = and_parts multi (starts_newline (skip_ws s)) cut in
      rw cut (skipped_alone [] (cut_alone s ends) (λ t r is. rw (several, is.ends, is.skipped) refl))
  | inr other ↦ rw other (alone_map encode_utf8 (escape_char_alone s) (λ t v r is. rw (is.in_line, and_right multi false refl, is.told) refl))
]

-- ---- the pieces of a string

module _ (delim : ℕ) (multi : Bool) where
  -- how many delimiters stand at the front
  abbrev delims : List ℕ → ℕ
  delims t = prefix_len (λ x. x == delim) t

  -- what the content of a string tells, in as many pieces as the text has bytes or more; in a string of several lines it begins with as many delimiters
  pub record TellsBody (s t v r : List ℕ) : Type 0 where
    pub told : (m : ℕ) → length t ≤ m → body delim multi m t ≡ Some (v, r)
    pub shorter : length r < length t
    pub run : multi ≡ true → delims t ≡ delims s

  -- what a piece tells that is no plain byte nor a delimiter
  record TellsPiece (t : List ℕ) (piece : Option (List ℕ)) (r : List ℕ) : Type 0 where
    no_plain : is_plain delim multi (first t) ≡ false
    told : special delim multi t ≡ Some (piece, r)
    shorter : length r < length t
    run : delims t ≡ 0

  -- what is told after a piece
  record TellsAfter (piece : Option (List ℕ)) (t w r : List ℕ) : Type 0 where
    told : (m : ℕ) → length t ≤ m → after_piece (body delim multi m) piece t ≡ Some (w, r)
    shorter : length r ≤ length t

  -- one piece, and the next ones
  one_piece : (m : ℕ) (t : List ℕ) (piece : Option (List ℕ)) (r : List ℕ) → is_plain delim multi (first t) ≡ false → special delim multi t ≡ Some (piece, r) → body delim multi (suc m) t ≡ after_piece (body delim multi m) piece r
  unfolding body
  one_piece m t piece r other is = rw (other, is) refl

  -- a byte that stands for so many
  told_behind : (c : ℕ) (bytes t v r : List ℕ) → ((m : ℕ) → body delim multi (suc m) (c ∷ t) ≡ read_map (λ (rest : List ℕ). bytes ++ rest) (body delim multi m t))
      → ((m : ℕ) → length t ≤ m → body delim multi m t ≡ Some (v, r)) → (m : ℕ) → length (c ∷ t) ≤ m → body delim multi m (c ∷ t) ≡ Some (bytes ++ v, r)
  told_behind c bytes t v r step on zero enough = absurd (omega (arith, enough))
  told_behind c bytes t v r step on (suc m) enough = step m ∙ ap (read_map (λ (rest : List ℕ). bytes ++ rest)) (on m (omega (arith, enough)))

  -- such a byte in front of what is read alone
  byte_after : (c : ℕ) (bytes s : List ℕ) (x : Read (List ℕ)) → Alone (TellsBody s) s x
      → ((t b v r : List ℕ) → s ≡ t ++ b → TellsBody s t v r → (m : ℕ) → body delim multi (suc m) (c ∷ t) ≡ read_map (λ (rest : List ℕ). bytes ++ rest) (body delim multi m t))
      → Alone (TellsBody (c ∷ s)) (c ∷ s) (read_map (λ (rest : List ℕ). bytes ++ rest) x)
  byte_after c bytes s x more step =
      let here : Alone (λ t v r. TellsBody s t v r × ((m : ℕ) → body delim multi (suc m) (c ∷ t) ≡ read_map (λ (rest : List ℕ). bytes ++ rest) (body delim multi m t))) s x = as_read more (λ t b v r whole up on. (on, step t b v r whole on)) in
      let mapped : Alone (λ t w r. TellsBody (c ∷ s) (c ∷ t) w r) s (read_map (λ (rest : List ℕ). bytes ++ rest) x) = alone_map (λ (rest : List ℕ). bytes ++ rest) here (λ t v r on. record {
        told = told_behind c bytes t v r on.1 on.0.told;
        shorter = omega (arith, on.0.shorter);
        run = λ several. ap (λ n. cond (c == delim) (1 + n) 0) (on.0.run several);
      }) in
      behind c mapped (λ t v r up on. on)

  -- what comes after a piece
  after_piece_alone : (n : ℕ) (piece : Option (List ℕ)) (s : List ℕ) → Alone (TellsBody s) s (body delim multi n s) → Alone (TellsAfter piece) s (after_piece (body delim multi n) piece s)
  after_piece_alone n None s more = reads [] [] s refl refl (λ r b cut. record { told = λ m enough. refl; shorter = omega arith })
  after_piece_alone n (Some bytes) s more = alone_map (λ (rest : List ℕ). bytes ++ rest) more (λ t v r on. record { told = λ m enough. ap (read_map (λ (rest : List ℕ). bytes ++ rest)) (on.told m enough); shorter = omega (arith, on.shorter) })

  -- a piece that is no delimiter, and what comes after it
  told_after : (t : List ℕ) (piece : Option (List ℕ)) (t' w r : List ℕ) → TellsPiece t piece t' → TellsAfter piece t' w r → (m : ℕ) → length t ≤ m → body delim multi m t ≡ Some (w, r)
  told_after t piece t' w r is after zero enough = absurd (omega (arith, enough, is.shorter))
  told_after t piece t' w r is after (suc m) enough = one_piece m t piece t' is.no_plain is.told ∙ after.told m (omega (arith, enough, is.shorter))

  -- the same where they are read alone
  piece_then : (n c : ℕ) (s : List ℕ) (x : Read (Option (List ℕ))) → (c == delim) ≡ false → ((u : List ℕ) → Alone (TellsBody u) u (body delim multi n u)) → Alone TellsPiece (c ∷ s) x
      → Alone (TellsBody (c ∷ s)) (c ∷ s) (option_and_then (λ p. after_piece (body delim multi n) p.0 p.1) x)
  piece_then n c s x other more piece_is = alone_then (λ p. after_piece (body delim multi n) p.0 p.1) piece_is (λ piece rest. after_piece_alone n piece rest (more rest)) (λ t piece t' w r up is after. record {
    told = told_after t piece t' w r is after;
    shorter = omega (arith, is.shorter, after.shorter);
    run = λ several. is.run ∙ rw other refl;
  })

  module _ (begins : (delim == 34 || delim == 39) ≡ true) where
    -- what no delimiter is
    some : (0 == delim) ≡ false
    some = grind (arith, nat_tests)

    -- no string ends at the end of the text
    body_nil : (n : ℕ) → body delim multi n [] ≡ None
    unfolding body special
    body_nil n = search rules

    -- what a byte stands for that isn't plain
    special_is : (c : ℕ) (t : List ℕ) → special delim multi (c ∷ t) ≡ cond (c == delim) (cond multi (at_delims delim (c ∷ t)) (Some (None, t)))
        (cond (c == 92) (read_map Some (escape multi t)) (cond (multi && starts_newline (c ∷ t)) (Some (Some (c ∷ []), t)) None))
    unfolding special
    special_is c t = refl

    -- three of them, and another number
    at_three : (t : List ℕ) → delims t ≡ 3 → at_delims delim t ≡ Some (None, drop 3 t)
    at_three t three = rw three refl

    at_one : (t : List ℕ) (k : ℕ) → delims t ≡ k → (k == 3) ≡ false → nat_lt k 6 ≡ true → at_delims delim t ≡ Some (Some (delim ∷ []), drop 1 t)
    at_one t k is other few = rw (is, other, few) refl

    -- the end of a string, in as many pieces as the text has bytes or more
    told_end : (t r : List ℕ) → special delim multi t ≡ Some (None, r) → 0 < length t → is_plain delim multi (first t) ≡ false → (m : ℕ) → length t ≤ m → body delim multi m t ≡ Some ([], r)
    told_end t r ends more other zero enough = absurd (omega (arith, enough, more))
    told_end t r ends more other (suc m) enough = one_piece m t None r other ends

    -- a delimiter
    delim_alone : (n c : ℕ) (s : List ℕ) → ((u : List ℕ) → Alone (TellsBody u) u (body delim multi n u)) → is_plain delim multi c ≡ false → (c == delim) ≡ true
        → Alone (TellsBody (c ∷ s)) (c ∷ s) (option_and_then (λ p. after_piece (body delim multi n) p.0 p.1) (special delim multi (c ∷ s)))
    delim_alone n c s more other is = elim (cases_Bool multi) [
      | inr one ↦
          let ends : (t : List ℕ) → special delim multi (c ∷ t) ≡ Some (None, t) = λ t. special_is c t ∙ rw (is, one) refl in
          rw (ends s) (reads [] (c ∷ []) s refl refl (λ r b cut. record { told = told_end (c ∷ r) r (ends r) (omega arith) other; shorter = omega arith; run = λ several. absurd (false≢true (sym one ∙ several)) }))
      | inl several ↦
          let count = delims (c ∷ s) in
          let several_is : (t : List ℕ) → special delim multi (c ∷ t) ≡ at_delims delim (c ∷ t) = λ t. special_is c t ∙ rw (is, several) refl in
          elim (cases_Bool (count == 3)) [
            | inl three ↦
                let all : count ≡ 3 = eqb-true count 3 three in
                rw (several_is s, at_three (c ∷ s) all) (reads [] (take 3 (c ∷ s)) (drop 3 (c ∷ s)) (sym (take-append-drop 3 (c ∷ s))) refl (λ r b cut.
                let (size, run) = run_on (λ x. x == delim) (c ∷ s) 3 r b all cut in
                let left : drop 3 (take 3 (c ∷ s) ++ r) ≡ r = drop_at (take 3 (c ∷ s)) r 3 size in
                let longer : length (take 3 (c ∷ s) ++ r) ≡ 3 + length r = omega (arith, size, length-append (take 3 (c ∷ s)) r) in
                record {
                  told = told_end (take 3 (c ∷ s) ++ r) r (several_is (take 2 s ++ r) ∙ at_three (take 3 (c ∷ s) ++ r) run ∙ ap (λ (u : List ℕ). Some (None, u)) left) (omega (arith, longer)) other;
                  shorter = omega (arith, longer);
                  run = λ _. run ∙ sym all;
                }))
            | inr more_or_less ↦ elim (cases_Bool (nat_lt count 6)) [
              | inr many ↦ rw (several_is s, more_or_less, many) (refuses refl)
              | inl few ↦
                  let here : Alone (TellsBody (c ∷ s)) (c ∷ s) (read_map (λ (rest : List ℕ). (delim ∷ []) ++ rest) (body delim multi n s)) = byte_after c (delim ∷ []) s (body delim multi n s) (more s) (λ t b v r whole on m.
                  let same : delims (c ∷ t) ≡ count = ap (λ n. cond (c == delim) (1 + n) 0) (on.run several) in
                  one_piece m (c ∷ t) (Some (delim ∷ [])) t other (several_is t ∙ at_one (c ∷ t) count same more_or_less few)) in
                  rw (several_is s, at_one (c ∷ s) count refl more_or_less few) here
            ]
          ]
    ]

    -- a byte that doesn't stand for itself, and what comes after it
    special_alone : (n c : ℕ) (s : List ℕ) → ((u : List ℕ) → Alone (TellsBody u) u (body delim multi n u)) → is_plain delim multi c ≡ false
        → Alone (TellsBody (c ∷ s)) (c ∷ s) (option_and_then (λ p. after_piece (body delim multi n) p.0 p.1) (special delim multi (c ∷ s)))
    special_alone n c s more no_plain = elim (cases_Bool (c == delim)) [
      | inl is ↦ delim_alone n c s more no_plain is
      | inr other ↦ elim (cases_Bool (c == 92)) [
        | inl escapes ↦
            let escapes_is : (t : List ℕ) → special delim multi (c ∷ t) ≡ read_map Some (escape multi t) = λ t. special_is c t ∙ rw (other, escapes) refl in
            let mapped : Alone (λ t piece r. special delim multi (c ∷ t) ≡ Some (piece, r)) s (read_map Some (escape multi s)) = alone_map Some (escape_alone multi s) (λ t v r is. escapes_is t ∙ ap (read_map Some) is) in
            let here : Alone TellsPiece (c ∷ s) (read_map Some (escape multi s)) = behind c mapped (λ t piece r up is. record { no_plain = no_plain; told = is; shorter = omega (arith, up); run = rw other refl }) in
            rw (escapes_is s) (piece_then n c s (read_map Some (escape multi s)) other more here)
        | inr plain ↦ elim (cases_Bool (multi && starts_newline (c ∷ s))) [
          | inl ends ↦
              let here : Alone (TellsBody (c ∷ s)) (c ∷ s) (read_map (λ (rest : List ℕ). (c ∷ []) ++ rest) (body delim multi n s)) = byte_after c (c ∷ []) s (body delim multi n s) (more s) (λ t b v r whole on m.
              let same : first t ≡ first s = sym (ap first whole ∙ first_same t b (omega (arith, on.shorter))) in
              let ends_there : (multi && starts_newline (c ∷ t)) ≡ true = rw same ends in
              one_piece m (c ∷ t) (Some (c ∷ [])) t no_plain (special_is c t ∙ rw (other, plain, ends_there) refl)) in
              rw (special_is c s, other, plain, ends) here
          | inr none ↦ rw (special_is c s, other, plain, none) (refuses refl)
        ]
      ]
    ]

    -- the content of a string up to its end
    pub body_alone : (n : ℕ) (s : List ℕ) → Alone (TellsBody s) s (body delim multi n s)
    unfolding body
    body_alone zero s = refuses refl
    body_alone (suc n) [] = refuses (body_nil (suc n))
    body_alone (suc n) (c ∷ s) = alone_if (is_plain delim multi c)
        (λ plain. byte_after c (c ∷ []) s (body delim multi n s) (body_alone n s) (λ t b v r whole on m. rw plain refl))
        (λ other. special_alone n c s (λ u. body_alone n u) other)

    -- no newline that is left out stands before a front of a text without one
    trim_cut : (c : ℕ) (s t b : List ℕ) → c ∷ s ≡ t ++ b → 0 < length t → (c == 10) ≡ false → (c == 13 && first s == 10) ≡ false → trim_newline t ≡ t
    trim_cut c s t b whole some feed return = search rules

    -- what is told after a newline that is left out
    record TellsTrimmed (t v r : List ℕ) : Type 0 where
      told : (m : ℕ) → length t ≤ m → body delim multi m (trim_newline t) ≡ Some (v, r)
      shorter : length r < length t

    -- and after a newline in front of it, which is left out
    trimmed_alone : (n : ℕ) (s : List ℕ) → Alone TellsTrimmed s (body delim multi n (trim_newline s))
    trimmed_alone n [] = refuses (body_nil n)
    trimmed_alone n (c ∷ s) = elim (cases_Bool (c == 10)) [
      | inl feed ↦ rw feed (behind c (body_alone n s) (λ t v r up on. record { told = λ m enough. rw feed (on.told m (omega (arith, enough))); shorter = omega (arith, on.shorter) }))
      | inr other ↦ elim (cases_Bool (c == 13 && first s == 10)) [
        | inl pair ↦ rw (other, pair) (after_pair other s pair)
        | inr none ↦ rw (other, none) (as_read (body_alone n (c ∷ s)) (λ t b v r whole up on.
            let same : trim_newline t ≡ t = trim_cut c s t b whole (omega (arith, on.shorter)) other none in
            record { told = λ m enough. ap (body delim multi m) same ∙ on.told m enough; shorter = on.shorter }))
      ]
    ]
      where
        after_pair : (c == 10) ≡ false → (s : List ℕ) → (c == 13 && first s == 10) ≡ true → Alone TellsTrimmed (c ∷ s) (body delim multi n (drop 1 s))
        after_pair other [] pair = absurd (false≢true (sym (and_right (c == 13) false refl) ∙ pair))
        after_pair other (d ∷ s) pair = behind c (behind {S = λ t v r. TellsTrimmed (c ∷ t) v r} d (body_alone n s) (λ t v r up on. record { told = λ m enough. rw (other, pair) (on.told m (omega (arith, enough))); shorter = omega (arith, on.shorter) })) (λ t v r up on. on)

-- ---- whole strings

-- a string of one line
pub one_line_alone : (s : List ℕ) → starts_string s ≡ true → Alone (Tells one_line) s (one_line s)
unfolding one_line
one_line_alone [] begins = absurd (false≢true begins)
one_line_alone (c ∷ s) begins = behind c (body_alone c false begins (length (c ∷ s)) s) (λ t v r up on. record { told = on.told (length (c ∷ t)) (omega arith); shorter = omega (arith, on.shorter) })

-- a string that begins with one or two delimiters
quoted_one : (t : List ℕ) → (slice_index t 1 == first t && slice_index t 2 == first t) ≡ false → quoted t ≡ one_line t
unfolding quoted
quoted_one t one = rw one refl

-- a text that doesn't begin with three has no front that does
triple_cut : (c : ℕ) (s t b : List ℕ) → (0 == c) ≡ false → c ∷ s ≡ t ++ b → 0 < length t → (slice_index s 0 == c && slice_index s 1 == c) ≡ false → (slice_index t 1 == first t && slice_index t 2 == first t) ≡ false
triple_cut c s [] b some whole more none = absurd (omega (arith, more))
triple_cut c s (d ∷ []) b some whole more none =
    let same : c ≡ d = cc whole in
    rw (← same, some) refl
triple_cut c s (d ∷ e ∷ []) b some whole more none =
    let same : c ≡ d = cc whole in
    rw (← same, some, and_right (e == c) false refl) refl
triple_cut c s (d ∷ e ∷ f ∷ t) b some whole more none =
    let same : c ≡ d = cc whole in
    let rest : s ≡ e ∷ f ∷ (t ++ b) = cc whole in
    rw (← same) (rw rest at none)

-- a string that begins with three delimiters
after_three : (c : ℕ) (s : List ℕ) → starts_string (c ∷ s) ≡ true → (slice_index s 0 == c && slice_index s 1 == c) ≡ true → Alone (Tells quoted) (c ∷ s) (quoted (c ∷ s))
unfolding quoted
after_three c [] begins three = absurd (false≢true (sym (rw (some c true begins) refl) ∙ three))
after_three c (d ∷ []) begins three = absurd (false≢true (sym (rw (some c true begins) (and_right (d == c) false refl)) ∙ three))
after_three c (d ∷ e ∷ s) begins three =
    rw three (behind c (behind {S = λ t v r. Tells quoted (c ∷ t) v r} d (behind {S = λ t v r. Tells quoted (c ∷ d ∷ t) v r} e (trimmed_alone c true begins (length (c ∷ d ∷ e ∷ s)) s)
    (λ t v r up on. record { told = rw three (on.told (length (c ∷ d ∷ e ∷ t)) (omega arith)); shorter = omega (arith, on.shorter) })) (λ t v r up on. on)) (λ t v r up on. on))

-- a string of any kind
pub quoted_alone : (s : List ℕ) → starts_string s ≡ true → Alone (Tells quoted) s (quoted s)
quoted_alone [] begins = absurd (false≢true begins)
quoted_alone (c ∷ s) begins = elim (cases_Bool (slice_index s 0 == c && slice_index s 1 == c)) [
  | inl three ↦ after_three c s begins three
  | inr none ↦ rw (quoted_one (c ∷ s) none) (as_read (one_line_alone (c ∷ s) begins) (λ t b v r whole up on.
      record { told = quoted_one t (triple_cut c s t b (some c false begins) whole (omega (arith, on.shorter)) none) ∙ on.told; shorter = on.shorter }))
]

-- ---- keys

-- a bare part of a key
bare_key : (t : List ℕ) → starts_string t ≡ false → is_bare (first t) ≡ true → simple_key t ≡ Some (split_while is_bare t)
unfolding simple_key
bare_key t other bare = rw (other, bare) refl

-- a part of a key
pub simple_key_alone : (s : List ℕ) → Alone (Tells simple_key) s (simple_key s)
unfolding simple_key
simple_key_alone [] = refuses refl
simple_key_alone (c ∷ s) = elim (cases_Bool (c == 34 || c == 39)) [
  | inl begins ↦ rw begins (as_read (one_line_alone (c ∷ s) begins) (λ t b v r whole up on.
      let same : first t ≡ c = sym (ap first whole ∙ first_same t b (omega (arith, on.shorter))) in
      record { told = rw (same, begins) on.told; shorter = on.shorter }))
  | inr other ↦ elim (cases_Bool (is_bare c)) [
    | inr none ↦ rw (other, none) (refuses refl)
    | inl bare ↦
        let n = prefix_len is_bare (c ∷ s) in
        let some_byte : 0 < n = rw bare (omega arith) in
        let split : Alone (λ t v r. (split_while is_bare t ≡ (v, r)) × (length t ≡ n + length r)) (c ∷ s) (Some (split_while is_bare (c ∷ s))) = skipped_alone (take n (c ∷ s)) (split_alone is_bare (c ∷ s)) (λ t r is. is) in
        let here : Alone (Tells simple_key) (c ∷ s) (Some (split_while is_bare (c ∷ s))) = as_read split (λ t b v r whole up is.
        let longer : length r < length t = omega (arith, is.1, some_byte) in
        let same : first t ≡ c = sym (ap first whole ∙ first_same t b (omega (arith, longer))) in
        record { told = bare_key t (rw same other) (rw same bare) ∙ ap Some is.0; shorter = longer }) in
        subst (λ (x : Read (List ℕ)). Alone (Tells simple_key) (c ∷ s) x) (sym (bare_key (c ∷ s) other bare)) here
  ]
]

-- the rest of a key after one of its parts
abbrev after_part : ℕ → List (List ℕ) → List ℕ → List ℕ → Read Key
after_part n path part rest = cond (first rest == 46) (key_after n (path ++ part ∷ []) (skip_ws (drop 1 rest))) (Some ((path, part), rest))

-- what is told after a part
record TellsPart (n : ℕ) (path : List (List ℕ)) (part t : List ℕ) (k : Key) (r : List ℕ) : Type 0 where
  told : after_part n path part t ≡ Some (k, r)
  shorter : length r ≤ length t

-- after a part
after_part_alone : (n : ℕ) (path : List (List ℕ)) (part s : List ℕ) → ((path' : List (List ℕ)) (u : List ℕ) → Alone (Tells (key_after n path')) u (key_after n path' u)) → Alone (TellsPart n path part) s (after_part n path part s)
after_part_alone n path part [] more = reads (path, part) [] [] refl refl (λ r b cut. nothing_left r b cut)
  where
    nothing_left : (r b : List ℕ) → [] ≡ r ++ b → TellsPart n path part r (path, part) r
    nothing_left [] b cut = record { told = refl; shorter = omega arith }
    nothing_left (c ∷ r) b cut = absurd (cc cut)
after_part_alone n path part (c ∷ s) more = alone_if (c == 46)
    (λ dot.
    let here : Alone (λ t k r. (after_part n path part (c ∷ t) ≡ Some (k, r)) × (length r ≤ length t)) s (key_after n (path ++ part ∷ []) (skip_ws s)) =
    alone_skip (key_after n (path ++ part ∷ [])) (ws_alone s) (more (path ++ part ∷ [])) (λ t t' k r up is on. (rw (dot, is) on.told, omega (arith, up, on.shorter))) in
    behind c here (λ t k r up on. record { told = on.0; shorter = omega (arith, on.1) }))
    (λ other. reads (path, part) [] (c ∷ s) refl refl (λ r b cut. record { told = rw (first_cut r b 46 refl (rw (ap first cut) at other)) refl; shorter = omega arith }))

-- the parts of a key, so many at most
pub key_after_alone : (n : ℕ) (path : List (List ℕ)) (s : List ℕ) → Alone (Tells (key_after n path)) s (key_after n path s)
unfolding key_after
key_after_alone zero path s = refuses refl
key_after_alone (suc n) path s = alone_then _ (simple_key_alone s)
    (λ part rest. alone_skip {S = λ t k r. (after_part n path part (skip_ws t) ≡ Some (k, r)) × (length r ≤ length t)} (after_part n path part) (ws_alone rest) (λ u. after_part_alone n path part u (λ path' v. key_after_alone n path' v)) (λ t t' k r up is on. (ap (after_part n path part) is ∙ on.told, omega (arith, up, on.shorter))))
    (λ t part t' k r up is on. record { told = rw is.told on.0; shorter = omega (arith, is.shorter, on.1) })
