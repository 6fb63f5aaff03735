-- Texts and their characters.
use Rattle.std.proofs.Common.{◌≡◌, ◌≢◌, ℕ, ◌+◌, ◌-◌, ◌≤◌, true, false, Bor, List, [], ◌∷◌, ◌++◌, length, take, drop, Option, Some, None, nat_eq, refl, sym, ap, ◌∙◌, subst, inl, inr, arith, eq-eqb, eqb-true}
use Rattle.std.specs.Prelude.{◌==◌, encode_utf8_all, MatchOption}
use Rattle.std.proofs.Math.Seq.{take-append_seam, drop-append_seam}
use Rattle.std.proofs.lemmas.Bool.{cases_Bool, ltb-true}
use Rattle.std.proofs.lemmas.List.{length-append}
use Rattle.std.proofs.lemmas.Str.{chars-append, chars-IsAscii, chars-nil, encodes-append, encodes-chars, encodes_same, IsCharBoundary-at_seam, IsCharBoundary-from_take, IsUtf8-drop, IsUtf8-from_ascii, IsUtf8-take}
use Rattle.std.proofs.lemmas.Str.Ascii.{IsAscii-cons, IsAscii-nil}
use Rattle.std.specs.Char.{is_ascii}
use Rattle.std.specs.List.{list_all}
use Rattle.std.specs.Str.{chars, IsAscii, IsCharBoundary, IsUtf8}
use Rattle.std.specs.Str.Pattern.{FindsTextPrefix, StripsPrefix}
use Rattle.std.specs.Cmp.Lexicographic.{bytes_decides, other_text, pointwise, same_text}
use Rattle.nextest_config_filters.specs.Front.{behind}
use Rattle.nextest_config_filters.proofs.Tests.{first_true, second_true}

-- the UTF-8 of a text's characters is the text
pub utf8_of_chars : (text : List ℕ) → IsUtf8 text → encode_utf8_all (chars text) ≡ text
utf8_of_chars = encodes-chars

-- ---- ASCII

are_ascii : (ts : List ℕ) → list_all is_ascii ts ≡ true → IsAscii ts
are_ascii [] all = IsAscii-nil
are_ascii (t ∷ ts) all =
    IsAscii-cons t ts (ltb-true t 128 (first_true (is_ascii t) (list_all is_ascii ts) all))
    (are_ascii ts (second_true (is_ascii t) (list_all is_ascii ts) all))

-- ASCII characters are the text of themselves
pub ascii_chars : (ts : List ℕ) → list_all is_ascii ts ≡ true → chars ts ≡ ts
ascii_chars ts all = chars-IsAscii ts (are_ascii ts all)

pub ascii_utf8 : (ts : List ℕ) → list_all is_ascii ts ≡ true → IsUtf8 ts
ascii_utf8 ts all = IsUtf8-from_ascii ts (are_ascii ts all)

-- ---- texts

-- no bytes are no characters
pub no_characters : (text : List ℕ) → nat_eq (length text) 0 ≡ true → chars text ≡ []
no_characters [] none = chars-nil
no_characters (b ∷ text) none = absurd (omega (arith, eqb-true (length (b ∷ text)) 0 none))

-- and some are some
pub some_characters : (text : List ℕ) → IsUtf8 text → nat_eq (length text) 0 ≡ false → chars text ≢ []
some_characters text u some none =
    let empty : text ≡ [] = sym (encodes-chars text u) ∙ ap encode_utf8_all none in
    let no : true ≡ false = subst (λ t. nat_eq (length t) 0 ≡ false) empty some in
    cc no

-- a text has the characters that it is the UTF-8 of
pub chars_of : (text cs : List ℕ) → IsUtf8 text → text ≡ encode_utf8_all cs → chars text ≡ cs
chars_of text cs u encoded = encodes_same (chars text) cs (encodes-chars text u ∙ encoded)

-- a text whose characters end in those of another ends in that
pub bytes_apart : (text rest front : List ℕ) → IsUtf8 text → IsUtf8 rest → chars text ≡ front ++ chars rest
    → text ≡ encode_utf8_all front ++ rest
bytes_apart text rest front u v whole =
    sym (encodes-chars text u) ∙ ap encode_utf8_all whole ∙ encodes-append front (chars rest)
    ∙ ap (λ r. encode_utf8_all front ++ r) (encodes-chars rest v)

-- ---- a text before a rest of it

module _ (text rest front : List ℕ) (u : IsUtf8 text) (v : IsUtf8 rest) (whole : chars text ≡ front ++ chars rest) where
  apart : text ≡ encode_utf8_all front ++ rest
  apart = bytes_apart text rest front u v whole

  lengths : length text ≡ length (encode_utf8_all front) + length rest
  lengths = ap length apart ∙ length-append (encode_utf8_all front) rest

  pub rest_fits : length rest ≤ length text
  rest_fits = omega (arith, lengths)

  place : length text - length rest ≡ length (encode_utf8_all front)
  place = omega (arith, lengths)

  pub cut_before : IsCharBoundary text (length text - length rest)
  cut_before = rw place (IsCharBoundary-at_seam text (encode_utf8_all front) rest apart v)

  pub taken_before : take (length text - length rest) text ≡ encode_utf8_all front
  taken_before = rw (place, apart) (take-append_seam (encode_utf8_all front) rest)

  pub chars_before : chars (take (length text - length rest) text) ≡ front
  chars_before = chars_of (take (length text - length rest) text) front
      (IsUtf8-take text (length text - length rest) u cut_before) taken_before

  pub left_before : drop (length text - length rest) text ≡ rest
  left_before = rw (place, apart) (drop-append_seam (encode_utf8_all front) rest)

-- ---- a text behind a front of it

module _ (text front : List ℕ) (cs : List ℕ) (u : IsUtf8 text) (v : IsUtf8 front) (whole : chars text ≡ chars front ++ cs) where
  pub joined : text ≡ front ++ encode_utf8_all cs
  joined = sym (encodes-chars text u) ∙ ap encode_utf8_all whole ∙ encodes-append (chars front) cs
      ∙ ap (λ f. f ++ encode_utf8_all cs) (encodes-chars front v)

  front_fits : length front ≤ length text
  front_fits = omega (arith, ap length joined ∙ length-append front (encode_utf8_all cs))

  front_taken : take (length front) text ≡ front
  front_taken = rw joined (take-append_seam front (encode_utf8_all cs))

  pub cut_behind : IsCharBoundary text (length front)
  cut_behind = IsCharBoundary-from_take text (length front) u front_fits (rw front_taken v)

  pub chars_taken : chars (take (length front) text) ≡ chars front
  chars_taken = ap chars front_taken

  pub chars_left : chars (drop (length front) text) ≡ drop (length (chars front)) (chars text)
  chars_left =
      chars_of (drop (length front) text) cs (IsUtf8-drop text (length front) u cut_behind)
      (rw joined (drop-append_seam front (encode_utf8_all cs)))
      ∙ sym (rw whole (drop-append_seam (chars front) cs))

-- ---- a text at the front

pub behind_front : (ts rest : List ℕ) → behind ts (ts ++ rest) ≡ Some rest
behind_front [] rest = refl
behind_front (t ∷ ts) rest = rw (eq-eqb t t refl) (behind_front ts rest)

pub behind_whole : (ts cs rest : List ℕ) → behind ts cs ≡ Some rest → cs ≡ ts ++ rest
behind_whole [] cs rest e = cc e
behind_whole (t ∷ ts) [] rest e = cc e
behind_whole (t ∷ ts) (c ∷ cs) rest e = elim (cases_Bool (t == c)) [
  | inl same ↦ let tail : cs ≡ ts ++ rest = behind_whole ts cs rest (rw same at e) in
      let first : t ≡ c = eqb-true t c same in
      cc (tail, first)
  | inr other ↦ let none : None ≡ Some rest = rw other at e in cc none
]

nothing_behind : (ts cs : List ℕ) (found : Option (List ℕ)) → behind ts cs ≡ found
    → ((rest : List ℕ) → cs ≢ ts ++ rest) → found ≡ None
nothing_behind ts cs None is none = refl
nothing_behind ts cs (Some rest) is none = absurd (none rest (behind_whole ts cs rest is))

-- what `strip_prefix` answers
pub stripped : (text front : List ℕ) (r : Option (Bor (List ℕ))) → IsUtf8 text → IsUtf8 front
    → MatchOption r (FindsTextPrefix front text None) (λ x. StripsPrefix (FindsTextPrefix front) text x.now)
    → MatchOption r (behind (chars front) (chars text) ≡ None) (λ x. behind (chars front) (chars text) ≡ Some (chars x.now))
stripped text front None u v lacks =
    nothing_behind (chars front) (chars text) (behind (chars front) (chars text)) refl
    (λ rest whole. lacks (encode_utf8_all rest) (joined text front rest u v whole))
stripped text front (Some x) u v (n, found, is_rest, fits) =
    let whole : text ≡ front ++ x.now = found.1 ∙ ap (λ rest. front ++ rest) (sym is_rest) in
    let apart : chars text ≡ chars front ++ chars x.now = ap chars whole ∙ chars-append front x.now v in
    rw apart (behind_front (chars front) (chars x.now))

-- two texts are told apart by bytes as by characters
pub same_characters : (a b : List ℕ) → IsUtf8 a → IsUtf8 b
    → pointwise nat_eq a b ≡ pointwise nat_eq (chars a) (chars b)
same_characters a b u v = elim (cases_Bool (pointwise nat_eq (chars a) (chars b))) [
  | inl same ↦
      (bytes_decides a b).1 (sym (encodes-chars a u) ∙ ap encode_utf8_all (same_text (chars a) (chars b) (sym same)) ∙ encodes-chars b v)
      ∙ sym same
  | inr other ↦ elim (cases_Bool (pointwise nat_eq a b)) [
    | inl same ↦ absurd (other_text (chars a) (chars b) (sym other) (ap chars (same_text a b (sym same))))
    | inr differs ↦ differs ∙ sym other
  ]
]
