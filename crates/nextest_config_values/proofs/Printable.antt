-- Characters that are shown as they are, and that what is shown is printable.
use Rattle.std.proofs.Common.{◌≡◌, ℕ, ◌<◌, ◌≤◌, ◌+◌, ◌/◌, ◌%◌, ◌==◌, ◌&&◌, ◌||◌, nat_le, nat_lt, zero, suc, Bool, true, false, cond, List, [], ◌∷◌, ◌++◌, codes, flat_map, ap, arith, refl, subst, sym, rules}
use Rattle.std.proofs.lemmas.Bool.Decides.{nat_tests}
use Rattle.std.proofs.lemmas.List.{append-nil}
use Rattle.std.proofs.lemmas.List.Concat.{flat_map-append}
use Rattle.std.proofs.lemmas.Str.{chars-IsAscii, encode_ascii}
use Rattle.std.specs.Char.{digit_char}
use Rattle.std.specs.Char.Escape.{escape_unicode}
use Rattle.std.specs.List.{AllByRecursion, list_all, slice_index}
use Rattle.std.specs.Prelude.{chars, encode_utf8, None, Option, Some, unwrap_or}
use Rattle.nextest_config_values.specs.Literal.Shown.{character_in, IsPrintable, IsPrintableCharacter, is_plain, is_printable, is_unprintable, shown_character, shown_in, shown_lines, shown_text}
use Rattle.nextest_config_values.specs.declared.literal.shown.LineFeeds.TheVariants.{Kept}
use Rattle.toml_spans.specs.QuotedText.{by_code}
use Rattle.toml_spans.proofs.Elements.{all_joined}

or_true : (b : Bool) → (b || true) ≡ true
or_true b = search rules

-- ---- printable characters of ASCII

pub both_are : (a b : Bool) → (a && b) ≡ true → (a ≡ true) × (b ≡ true)
both_are a b is = search rules

pub bounds : (c : ℕ) → is_printable c ≡ true → (32 ≤ c) × (c ≤ 126)
bounds c is = let both = both_are (nat_le 32 c) (nat_le c 126) is in (grind (arith, nat_tests), grind (arith, nat_tests))

other_than : (n c : ℕ) → n < 32 → 32 ≤ c → (c == n) ≡ false
other_than n c below low = grind (arith, nat_tests)

is_shown : (c : ℕ) → 32 ≤ c → c ≤ 126 → is_unprintable c ≡ false
is_shown c low high = search rules

pub shown_itself : (c : ℕ) → is_printable c ≡ true → shown_character c ≡ c ∷ []
shown_itself c is =
    let (low, high) = bounds c is in
    rw (other_than 9 c (search arith) low, other_than 10 c (search arith) low, other_than 13 c (search arith) low, other_than 0 c (search arith) low, is_shown c low high)
    (encode_ascii c (omega (arith, high)))

printable : (c : ℕ) → 32 ≤ c → c ≤ 126 → IsPrintableCharacter c
printable c low high = rw (other_than 10 c (search arith) low, is_shown c low high) refl

-- ---- texts that are shown as they are

ten : (c : ℕ) → (c == 10) ≡ true → c ≡ 10
ten c is = grind (arith, nat_tests)

plain_by : (c : ℕ) (line_feed : Bool) → (c == 10) ≡ line_feed → (line_feed || is_printable c) ≡ true → (cond line_feed (codes "\n") (shown_character c) ≡ c ∷ []) × (c < 128)
plain_by c true is plain = let here = ten c is in (ap (λ x. x ∷ []) (sym here), omega (arith, here))
plain_by c false is plain = let (low, high) = bounds c plain in (shown_itself c plain, omega (arith, high))

-- a text of ASCII whose characters stay as they are
module _ (shown : ℕ → List ℕ) (stays : ℕ → Bool) (each : (c : ℕ) → stays c ≡ true → (shown c ≡ c ∷ []) × (c < 128)) where
  all_stay : (cs : List ℕ) → list_all stays cs ≡ true → flat_map shown cs ≡ cs
  all_stay [] is = refl
  all_stay (c ∷ cs) is =
      let (one, rest) = both_are (stays c) (list_all stays cs) is in
      rw ((each c one).0) (ap (λ more. c ∷ more) (all_stay cs rest))

  all_ascii : (cs : List ℕ) → list_all stays cs ≡ true → (i : ℕ) → slice_index cs i < 128
  all_ascii [] is i = omega arith
  all_ascii (c ∷ cs) is zero = (each c (both_are (stays c) (list_all stays cs) is).0).1
  all_ascii (c ∷ cs) is (suc i) = all_ascii cs (both_are (stays c) (list_all stays cs) is).1 i

  pub ascii_chars : (text : List ℕ) → list_all stays text ≡ true → chars text ≡ text
  ascii_chars text is = chars-IsAscii text (all_ascii text is)

  pub text_stays : (text : List ℕ) → list_all stays text ≡ true → flat_map shown (chars text) ≡ text
  text_stays text is = rw (ascii_chars text is) (all_stay text is)

pub plain_lines : (text : List ℕ) → list_all is_plain text ≡ true → text ≡ shown_lines text
unfolding shown_in
plain_lines text is = sym (text_stays (character_in Kept) is_plain (λ c plain. plain_by c (c == 10) refl plain) text is)

-- ---- what is shown is printable

digit : (d : ℕ) (below : Bool) → nat_lt d 10 ≡ below → d < 16 → IsPrintableCharacter (cond below (48 + d) (87 + d))
digit d below is within = search rules

hexadecimal : (m : ℕ) → IsPrintableCharacter (digit_char (m % 16))
hexadecimal m = digit (m % 16) (nat_lt (m % 16) 10) refl (omega arith)

either : (b : Bool) (xs ys : List ℕ) → AllByRecursion IsPrintableCharacter xs → AllByRecursion IsPrintableCharacter ys → AllByRecursion IsPrintableCharacter (cond b xs ys)
either b xs ys x y = search rules

escaped : (c : ℕ) → AllByRecursion IsPrintableCharacter (escape_unicode c)
escaped c =
    either (nat_lt c 0x10) _ _ (refl, (refl, (refl, (hexadecimal (c / 0x1), (refl, tt)))))
    (either (nat_lt c 0x100) _ _ (refl, (refl, (refl, (hexadecimal (c / 0x10), (hexadecimal (c / 0x1), (refl, tt))))))
    (either (nat_lt c 0x1000) _ _ (refl, (refl, (refl, (hexadecimal (c / 0x100), (hexadecimal (c / 0x10), (hexadecimal (c / 0x1), (refl, tt)))))))
    (either (nat_lt c 0x1_0000) _ _ (refl, (refl, (refl, (hexadecimal (c / 0x1000), (hexadecimal (c / 0x100), (hexadecimal (c / 0x10), (hexadecimal (c / 0x1), (refl, tt))))))))
    (either (nat_lt c 0x10_0000) _ _ (refl, (refl, (refl, (hexadecimal (c / 0x1_0000), (hexadecimal (c / 0x1000), (hexadecimal (c / 0x100), (hexadecimal (c / 0x10), (hexadecimal (c / 0x1), (refl, tt)))))))))
    (refl, (refl, (refl, (hexadecimal (c / 0x10_0000), (hexadecimal (c / 0x1_0000), (hexadecimal (c / 0x1000), (hexadecimal (c / 0x100), (hexadecimal (c / 0x10), (hexadecimal (c / 0x1), (refl, tt))))))))))))))

ascii : (bytes : List ℕ) → flat_map encode_utf8 bytes ≡ bytes → AllByRecursion IsPrintableCharacter bytes → IsPrintable bytes
ascii bytes written all = record { characters = bytes; written = sym written; printable = all }

chosen : (b : Bool) (xs ys : List ℕ) → IsPrintable xs → IsPrintable ys → IsPrintable (cond b xs ys)
chosen b xs ys x y = search rules

coded : (c : ℕ) → IsPrintable (by_code c)
unfolding lib.Utf8.encode
coded c = chosen (c == 0) _ _ (ascii (codes "\\0") refl (refl, (refl, tt))) (record { characters = escape_unicode c; written = refl; printable = escaped c })

unless_hidden : (c : ℕ) (hidden : Bool) → is_unprintable c ≡ hidden → IsPrintable (cond hidden (by_code c) (encode_utf8 c))
unless_hidden c true is = coded c
unless_hidden c false is = record { characters = c ∷ []; written = sym (append-nil _); printable = (rw is (or_true (c == 10)), tt) }

-- an escape, where there is one
or_else : (b : Bool) (escape : List ℕ) (escapes : Option (List ℕ)) (other : List ℕ) → IsPrintable escape → IsPrintable (unwrap_or escapes other) → IsPrintable (unwrap_or (cond b (Some escape) escapes) other)
or_else b escape escapes other one rest = search rules

character : (c : ℕ) → IsPrintable (shown_character c)
unfolding lib.Utf8.encode
character c =
    or_else (c == 10) _ _ _ (ascii (codes "\\n") refl (refl, (refl, tt)))
    (or_else (c == 13) _ _ _ (ascii (codes "\\r") refl (refl, (refl, tt)))
    (or_else (c == 9) _ None _ (ascii (codes "\\t") refl (refl, (refl, tt))) (unless_hidden c (is_unprintable c) refl)))

in_lines : (c : ℕ) → IsPrintable (character_in Kept c)
unfolding lib.Utf8.encode
in_lines c = chosen (c == 10) _ _ (ascii (codes "\n") refl (refl, tt)) (character c)

pub printable_joined : (xs ys : List ℕ) → IsPrintable xs → IsPrintable ys → IsPrintable (xs ++ ys)
printable_joined xs ys x y = record {
  characters = x.characters ++ y.characters;
  written = rw (x.written, y.written) (sym (flat_map-append encode_utf8 x.characters y.characters));
  printable = all_joined IsPrintableCharacter x.characters y.characters x.printable y.printable;
}

all_in_lines : (cs : List ℕ) → IsPrintable (flat_map (character_in Kept) cs)
all_in_lines [] = ascii [] refl tt
all_in_lines (c ∷ cs) = printable_joined (character_in Kept c) (flat_map (character_in Kept) cs) (in_lines c) (all_in_lines cs)

pub printable_lines : (text : List ℕ) → IsPrintable (shown_lines text)
unfolding shown_in
printable_lines text = all_in_lines (chars text)

all_in_line : (cs : List ℕ) → IsPrintable (flat_map shown_character cs)
all_in_line [] = ascii [] refl tt
all_in_line (c ∷ cs) = printable_joined (shown_character c) (flat_map shown_character cs) (character c) (all_in_line cs)

pub printable_text : (text : List ℕ) → IsPrintable (shown_text text)
unfolding shown_in
printable_text text = all_in_line (chars text)

pub printable_plain : (text : List ℕ) → list_all is_plain text ≡ true → IsPrintable text
printable_plain text plain = subst IsPrintable (sym (plain_lines text plain)) (printable_lines text)
