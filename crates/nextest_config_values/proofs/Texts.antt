-- Texts by their bytes and by their characters: what they begin with, and their cut at the first colon.
use Rattle.std.proofs.Common.{◌≡◌, ◌≢◌, ℕ, ◌+◌, ◌<◌, Bool, true, List, [], ◌∷◌, ◌++◌, length, drop, get_or, codes, Option, Some, None, refl, sym, ap, ◌∙◌, subst, arith, lit<, rules}
use Rattle.std.specs.Prelude.{MatchOption, MatchBool, IsUtf8, chars, encode_utf8, encode_utf8_all}
use Rattle.std.specs.Borrow.{Bor}
use Rattle.std.specs.List.{AllByRecursion}
use Rattle.std.specs.Str.{NonePass, all_scalars as scalars}
use Rattle.std.specs.Str.Pattern.{FindsTextPrefix, HasPrefixMatch}
use Rattle.std.proofs.Math.Seq.{drop-append_seam, get_or-append_seam, take-append_seam}
use Rattle.std.proofs.Math.Dec.{eqb}
use Rattle.std.proofs.lemmas.Bool.{ne_eqb}
use Rattle.std.proofs.lemmas.List.{length-append}
use Rattle.std.proofs.lemmas.List.Elements.{All-from_get_or, recursion_from_All}
use Rattle.std.proofs.lemmas.Str.{IsCharBoundary-before_ascii, IsUtf8-drop, IsUtf8-past_char, IsUtf8-take, chars-append, chars-encodes, chars_past_char, encode_ascii, encodes-append, encodes-chars}
use Rattle.std.proofs.lemmas.Str.Pattern.{IsSplitOnceResult, NoCharPasses-char, split_parts}
use Rattle.toml_spans.proofs.Elements.{all_left, all_right}
use Rattle.nextest_config_values.specs.Identifier.{HasNoColon, IsCutAtColon, tool_mark}

-- ---- what a text begins with

-- the clause of `strip_prefix` at a text
pub strip_text : (p s : List ℕ) (r : Option (Bor (List ℕ)))
    → MatchOption r (FindsTextPrefix p s None) (λ x. (n : ℕ) × FindsTextPrefix p s (Some n) × (x.now ≡ drop n s) × (length x.now + n ≡ length s))
    → MatchOption r ((rest : List ℕ) → s ≢ p ++ rest) (λ x. (s ≡ p ++ x.now) × (IsUtf8 s → IsUtf8 x.now))
strip_text p s None h = λ rest e. h rest e
strip_text p s (Some x) h = (rw h.2 h.1.1, λ u. rw (h.2, h.1.0) (IsUtf8-drop s (length p) u h.1.2))

-- the clause of `starts_with` at a text
pub starts_text_or_not : (p s : List ℕ) (r : Bool) → MatchBool r (HasPrefixMatch (FindsTextPrefix p) s) (FindsTextPrefix p s None)
    → MatchBool r ((rest : List ℕ) × (s ≡ p ++ rest)) ((rest : List ℕ) → s ≢ p ++ rest)
starts_text_or_not p s r h = search rules

-- a text that its bytes and its characters write alike
pub record IsPlainText (p : List ℕ) : Type 0 where
  pub utf8 : IsUtf8 p
  pub decoded : chars p ≡ p
  pub encoded : encode_utf8_all p ≡ p

-- the characters after such a text
pub chars_after : (p text rest : List ℕ) → IsPlainText p → text ≡ p ++ rest → chars text ≡ p ++ chars rest
chars_after p text rest h e = ap chars e ∙ chars-append p rest h.utf8 ∙ ap (λ q. q ++ chars rest) h.decoded

-- where a text doesn't begin with such a text, nor do its characters
pub not_after : (p s : List ℕ) → IsPlainText p → IsUtf8 s → ((rest : List ℕ) → s ≢ p ++ rest) → (cs : List ℕ) → chars s ≢ p ++ cs
not_after p s h u none cs e = none _ (sym (encodes-chars s u) ∙ ap encode_utf8_all e ∙ encodes-append p cs ∙ ap (λ q. q ++ encode_utf8_all cs) h.encoded)

pub ascii_encoded : (p : List ℕ) → AllByRecursion (λ b. b < 128) p → encode_utf8_all p ≡ p
ascii_encoded [] h = refl
ascii_encoded (b ∷ p) h = ap (λ front. front ++ encode_utf8_all p) (encode_ascii b h.0) ∙ ap (λ rest. b ∷ rest) (ascii_encoded p h.1)

ascii_plain : (p : List ℕ) → AllByRecursion (λ b. b < 128) p → scalars p ≡ true → IsPlainText p
ascii_plain p h s =
    let encoded = ascii_encoded p h in
    record { utf8 = (p, (s, encoded)); decoded = ap chars (sym encoded) ∙ chars-encodes p s; encoded = encoded }

pub mark_plain : IsPlainText tool_mark
mark_plain = ascii_plain tool_mark (lit< tt, (lit< tt, (lit< tt, (lit< tt, (lit< tt, (lit< tt, tt)))))) refl

pub tool_plain : IsPlainText (codes "@tool")
tool_plain = ascii_plain (codes "@tool") (lit< tt, (lit< tt, (lit< tt, (lit< tt, (lit< tt, tt))))) refl

-- ---- colons

-- no byte is a colon, said of each place and by recursion
pub no_colon_by_recursion : (bs : List ℕ) → ((i : ℕ) → i < length bs → get_or bs i 0 ≢ 58) → HasNoColon bs
no_colon_by_recursion bs h = recursion_from_All (λ b. b ≢ 58) bs (All-from_get_or (λ b. b ≢ 58) bs 0 h)

no_colon_decoded : (cs : List ℕ) → HasNoColon (encode_utf8_all cs) → HasNoColon cs
no_colon_decoded [] h = tt
no_colon_decoded (c ∷ cs) h = (
  λ e. (subst HasNoColon (ap encode_utf8 e ∙ encode_ascii 58 (lit< tt)) (all_left (λ b. b ≢ 58) (encode_utf8 c) (encode_utf8_all cs) h)).0 refl,
  no_colon_decoded cs (all_right (λ b. b ≢ 58) (encode_utf8 c) (encode_utf8_all cs) h),
)

pub no_colon_chars : (bs : List ℕ) → IsUtf8 bs → HasNoColon bs → HasNoColon (chars bs)
no_colon_chars bs u h = no_colon_decoded (chars bs) (subst HasNoColon (sym (encodes-chars bs u)) h)

none_pass : (cs : List ℕ) → HasNoColon cs → NonePass (λ c. eqb c 58) cs
none_pass [] h = tt
none_pass (c ∷ cs) h = (ne_eqb c 58 h.0, none_pass cs h.1)

pub no_colon_bytes : (bs : List ℕ) → IsUtf8 bs → HasNoColon (chars bs) → HasNoColon bs
no_colon_bytes bs u h =
    no_colon_by_recursion bs (λ i within. NoCharPasses-char 58 bs i (chars bs, encodes-chars bs u, none_pass (chars bs) h) (lit< tt) within)

-- ---- the cut at the first colon

-- a text that is cut at its first colon, by its bytes and by its characters
pub record IsTextCut (text before after : List ℕ) : Type 0 where
  pub bytes : IsCutAtColon text before after
  pub characters : IsCutAtColon (chars text) (chars before) (chars after)
  pub after_utf8 : IsUtf8 after

text_cut : (before after : List ℕ) → IsUtf8 (before ++ (58 ∷ after)) → HasNoColon before → IsTextCut (before ++ (58 ∷ after)) before after
text_cut before after u none =
    let text = before ++ (58 ∷ after) in
    let within : length before < length text = omega (arith, length-append before (58 ∷ after)) in
    let start = IsCharBoundary-before_ascii text (length before) within (rw (get_or-append_seam before 58 after 0) (lit< tt)) in
    let front : IsUtf8 before = subst IsUtf8 (take-append_seam before (58 ∷ after)) (IsUtf8-take text (length before) u start) in
    let back : IsUtf8 (58 ∷ after) = subst IsUtf8 (drop-append_seam before (58 ∷ after)) (IsUtf8-drop text (length before) u start) in
    let colon : 58 ∷ after ≡ encode_utf8 58 ++ after = ap (λ mark. mark ++ after) (sym (encode_ascii 58 (lit< tt))) in
    let behind : chars (58 ∷ after) ≡ 58 ∷ chars after = chars_past_char (58 ∷ after) after 58 back colon in
    record {
      bytes = record { cut = refl; first = none };
      characters = record { cut = chars-append before (58 ∷ after) front ∙ ap (λ cs. chars before ++ cs) behind; first = no_colon_chars before front none };
      after_utf8 = IsUtf8-past_char (58 ∷ after) after 58 back colon;
    }

-- the clause of `split_once` at a colon
pub split_colon : (text : List ℕ) (r : Option (Bor (List ℕ) × Bor (List ℕ))) → IsUtf8 text → IsSplitOnceResult 58 text r
    → MatchOption r (HasNoColon text) (λ x. IsTextCut text x.0.now x.1.now)
split_colon text None u h = no_colon_by_recursion text (split_parts 58 text None h (lit< tt))
split_colon text (Some x) u h =
    let parts = split_parts 58 text (Some x) h (lit< tt) in
    rw parts.0 (text_cut x.0.now x.1.now (subst IsUtf8 parts.0 u) (no_colon_by_recursion x.0.now parts.1))
