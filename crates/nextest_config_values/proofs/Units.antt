-- The search of a table of names, by bytes and by characters.
use Rattle.std.proofs.Common.{◌≡◌, ◌≢◌, ℕ, length, rules, Bool, true, false, not, List, [], ◌∷◌, map, nat_eq, Some, None, slice_get, refl, sym, ap, ◌∙◌, inl, inr}
use Rattle.std.specs.Prelude.{chars, encode_utf8_all}
use Rattle.std.proofs.lemmas.Bool.{cases_Bool}
use Rattle.std.proofs.lemmas.Str.{chars-encodes, encodes-chars}
use Rattle.std.specs.Cmp.Lexicographic.{bytes_decides, other_text, pointwise, same_text}
use Rattle.std.specs.List.{AllByRecursion, filter}
use Rattle.std.specs.Str.{IsUtf8, all_scalars as scalars}
use Rattle.nextest_config_values.specs.Duration.{length_in}

-- the table by bytes
abbrev pub encoded : List (List ℕ × ℕ) → List (List ℕ × ℕ)
encoded = map (λ row. (encode_utf8_all row.0, row.1))

same_test : (cs word : List ℕ) → IsUtf8 word → scalars cs ≡ true → pointwise nat_eq (encode_utf8_all cs) word ≡ pointwise nat_eq cs (chars word)
same_test cs word u s = elim (cases_Bool (pointwise nat_eq cs (chars word))) [
  | inl same ↦ (bytes_decides (encode_utf8_all cs) word).1 (ap encode_utf8_all (same_text cs (chars word) (sym same)) ∙ encodes-chars word u) ∙ sym same
  | inr other ↦ elim (cases_Bool (pointwise nat_eq (encode_utf8_all cs) word)) [
    | inl same ↦ absurd (other_text cs (chars word) (sym other) (sym (chars-encodes cs s) ∙ ap chars (same_text (encode_utf8_all cs) word (sym same))))
    | inr differs ↦ differs ∙ sym other
  ]
]

pub by_bytes : (table : List (List ℕ × ℕ)) (word : List ℕ) → IsUtf8 word → AllByRecursion (λ row. scalars row.0 ≡ true) table → length_in (encoded table) word ≡ length_in table (chars word)
by_bytes [] word u s = refl
by_bytes (row ∷ table) word u s = elim (cases_Bool (pointwise nat_eq row.0 (chars word))) [
  | inl same ↦ rw (same_test row.0 word u s.0, same) refl
  | inr other ↦ rw (same_test row.0 word u s.0, other) (by_bytes table word u s.1)
]

-- a word is sought among the rows that it may stand in
by_rows : (may : List ℕ → Bool) (table : List (List ℕ × ℕ)) (word : List ℕ) → may word ≡ true → length_in (filter (λ row. may row.0) table) word ≡ length_in table word
by_rows may [] word allowed = refl
by_rows may (row ∷ table) word allowed = elim (cases_Bool (may row.0)) [
  | inl kept ↦ rw kept (elim (cases_Bool (pointwise nat_eq row.0 word)) [
    | inl same ↦ rw same refl
    | inr other ↦ rw other (by_rows may table word allowed)
  ])
  | inr left ↦ elim (cases_Bool (pointwise nat_eq row.0 word)) [
    | inl same ↦ absurd (cc (sym left, allowed, ap may (same_text row.0 word (sym same))))
    | inr other ↦ rw (left, other) (by_rows may table word allowed)
  ]
]

-- the rows of words that aren't of one byte
abbrev pub others : List (List ℕ × ℕ) → List (List ℕ × ℕ)
others = filter (λ row. not (nat_eq (length row.0) 1))

-- the first byte is of this kind
abbrev pub first_is : (ℕ → Bool) → List ℕ → Bool
first_is kind [] = false
first_is kind (b ∷ word) = kind b

module _ (kind : ℕ → Bool) (table : List (List ℕ × ℕ)) where
  -- a word is sought among the rows that begin as it does
  pub by_first : (word : List ℕ) (b : ℕ) → Some b ≡ slice_get word 0 → kind b ≡ true → length_in (filter (λ row. first_is kind row.0) table) word ≡ length_in table word
  by_first [] b e is = absurd (cc e)
  by_first (c ∷ word) b e is = by_rows (first_is kind) table (c ∷ word) (ap kind (cc e) ∙ is)

  -- a word that is empty or begins otherwise stands in no row, where all rows begin so
  pub by_no_first : (word : List ℕ) → ((b : ℕ) → Some b ≡ slice_get word 0 → kind b ≡ false) → filter (λ row. not (first_is kind row.0)) table ≡ [] → None ≡ length_in table word
  by_no_first word other none = ap (λ rows. length_in rows word) (sym none) ∙ by_rows (λ name. not (first_is kind name)) table word (begins word other)
    where
      begins : (word : List ℕ) → ((b : ℕ) → Some b ≡ slice_get word 0 → kind b ≡ false) → not (first_is kind word) ≡ true
      begins word other = search rules

module _ (table : List (List ℕ × ℕ)) (word : List ℕ) where
  -- a word of one byte is sought among those
  pub by_one : length word ≡ 1 → length_in (filter (λ row. nat_eq (length row.0) 1) table) word ≡ length_in table word
  by_one one = by_rows (λ name. nat_eq (length name) 1) table word (search rules)

  -- and any other among the others
  pub by_others : length word ≢ 1 → length_in (others table) word ≡ length_in table word
  by_others other = by_rows (λ name. not (nat_eq (length name) 1)) table word (search rules)
