-- What keys of inline tables stand after, as they are read.
use Rattle.std.proofs.Common.{◌≡◌, ◌⊎◌, ℕ, zero, suc, true, false, ◌==◌, List, [], ◌∷◌, ◌++◌, length, drop, Some, refl, sym, ap, subst, ◌∙◌, inl, inr, arith, eqb-true}
use Rattle.std.proofs.lemmas.Bool.{cases_Bool, false≢true}
use Rattle.std.proofs.lemmas.Bool.Decides.{nat_tests}
use Rattle.std.proofs.lemmas.Option.{none-some, same_Some}
use Rattle.std.specs.List.{AllByRecursion}
use Rattle.toml.proofs.Blanks.{skip_none, skip_start}
use Rattle.toml.specs.Parse.{after_byte, after_element}
use Rattle.toml_parser.specs.Lexical.{first, is_bare, skip_blank, skip_ws}
use Rattle.toml_parser.specs.Strings.{simple_key, starts_string}
use Rattle.toml_spans.specs.Entry.{Piece, piece}
use Rattle.toml_spans.specs.Key.{Part, Parts, parts_after}
use Rattle.toml_spans.specs.Value.{parts_equals}
use Rattle.toml_spans.proofs.Alone.Lexical.{blank_ws}
use Rattle.toml_spans.proofs.Found.{Found, found_any, found_map, found_none, found_same, found_some, found_test, found_then}
use Rattle.toml_spans.proofs.Elements.{all_joined}
use Rattle.toml_spans.proofs.Trees.Rests.{begins_with, rest_blank, rest_dropped, rest_on, rest_part, rest_ws}
use Rattle.toml_spans.proofs.Trees.Stands.{IsRest}

-- a brace, a comma or a dot
abbrev pub IsMark : ℕ → Type 0
IsMark mark = (mark ≡ 123) ⊎ ((mark ≡ 44) ⊎ (mark ≡ 46))

-- this rest of a text begins after one, and blanks
pub record StartsMarked (text start : List ℕ) : Type 0 where
  pub mark : ℕ
  pub behind : List ℕ
  pub from : IsRest text (mark ∷ behind)
  pub is_mark : IsMark mark
  pub begins : start ≡ skip_blank behind

-- a piece does
pub record IsMarked (text : List ℕ) (p : Piece) : Type 0 where
  pub start : List ℕ
  pub marked : StartsMarked text start
  pub begins : p.0 ≡ length start

-- ---- blanks

-- no white space is skipped where a key begins
key_start : (text : List ℕ) (r : List ℕ × List ℕ) → simple_key text ≡ Some r → skip_blank text ≡ text
unfolding simple_key
key_start text r is = elim (cases_Bool (starts_string text)) [
  | inl quoted ↦ skip_start text (grind (arith, nat_tests, quoted))
  | inr other ↦ elim (cases_Bool (is_bare (first text))) [
    | inl bare ↦ skip_start text (rw bare refl)
    | inr bad ↦ absurd (none-some r (rw (other, bad) at is))
  ]
]

module _ (text : List ℕ) where
  -- what is known where a key is read
  abbrev StartsKey : List ℕ → Type 0
  StartsKey start = (r : List ℕ × List ℕ) → simple_key start ≡ Some r → StartsMarked text start

  -- each part of a key that is read is marked where its first part is
  abbrev pub PartsMarked : Parts → Type 0
  PartsMarked parts = AllByRecursion (λ part. IsMarked text part.1) parts.0 × IsMarked text parts.1.1

  -- after a dot
  dot_starts : (rest : List ℕ) → IsRest text rest → (first rest == 46) ≡ true → StartsKey (skip_ws (drop 1 rest))
  dot_starts rest from dot r is = record {
    mark = 46;
    behind = drop 1 rest;
    from = subst (IsRest text) (begins_with 46 rest refl dot) from;
    is_mark = inr (inr refl);
    begins = sym (key_start (skip_ws (drop 1 rest)) r is) ∙ blank_ws (drop 1 rest);
  }

  parts_marked : (n : ℕ) (path : List Part) (start : List ℕ) → IsRest text start → AllByRecursion (λ part. IsMarked text part.1) path → StartsKey start → Found (parts_after n path start) (λ r. PartsMarked r.0)
  unfolding parts_after
  parts_marked zero path start from before starts = found_none
  parts_marked (suc n) path start from before starts =
      found_same _ (λ read is.
      let part : Part = (read.0, piece start read.1) in
      let marked : IsMarked text part.1 = record { start = start; marked = starts read is; begins = refl } in
      let rest = skip_ws read.1 in
      let rest_from : IsRest text rest = rest_on (rest_on from (rest_part start read.1 read.0 is)) (rest_ws read.1) in
      found_test (first rest == 46)
      (λ dot. parts_marked n (path ++ part ∷ []) (skip_ws (drop 1 rest)) (rest_on (rest_on rest_from (rest_dropped 1 rest)) (rest_ws (drop 1 rest))) (all_joined (λ p. IsMarked text p.1) path (part ∷ []) before (marked, tt))
      (dot_starts rest rest_from dot))
      (λ _. found_some _ (before, marked)))

  -- a key and `=`
  pub equals_marked : (start : List ℕ) → IsRest text start → StartsMarked text start → Found (parts_equals start) (λ r. PartsMarked r.0)
  unfolding parts_equals
  equals_marked start from marked = found_then _ (parts_marked 80 [] start from tt (λ r is. marked)) (λ k parts.
      found_map _ (found_any {o = after_byte 61 k.1} (λ rest is. is)) (λ rest _. parts))

  -- after a member, where there is another one
  pub after_marked : (t s : List ℕ) → IsRest text t → after_element 125 t ≡ Some s → (first (skip_blank s) == 125) ≡ false → StartsMarked text (skip_blank s)
  unfolding after_element
  after_marked t s from is more =
      let start = skip_blank t in
      let start_from : IsRest text start = rest_on from (rest_blank t) in
      elim (cases_Bool (first start == 44)) [
        | inl comma ↦
            let whole : start ≡ 44 ∷ drop 1 start = begins_with 44 start refl comma in
            let same : drop 1 start ≡ s = same_Some (drop 1 start) s (rw comma at is) in
            record { mark = 44; behind = s; from = subst (IsRest text) (whole ∙ ap (λ (u : List ℕ). 44 ∷ u) same) start_from; is_mark = inr (inl refl); begins = refl }
        | inr other ↦ elim (cases_Bool (first start == 125)) [
          | inl closes ↦
              let same : start ≡ s = same_Some start s (rw (other, closes) at is) in
              let here : first s ≡ 125 = ap first (sym same) ∙ eqb-true (first start) 125 closes in
              let unskipped : skip_blank s ≡ s = skip_none s 125 here refl in
              absurd (false≢true (sym more ∙ ap (λ (u : List ℕ). first u == 125) unskipped ∙ rw here refl))
          | inr bad ↦ absurd (none-some s (rw (other, bad) at is))
        ]
      ]
