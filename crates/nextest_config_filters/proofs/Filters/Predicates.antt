-- Names of predicates, and words that are joined.
use Rattle.std.proofs.Common.{◌≡◌, ℕ, Bor, true, List, [], ◌∷◌, Option, Some, None, nat_eq, refl, ap, ◌∙◌, inl, inr, arith, eqb-true, rules}
use Rattle.std.specs.Prelude.{◌==◌, codes, MatchOption}
use Rattle.std.proofs.lemmas.Bool.{cases_Bool}
use Rattle.std.specs.Char.{is_ascii}
use Rattle.std.specs.List.{list_all}
use Rattle.std.specs.Str.{chars, IsUtf8}
use Rattle.std.specs.Cmp.Lexicographic.{pointwise}
use Rattle.nextest_config_values.specs.Read.{value_of}
use Rattle.nextest_config_filters.specs.Filter.Predicate.{behind_nots, name_of}
use Rattle.nextest_config_filters.specs.Front.{behind}
use Rattle.nextest_config_filters.specs.Pieces.{IsBehindPiece}
use Rattle.nextest_config_filters.specs.declared.filter.predicate.Predicate.{Predicate}
use Rattle.nextest_config_filters.proofs.Characters.{ascii_chars, ascii_utf8, behind_whole, same_characters}

plain_name : (predicate : Predicate) → list_all is_ascii (name_of predicate) ≡ true
plain_name predicate = search rules

same_name : (predicate : Predicate) (name : List ℕ) → IsUtf8 name
    → pointwise nat_eq (name_of predicate) name ≡ pointwise nat_eq (name_of predicate) (chars name)
same_name predicate name u =
    let plain = plain_name predicate in
    same_characters (name_of predicate) name (ascii_utf8 (name_of predicate) plain) u
    ∙ ap (λ own. pointwise nat_eq own (chars name)) (ascii_chars (name_of predicate) plain)

-- a name is sought by bytes as by characters
pub by_characters : (all : List Predicate) (name : List ℕ) → IsUtf8 name
    → value_of name_of all name ≡ value_of name_of all (chars name)
by_characters [] name u = refl
by_characters (first ∷ all) name u =
    let same = same_name first name u in
    elim (cases_Bool (pointwise nat_eq (name_of first) (chars name))) [
      | inl found ↦ rw (same, found) refl
      | inr other ↦ rw (same, other) (by_characters all name u)
    ]

-- ---- `not`s at the front

behind_none : (cs : List ℕ) → behind (codes "not") cs ≡ None → behind_nots cs ≡ cs
behind_none [] none = refl
behind_none (a ∷ []) none = refl
behind_none (a ∷ b ∷ []) none = refl
behind_none (a ∷ b ∷ c ∷ cs) none = elim (cases_Bool (a == 110)) [
  | inr other ↦ rw other refl
  | inl is_n ↦ elim (cases_Bool (b == 111)) [
    | inr other ↦ rw (is_n, other) refl
    | inl is_o ↦ elim (cases_Bool (c == 116)) [
      | inr other ↦ rw (is_n, is_o, other) refl
      | inl is_t ↦
          let found : Some cs ≡ None = rw (eqb-true a 110 is_n, eqb-true b 111 is_o, eqb-true c 116 is_t) at none in
          cc found
    ]
  ]
]

not_front : (cs rest : List ℕ) → behind (codes "not") cs ≡ Some rest → IsBehindPiece behind_nots cs rest
not_front cs rest is =
    rw (behind_whole (codes "not") cs rest is) (record { shorter = omega arith; same_end = refl })

pub not_piece : (cs : List ℕ) (found : Option (Bor (List ℕ)))
    → MatchOption found (behind (codes "not") cs ≡ None) (λ rest. behind (codes "not") cs ≡ Some (chars rest.now))
    → MatchOption found (behind_nots cs ≡ cs) (λ rest. IsBehindPiece behind_nots cs (chars rest.now))
not_piece cs None is = behind_none cs is
not_piece cs (Some rest) is = not_front cs (chars rest.now) is
