-- The names of a list but for one.
use Rattle.std.proofs.Common.{◌≡◌, ◌≢◌, ◌⊎◌, ◌↔◌, ℕ, Bool, true, false, List, [], ◌∷◌, Contains, inl, inr, nat_eq, refl, subst, sym, ⊎_elim}
use Rattle.std.proofs.lemmas.Bool.{cases_Bool}
use Rattle.std.proofs.lemmas.List.Elements.{Contains-append_cases, Contains-append_left, Contains-append_right, Contains-push, Contains-push_cases}
use Rattle.std.proofs.lemmas.List.Kept.{IsStrictlySortedBy-filter}
use Rattle.std.specs.Cmp.Lexicographic.{bytes_decides, pointwise, same_text, slice_cmp}
use Rattle.std.specs.List.{filter}
use Rattle.std.specs.Ordering.{nat_cmp}
use Rattle.nextest_config.specs.NextestVersion.SetLaws.{contains_none}
use Rattle.nextest_config_lint.specs.Defined.{AreNamesOf, DefinesProfile, ListFile}
use Rattle.nextest_config_lint.specs.References.Profiles.{IsOtherProfile, is_other}

-- ---- elements of a list

first_cases : (y : List ℕ) (xs : List (List ℕ)) (x : List ℕ) → Contains (y ∷ xs) x → (y ≡ x) ⊎ Contains xs x
first_cases y xs x there =
    ⊎_elim (λ one. ⊎_elim (λ none. absurd (contains_none none)) (λ same. inl same) (Contains-push_cases [] y x one)) (λ later. inr later) (Contains-append_cases (y ∷ []) xs x there)

at_first : (y : List ℕ) (xs : List (List ℕ)) → Contains (y ∷ xs) y
at_first y xs = Contains-append_left (y ∷ []) xs y (Contains-push [] y)

further : (y : List ℕ) (xs : List (List ℕ)) (x : List ℕ) → Contains xs x → Contains (y ∷ xs) x
further y xs x there = Contains-append_right (y ∷ []) xs x there

-- ---- those that pass a test

in_filter : (p : List ℕ → Bool) (xs : List (List ℕ)) (x : List ℕ) → Contains (filter p xs) x → Contains xs x × (p x ≡ true)
in_filter p [] x there = absurd (contains_none there)
in_filter p (y ∷ xs) x there = elim (cases_Bool (p y)) [
  | inl so ↦ elim (first_cases y (filter p xs) x (rw so at there)) [
    | inl same ↦ (subst (Contains (y ∷ xs)) same (at_first y xs), subst (λ z. p z ≡ true) same so)
    | inr later ↦ let rest = in_filter p xs x later in (further y xs x rest.0, rest.1)
  ]
  | inr not_so ↦ let rest = in_filter p xs x (rw not_so at there) in (further y xs x rest.0, rest.1)
]

filter_has : (p : List ℕ → Bool) (xs : List (List ℕ)) (x : List ℕ) → p x ≡ true → Contains xs x → Contains (filter p xs) x
filter_has p [] x passes there = absurd (contains_none there)
filter_has p (y ∷ xs) x passes there = elim (cases_Bool (p y)) [
  | inl so ↦ rw so (elim (first_cases y xs x there) [
    | inl same ↦ subst (Contains (y ∷ filter p xs)) same (at_first y (filter p xs))
    | inr later ↦ further y (filter p xs) x (filter_has p xs x passes later)
  ])
  | inr not_so ↦ rw not_so (elim (first_cases y xs x there) [
    | inl same ↦ let both : p x ≡ false = subst (λ z. p z ≡ false) same not_so in cc (both, passes)
    | inr later ↦ filter_has p xs x passes later
  ])
]

-- ---- but for one

is_other_where : (left_out name : List ℕ) → (is_other left_out name ≡ true) ↔ (left_out ≢ name)
is_other_where left_out name = (
  λ other same. let is : pointwise nat_eq name left_out ≡ true = (bytes_decides name left_out).1 (sym same) in cc (is, other),
  λ differ. elim (cases_Bool (pointwise nat_eq name left_out)) [
    | inl so ↦ absurd (differ (sym (same_text name left_out (sym so))))
    | inr not_so ↦ rw not_so refl
  ],
)

pub others_are : (files : List ListFile) (profile : List ℕ) (names : List (List ℕ)) → AreNamesOf (DefinesProfile files) names
    → AreNamesOf (IsOtherProfile files profile) (filter (is_other profile) names)
others_are files profile names are = record {
  in_order = IsStrictlySortedBy-filter (slice_cmp nat_cmp) (is_other profile) names are.in_order;
  each = λ name. (
    λ there. let it = in_filter (is_other profile) names name there in ((are.each name).0 it.0, (is_other_where profile name).0 it.1),
    λ other. filter_has (is_other profile) names name ((is_other_where profile name).1 other.1) ((are.each name).1 other.0),
  );
}
