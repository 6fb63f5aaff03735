-- The names of a set, nextest's own first.
use Rattle.std.proofs.Common.{◌≡◌, ◌↔◌, ◌∙◌, ℕ, Bool, true, false, not, List, [], ◌∷◌, ◌++◌, ap, append_assoc, append-nil, Bor, inl, inr, map, None, refl, sym, ⊎_elim}
use Rattle.std.proofs.lemmas.Bool.{cases_Bool, false≢true}
use Rattle.std.proofs.lemmas.List.{map-append}
use Rattle.std.proofs.lemmas.List.Elements.{filter-append}
use Rattle.std.proofs.lemmas.List.Kept.{IsStrictlySortedBy-filter}
use Rattle.std.proofs.lemmas.Slice.Eq.{bytes_eq-Decides}
use Rattle.std.specs.Cmp.Lexicographic.{pointwise, slice_cmp}
use Rattle.std.specs.List.{AllByRecursion, filter}
use Rattle.std.specs.List.Sorted.{IsStrictlySortedBy}
use Rattle.std.specs.Ordering.{nat_cmp}
use Rattle.std.specs.Prelude.{◌||◌, ◌⊎◌, nat_eq}
use Rattle.nextest_config.proofs.Members.{seen_in_order}
use Rattle.nextest_config_profiles.specs.Merged.{Layers}
use Rattle.nextest_config_profiles.specs.NameList.{AreInOrder, AreNamesOf, is_own, IsOther}
use Rattle.nextest_config_profiles.specs.Profiles.{default_miri, default_profile, HasName, IsProfile, SomeOf}
use Rattle.nextest_config_profiles.specs.Reach.{words_of}
use Rattle.nextest_config_profiles.proofs.Names.{mapped_some, names_cmp, some_mapped}

-- nextest's own names, and those of others
abbrev pub own_names : List (List ℕ)
own_names = default_profile ∷ default_miri ∷ []

abbrev pub is_other : List ℕ → Bool
is_other name = not (is_own name)

-- ---- one name more

abbrev pub lent_text : Bor (Bor (List ℕ)) → List ℕ
lent_text name = name.now.now

module _ (front : List (List ℕ)) (p : List ℕ → Bool) (xs : List (Bor (Bor (List ℕ)))) (x : Bor (Bor (List ℕ))) where
  pub kept : (words more : List (List ℕ)) → words ≡ front ++ filter p (map lent_text xs) → p (lent_text x) ≡ true
      → more ≡ words ++ (lent_text x ∷ []) → more ≡ front ++ filter p (map lent_text (xs ++ (x ∷ [])))
  kept words more is so pushed =
      rw (map-append lent_text xs (x ∷ []), filter-append p (map lent_text xs) (lent_text x ∷ []), so)
      (pushed ∙ ap (λ words. words ++ (lent_text x ∷ [])) is ∙ append_assoc front (filter p (map lent_text xs)) (lent_text x ∷ []))

  pub dropped : (words : List (List ℕ)) → words ≡ front ++ filter p (map lent_text xs) → p (lent_text x) ≡ false
      → words ≡ front ++ filter p (map lent_text (xs ++ (x ∷ [])))
  dropped words is so =
      rw (map-append lent_text xs (x ∷ []), filter-append p (map lent_text xs) (lent_text x ∷ []), so, append-nil (filter p (map lent_text xs))) is

-- ---- all names

same_text : (a b : List ℕ) → pointwise nat_eq a b ≡ true → a ≡ b
same_text a b same = (bytes_eq-Decides a b).0 same

is_same : (a b : List ℕ) → a ≡ b → pointwise nat_eq a b ≡ true
is_same a b same = (bytes_eq-Decides a b).1 same

-- a name is nextest's own by which it is
own_by : (name : List ℕ) (default miri : Bool) → pointwise nat_eq name default_profile ≡ default → pointwise nat_eq name default_miri ≡ miri
    → default || miri ≡ true → (name ≡ default_profile) ⊎ (name ≡ default_miri)
own_by name true miri is_default is_miri own = inl (same_text name default_profile is_default)
own_by name false true is_default is_miri own = inr (same_text name default_miri is_miri)
own_by name false false is_default is_miri own = absurd (false≢true own)

own_is : (name : List ℕ) → is_own name ≡ true → (name ≡ default_profile) ⊎ (name ≡ default_miri)
own_is name own = own_by name _ _ refl refl own

other_by : (name : List ℕ) (default miri : Bool) → pointwise nat_eq name default_profile ≡ default → pointwise nat_eq name default_miri ≡ miri
    → default || miri ≡ false → IsOther name
other_by name true miri is_default is_miri other = absurd (false≢true (sym other))
other_by name false true is_default is_miri other = absurd (false≢true (sym other))
other_by name false false is_default is_miri other =
    (λ same. false≢true (sym is_default ∙ is_same name default_profile same), λ same. false≢true (sym is_miri ∙ is_same name default_miri same))

other_is : (name : List ℕ) → is_own name ≡ false → IsOther name
other_is name other = other_by name _ _ refl refl other

some_filtered : {A : Type 0} (P : A → Type 0) (p : A → Bool) (xs : List A) → SomeOf P (filter p xs) → SomeOf P xs
some_filtered P p [] h = h
some_filtered P p (x ∷ xs) h = elim (cases_Bool (p x)) [
  | inl passes ↦ ⊎_elim inl (λ some. inr (some_filtered P p xs some)) (rw passes at h)
  | inr fails ↦ inr (some_filtered P p xs (rw fails at h))
]

filtered_some : {A : Type 0} (P : A → Type 0) (p : A → Bool) → ((x : A) → P x → p x ≡ true) → (xs : List A) → SomeOf P xs → SomeOf P (filter p xs)
filtered_some P p passes [] h = h
filtered_some P p passes (x ∷ xs) (inl here) = rw (passes x here) (inl here)
filtered_some P p passes (x ∷ xs) (inr later) = elim (cases_Bool (p x)) [
  | inl passing ↦ rw passing (inr (filtered_some P p passes xs later))
  | inr failing ↦ rw failing (filtered_some P p passes xs later)
]

pub are_names : (layers : Layers) (keys : List (Bor (List ℕ))) → ((name : List ℕ) → HasName keys name ↔ IsProfile layers name)
    → AreNamesOf layers (own_names ++ filter is_other (words_of keys))
are_names layers keys each name =
    let P : List ℕ → Type 0 = λ other. other ≡ name in
    let text : Bor (List ℕ) → List ℕ = λ word. word.now in (
      λ among. ⊎_elim (λ is. inl (sym is)) (⊎_elim (λ is. inr (inl (sym is)))
          (λ some. (each name).0 (mapped_some P text keys (some_filtered P is_other (words_of keys) some)))) among,
      λ is. elim (cases_Bool (is_own name)) [
        | inl own ↦ ⊎_elim (λ default. inl (sym default)) (λ miri. inr (inl (sym miri))) (own_is name own)
        | inr other ↦ inr (inr (filtered_some P is_other (λ x same. ap is_other same ∙ ap not other) (words_of keys) (some_mapped P text keys ((each name).1 is))))
      ],
    )

-- a layer without anything has no profile
pub nothing_below : (layers : Layers) (name : List ℕ) → IsProfile (None ∷ layers) name ↔ IsProfile layers name
nothing_below layers name = (
  λ is. ⊎_elim inl (λ own. inr (⊎_elim inl (λ some. inr (⊎_elim (λ none. absurd (false≢true none)) (λ there. there) some)) own)) is,
  λ is. ⊎_elim inl (λ own. inr (⊎_elim inl (λ some. inr (inr some)) own)) is,
)

-- ---- their order

all_others : (names : List (List ℕ)) → AllByRecursion IsOther (filter is_other names)
all_others [] = tt
all_others (name ∷ names) = elim (cases_Bool (is_own name)) [
  | inl own ↦ rw own (all_others names)
  | inr other ↦ rw other (other_is name other, all_others names)
]

pub names_in_order : (keys : List (Bor (List ℕ))) → IsStrictlySortedBy names_cmp keys → AreInOrder (own_names ++ filter is_other (words_of keys))
names_in_order keys sorted = record {
  others = filter is_other (words_of keys);
  whole = refl;
  are_others = all_others (words_of keys);
  ascend = IsStrictlySortedBy-filter (slice_cmp nat_cmp) is_other (words_of keys) (seen_in_order names_cmp (slice_cmp nat_cmp) (λ word. word.now) (λ x y. refl) keys sorted);
}
