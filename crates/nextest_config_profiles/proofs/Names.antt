-- Sets of names, with one more and with one less.
use Rattle.std.proofs.Common.{◌≡◌, ◌⊎◌, ⊎_elim, ℕ, zero, suc, take, Bool, true, false, ◌||◌, List, [], ◌∷◌, ◌++◌, Bor, cond, map, Ordering, Less, Equal, Greater, IsSome, is_eq, is_some, nat_cmp, refl, string_bytes, sym, ap, ◌∙◌, inl, inr}
use Rattle.std.proofs.lemmas.Bool.{cases_Bool, false≢true}
use Rattle.std.specs.BTreeSet.{insert_key}
use Rattle.std.specs.Cmp.Lexicographic.{slice_cmp}
use Rattle.std.specs.List.{list_any}
use Rattle.std.specs.Map.{keys_of}
use Rattle.std.specs.Ordering.{match_ordering}
use Rattle.std.specs.Set.{remove_key}
use Rattle.toml.proofs.Views.{Entry}
use Rattle.toml.specs.Data.{get_member}
use Rattle.toml.specs.View.{members_view, view}
use Rattle.nextest_config_profiles.specs.Profiles.{HasName, SomeOf}
use Rattle.nextest_config_profiles.proofs.Members.{first_member, is_key, key_itself, one_key, past_member}

abbrev pub names_cmp : Bor (List ℕ) → Bor (List ℕ) → Ordering
names_cmp a b = slice_cmp nat_cmp a.now b.now

-- ---- some element of lists in a row

module _ {A : Type 0} (P : A → Type 0) where
  pub some_left : (xs ys : List A) → SomeOf P xs → SomeOf P (xs ++ ys)
  some_left (x ∷ xs) ys (inl here) = inl here
  some_left (x ∷ xs) ys (inr later) = inr (some_left xs ys later)
  some_left [] ys h = absurd h

  pub some_right : (xs ys : List A) → SomeOf P ys → SomeOf P (xs ++ ys)
  some_right [] ys h = h
  some_right (x ∷ xs) ys h = inr (some_right xs ys h)

  pub some_joined : (xs ys : List A) → SomeOf P (xs ++ ys) → SomeOf P xs ⊎ SomeOf P ys
  some_joined [] ys h = inr h
  some_joined (x ∷ xs) ys (inl here) = inl (inl here)
  some_joined (x ∷ xs) ys (inr later) = ⊎_elim (λ left. inl (inr left)) (λ right. inr right) (some_joined xs ys later)

  pub some_of_one : (x : A) → SomeOf P (x ∷ []) → P x
  some_of_one x (inl here) = here
  some_of_one x (inr none) = absurd none

pub some_mapped : {A B : Type 0} (P : B → Type 0) (f : A → B) (xs : List A) → SomeOf (λ x. P (f x)) xs → SomeOf P (map f xs)
some_mapped P f (x ∷ xs) (inl here) = inl here
some_mapped P f (x ∷ xs) (inr later) = inr (some_mapped P f xs later)
some_mapped P f [] h = absurd h

pub mapped_some : {A B : Type 0} (P : B → Type 0) (f : A → B) (xs : List A) → SomeOf P (map f xs) → SomeOf (λ x. P (f x)) xs
mapped_some P f (x ∷ xs) (inl here) = inl here
mapped_some P f (x ∷ xs) (inr later) = inr (mapped_some P f xs later)
mapped_some P f [] h = absurd h

pub some_within : {A : Type 0} (P : A → Type 0) (xs : List A) (k : ℕ) → SomeOf P (take k xs) → SomeOf P xs
some_within P xs zero h = absurd h
some_within P [] (suc k) h = absurd h
some_within P (x ∷ xs) (suc k) (inl here) = inl here
some_within P (x ∷ xs) (suc k) (inr later) = inr (some_within P xs k later)

-- ---- one name more

module _ (key : Bor (List ℕ)) (name : List ℕ) where
  added_by : (order : Ordering) (first : Bor (List ℕ)) (rest : List (Bor (List ℕ))) → order ≡ names_cmp key first
      → (HasName (insert_key names_cmp rest key) name → HasName rest name ⊎ (key.now ≡ name))
      → HasName (match_ordering order (key ∷ first ∷ rest) (first ∷ rest) (first ∷ insert_key names_cmp rest key)) name
      → HasName (first ∷ rest) name ⊎ (key.now ≡ name)
  added_by Less first rest is later (inl here) = inr here
  added_by Less first rest is later (inr h) = inl h
  added_by Equal first rest is later h = inl h
  added_by Greater first rest is later (inl here) = inl (inl here)
  added_by Greater first rest is later (inr h) = ⊎_elim (λ old. inl (inr old)) (λ new. inr new) (later h)

  -- what has the name after the insertion of a key had it before, or it is the key
  pub added_name : (names : List (Bor (List ℕ))) → HasName (insert_key names_cmp names key) name → HasName names name ⊎ (key.now ≡ name)
  added_name [] h = inr (some_of_one (λ other. other.now ≡ name) key h)
  added_name (first ∷ rest) h = added_by (names_cmp key first) first rest refl (added_name rest) h

  kept_by : (order : Ordering) (first : Bor (List ℕ)) (rest : List (Bor (List ℕ))) → order ≡ names_cmp key first
      → (HasName rest name ⊎ (key.now ≡ name) → HasName (insert_key names_cmp rest key) name)
      → HasName (first ∷ rest) name ⊎ (key.now ≡ name)
      → HasName (match_ordering order (key ∷ first ∷ rest) (first ∷ rest) (first ∷ insert_key names_cmp rest key)) name
  kept_by Less first rest is later (inl old) = inr old
  kept_by Less first rest is later (inr new) = inl new
  kept_by Equal first rest is later (inl old) = old
  kept_by Equal first rest is later (inr new) = inl (sym (one_key key.now first.now (ap is_eq (sym is))) ∙ new)
  kept_by Greater first rest is later (inl (inl here)) = inl here
  kept_by Greater first rest is later (inl (inr old)) = inr (later (inl old))
  kept_by Greater first rest is later (inr new) = inr (later (inr new))

  pub kept_name : (names : List (Bor (List ℕ))) → HasName names name ⊎ (key.now ≡ name) → HasName (insert_key names_cmp names key) name
  kept_name [] (inl none) = absurd none
  kept_name [] (inr new) = inl new
  kept_name (first ∷ rest) h = kept_by (names_cmp key first) first rest refl (kept_name rest) h

-- ---- one name less

module _ (key name : List ℕ) (apart : key ≡ name → ⊥) where
  left_by : (found : Bool) (first : Bor (List ℕ)) (rest : List (Bor (List ℕ))) → is_key key first.now ≡ found
      → (HasName rest name → HasName (remove_key (λ other. is_key key other.now) rest) name)
      → HasName (first ∷ rest) name → HasName (cond found rest (first ∷ remove_key (λ other. is_key key other.now) rest)) name
  left_by true first rest is later (inl here) = absurd (apart (one_key key first.now is ∙ here))
  left_by true first rest is later (inr h) = h
  left_by false first rest is later (inl here) = inl here
  left_by false first rest is later (inr h) = inr (later h)

  -- another name is left after a removal
  pub left_name : (names : List (Bor (List ℕ))) → HasName names name → HasName (remove_key (λ other. is_key key other.now) names) name
  left_name [] h = h
  left_name (first ∷ rest) h = left_by (is_key key first.now) first rest refl (left_name rest) h

-- a name that isn't found isn't there
pub not_found : (name : List ℕ) (names : List (Bor (List ℕ))) → list_any (λ other. is_key name other.now) names ≡ false → HasName names name → ⊥
not_found name [] h none = none
not_found name (first ∷ rest) h (inl here) =
    false≢true (sym h ∙ ap (λ found. found || list_any (λ other. is_key name other.now) rest) (ap (λ key. is_key name key) here ∙ key_itself name))
not_found name (first ∷ rest) h (inr later) = elim (cases_Bool (is_key name first.now)) [
  | inl same ↦ absurd (false≢true (sym h ∙ rw same refl))
  | inr other ↦ not_found name rest (sym (rw other refl) ∙ h) later
]

-- ---- the keys of tables

-- a table has a value at just its keys
pub key_has : (entries : List Entry) (name : List ℕ) → SomeOf (λ key. string_bytes key ≡ name) (keys_of entries) → IsSome (get_member name (members_view entries))
key_has [] name h = absurd h
key_has (entry ∷ rest) name (inl here) =
    ap is_some (ap (λ key. get_member key (members_view (entry ∷ rest))) (sym here) ∙ first_member (string_bytes entry.0) (view entry.1) (members_view rest))
key_has (entry ∷ rest) name (inr later) = elim (cases_Bool (is_key name (string_bytes entry.0))) [
  | inl same ↦ ap is_some (ap (λ key. get_member key (members_view (entry ∷ rest))) (one_key name (string_bytes entry.0) same) ∙ first_member (string_bytes entry.0) (view entry.1) (members_view rest))
  | inr other ↦ ap is_some (past_member name (string_bytes entry.0) (view entry.1) (members_view rest) other) ∙ key_has rest name later
]

pub has_key : (entries : List Entry) (name : List ℕ) → IsSome (get_member name (members_view entries)) → SomeOf (λ key. string_bytes key ≡ name) (keys_of entries)
has_key [] name h = absurd (false≢true h)
has_key (entry ∷ rest) name h = elim (cases_Bool (is_key name (string_bytes entry.0))) [
  | inl same ↦ inl (sym (one_key name (string_bytes entry.0) same))
  | inr other ↦ inr (has_key rest name (rw (past_member name (string_bytes entry.0) (view entry.1) (members_view rest) other) at h))
]
