-- The keys of a table, in order, against the known ones.
use Rattle.std.proofs.Common.{◌≡◌, ℕ, ◌++◌, List, [], ◌∷◌, IsSome, Global, Less, String, nat_cmp, refl, string_bytes, subst, sym}
use Rattle.std.proofs.lemmas.Cmp.{nat_list_cmp_total}
use Rattle.std.proofs.lemmas.Map.Keys.{sorted_head, sorted_tail}
use Rattle.std.specs.Cmp.{tied_itself}
use Rattle.std.specs.Cmp.Lexicographic.{slice_cmp}
use Rattle.std.specs.List.{AllByRecursion}
use Rattle.std.specs.List.Sorted.{IsStrictlySortedBy}
use Rattle.std.specs.Map.{keys_of}
use Rattle.std.specs.String.{string_cmp}
use Rattle.toml.proofs.Views.{Entry}
use Rattle.toml.specs.Data.{get_member}
use Rattle.toml.specs.View.{members_view, view}
use Rattle.toml_spans.proofs.Elements.{all_weaker}
use Rattle.nextest_config_elements.specs.UnknownKeys.{ComesBefore, HasOnlyKeys, IsFirstUnknownKey, IsOneOf}
use Rattle.nextest_config_elements.specs.UnknownKeysLaws.{found_at, found_later, not_itself}

-- what holds of each key holds of each text that has a value
of_found : (P : List ℕ → Type 0) (entries : List Entry) → AllByRecursion (λ key. P (string_bytes key)) (keys_of entries)
    → (text : List ℕ) → IsSome (get_member text (members_view entries)) → P text
of_found P [] all text some = cc some
of_found P (e ∷ entries) all text some =
    found_at (slice_cmp nat_cmp text (string_bytes e.0)) text (string_bytes e.0) (view e.1) (get_member text (members_view entries)) (P text) refl
    (λ same. subst P (sym same) all.0) (of_found P entries all.1 text) some

-- a key of the table has a value
key_there : (entries : List Entry) (so_far rest : List (String Global)) (key : String Global) → keys_of entries ≡ so_far ++ key ∷ rest
    → IsSome (get_member (string_bytes key) (members_view entries))
key_there [] [] rest key whole = cc whole
key_there [] (x ∷ so_far) rest key whole = cc whole
key_there (e ∷ entries) [] rest key whole =
    let same : key ≡ e.0 = cc whole in
    rw (same, tied_itself nat_list_cmp_total (string_bytes e.0)) refl
key_there (e ∷ entries) (x ∷ so_far) rest key whole =
    found_later (slice_cmp nat_cmp (string_bytes key) (string_bytes e.0)) (view e.1) (get_member (string_bytes key) (members_view entries))
    (key_there entries so_far rest key (cc whole))

-- no text comes before one that it comes after
not_after : (first text : List ℕ) → ComesBefore first text → ¬ ComesBefore text first
not_after first text after before = not_itself text (nat_list_cmp_total.trans text first text before after)

module _ (known : List (List ℕ)) where
  -- these keys are known
  abbrev pub AreKnown : List (String Global) → Type 0
  AreKnown = AllByRecursion (λ key. IsOneOf known (string_bytes key))

  -- a table whose keys are known has only those
  pub has_only : (entries : List Entry) → AreKnown (keys_of entries) → HasOnlyKeys known (members_view entries)
  has_only entries all key found = found.1 (of_found (IsOneOf known) entries all key found.0)

  module _ (key : String Global) where
    -- the text is known, or doesn't come before the key
    abbrev IsNoneBefore : List ℕ → Type 0
    IsNoneBefore text = ¬ IsOneOf known text → ¬ ComesBefore text (string_bytes key)

    -- after known keys, no unknown one comes before the next
    none_before : (so_far rest : List (String Global)) → IsStrictlySortedBy string_cmp (so_far ++ key ∷ rest) → AreKnown so_far
        → AllByRecursion (λ k. IsNoneBefore (string_bytes k)) (so_far ++ key ∷ rest)
    none_before [] rest sorted all =
        let after = sorted_head string_cmp key rest sorted in
        (λ unknown. not_itself (string_bytes key), all_weaker (λ k. string_cmp key k ≡ Less) (λ k. IsNoneBefore (string_bytes k)) (λ k less unknown. not_after (string_bytes key) (string_bytes k) less) rest after)
    none_before (x ∷ so_far) rest sorted all =
        (λ unknown before. unknown all.0, none_before so_far rest (sorted_tail string_cmp x (so_far ++ key ∷ rest) sorted) all.1)

-- the first key that isn't known
pub first_unknown : (known : List (List ℕ)) (entries : List Entry) (so_far rest : List (String Global)) (key : String Global) → keys_of entries ≡ so_far ++ key ∷ rest
    → IsStrictlySortedBy string_cmp (keys_of entries) → AreKnown known so_far → ¬ IsOneOf known (string_bytes key) → IsFirstUnknownKey known (members_view entries) (string_bytes key)
first_unknown known entries so_far rest key whole sorted all not_known =
    let none = none_before known key so_far rest (rw whole at sorted) all in
    record {
      is_unknown = (key_there entries so_far rest key whole, not_known);
      is_first = λ other unknown. of_found (IsNoneBefore known key) entries (rw whole none) other unknown.0 unknown.1;
    }
