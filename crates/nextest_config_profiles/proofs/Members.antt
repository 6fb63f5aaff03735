-- Members after an insertion, a removal, and with one more at the end.
use Rattle.std.proofs.Common.{◌≡◌, ℕ, Bool, true, false, List, [], ◌∷◌, ◌++◌, Option, Some, None, String, Global, Ordering, Less, Equal, Greater, cond, string_bytes, nat_cmp, is_eq, refl, sym, ap, ◌∙◌, inl, inr}
use Rattle.std.proofs.lemmas.Bool.{cases_Bool}
use Rattle.std.proofs.lemmas.Cmp.{nat_list_cmp_total}
use Rattle.std.proofs.lemmas.Map.Text.{is_eq-slice_cmp}
use Rattle.std.proofs.lemmas.Slice.Eq.{bytes_eq-Decides}
use Rattle.std.specs.BTreeMap.{insert_entry, is_at}
use Rattle.std.specs.Cmp.{tied_itself}
use Rattle.std.specs.Cmp.Lexicographic.{slice_cmp}
use Rattle.std.specs.List.{AllByRecursion}
use Rattle.std.specs.List.Sorted.{IsStrictlySortedBy}
use Rattle.std.specs.Map.{keys_of, remove_entry}
use Rattle.std.specs.Ordering.{match_ordering, ordering_reverse}
use Rattle.std.specs.String.{string_cmp}
use Rattle.toml.proofs.Views.{Entry}
use Rattle.toml.specs.Data.{Data, get_member, member, Members, no_members}
use Rattle.toml.specs.View.{members_view, view}

-- whether two keys are one
abbrev pub is_key : List ℕ → List ℕ → Bool
is_key k l = is_eq (slice_cmp nat_cmp k l)

pub one_key : (k l : List ℕ) → is_key k l ≡ true → k ≡ l
one_key k l same = (bytes_eq-Decides k l).0 (sym (is_eq-slice_cmp k l) ∙ same)

pub key_itself : (k : List ℕ) → is_key k k ≡ true
key_itself k = ap is_eq (tied_itself nat_list_cmp_total k)

skipped : (o : Ordering) (found : Option Data) (rest : Option Data) → is_eq o ≡ false
    → match_ordering o rest found rest ≡ rest
skipped Equal found rest other = absurd (cc other)
skipped order found rest other = refl

met : (o : Ordering) (found : Option Data) (rest : Option Data) → is_eq o ≡ true
    → match_ordering o rest found rest ≡ found
met Equal found rest same = refl
met order found rest same = absurd (cc same)

-- a look-up past another key
pub past_member : (j k : List ℕ) (value : Data) (rest : Members) → is_key j k ≡ false
    → get_member j (member k value rest) ≡ get_member j rest
past_member j k value rest other = skipped (slice_cmp nat_cmp j k) (Some value) (get_member j rest) other

pub first_member : (k : List ℕ) (value : Data) (rest : Members)
    → get_member k (member k value rest) ≡ Some value
first_member k value rest = met (slice_cmp nat_cmp k k) (Some value) (get_member k rest) (key_itself k)

-- another key has what it had before an insertion
module _ (j : List ℕ) (k : String Global) (value : _) (apart : is_key j (string_bytes k) ≡ false) where
  inserted_by : (o : Ordering) (e : Entry) (es : List Entry) → o ≡ string_cmp k e.0
      → get_member j (members_view (insert_entry string_cmp es k value)) ≡ get_member j (members_view es)
      → get_member j (members_view (match_ordering o ((k, value) ∷ e ∷ es) ((e.0, value) ∷ es) (e ∷ insert_entry string_cmp es k value)))
      ≡ get_member j (members_view (e ∷ es))
  inserted_by Less e es order later = past_member j (string_bytes k) (view value) (members_view (e ∷ es)) apart
  inserted_by Equal e es order later =
      let same : string_bytes k ≡ string_bytes e.0 = one_key (string_bytes k) (string_bytes e.0) (ap is_eq (sym order)) in
      let other : is_key j (string_bytes e.0) ≡ false = rw (← same) apart in
      past_member j (string_bytes e.0) (view value) (members_view es) other
      ∙ sym (past_member j (string_bytes e.0) (view e.1) (members_view es) other)
  inserted_by Greater e es order later =
      ap (λ rest. match_ordering (slice_cmp nat_cmp j (string_bytes e.0)) rest (Some (view e.1)) rest) later

  pub other_inserted : (es : List Entry)
      → get_member j (members_view (insert_entry string_cmp es k value)) ≡ get_member j (members_view es)
  other_inserted [] = past_member j (string_bytes k) (view value) no_members apart
  other_inserted (e ∷ es) = inserted_by (string_cmp k e.0) e es refl (other_inserted es)

-- and before a removal
pub other_removed : (j k : List ℕ) → is_key j k ≡ false → (es : List Entry)
    → get_member j (members_view (remove_entry (is_at (λ x. slice_cmp nat_cmp k (string_bytes x))) es)) ≡ get_member j (members_view es)
other_removed j k apart [] = refl
other_removed j k apart (e ∷ es) =
    elim (cases_Bool (is_key k (string_bytes e.0))) [
      | inl same ↦
          let other : is_key j (string_bytes e.0) ≡ false = rw (← one_key k (string_bytes e.0) same) apart in
          ap (λ found. get_member j (members_view (cond found es (e ∷ remove_entry (is_at (λ x. slice_cmp nat_cmp k (string_bytes x))) es)))) same
          ∙ sym (past_member j (string_bytes e.0) (view e.1) (members_view es) other)
      | inr not_same ↦
          ap (λ found. get_member j (members_view (cond found es (e ∷ remove_entry (is_at (λ x. slice_cmp nat_cmp k (string_bytes x))) es)))) not_same
          ∙ ap (λ rest. match_ordering (slice_cmp nat_cmp j (string_bytes e.0)) rest (Some (view e.1)) rest) (other_removed j k apart es)
    ]

-- and where one more member stands at the end
pub other_last : (j : List ℕ) (es : List Entry) (e : Entry) → is_key j (string_bytes e.0) ≡ false
    → get_member j (members_view (es ++ e ∷ [])) ≡ get_member j (members_view es)
other_last j [] e apart = past_member j (string_bytes e.0) (view e.1) no_members apart
other_last j (first ∷ es) e apart =
    ap (λ rest. match_ordering (slice_cmp nat_cmp j (string_bytes first.0)) rest (Some (view first.1)) rest) (other_last j es e apart)

below_middle : (first : Entry) (es : List Entry) (e : Entry) (more : List Entry)
    → AllByRecursion (λ y. string_cmp first.0 y ≡ Less) (keys_of (es ++ e ∷ more)) → string_cmp first.0 e.0 ≡ Less
below_middle first [] e more h = h.0
below_middle first (x ∷ es) e more h = below_middle first es e more h.1

apart_from_first : (first : Entry) (es : List Entry) (e : Entry) (more : List Entry)
    → AllByRecursion (λ y. string_cmp first.0 y ≡ Less) (keys_of (es ++ e ∷ more)) → is_key (string_bytes e.0) (string_bytes first.0) ≡ false
apart_from_first first es e more h =
    ap is_eq (nat_list_cmp_total.antisymm (string_bytes e.0) (string_bytes first.0) ∙ ap ordering_reverse (below_middle first es e more h))

-- a key of a table in order isn't among those before it
pub not_before : (es : List Entry) (e : Entry) (more : List Entry) → IsStrictlySortedBy string_cmp (keys_of (es ++ e ∷ more))
    → get_member (string_bytes e.0) (members_view es) ≡ None
unfolding IsStrictlySortedBy
not_before [] e more h = refl
not_before (first ∷ es) e more h =
    past_member (string_bytes e.0) (string_bytes first.0) (view first.1) (members_view es) (apart_from_first first es e more h.0)
    ∙ not_before es e more h.1

-- the last member is what its key has
pub last_member : (es : List Entry) (e : Entry) → get_member (string_bytes e.0) (members_view es) ≡ None
    → get_member (string_bytes e.0) (members_view (es ++ e ∷ [])) ≡ Some (view e.1)
last_member [] e none = first_member (string_bytes e.0) (view e.1) no_members
last_member (first ∷ es) e none =
    elim (cases_Bool (is_key (string_bytes e.0) (string_bytes first.0))) [
      | inl same ↦ absurd (cc (sym (met (slice_cmp nat_cmp (string_bytes e.0) (string_bytes first.0)) (Some (view first.1)) (get_member (string_bytes e.0) (members_view es)) same) ∙ none))
      | inr other ↦
          past_member (string_bytes e.0) (string_bytes first.0) (view first.1) (members_view (es ++ e ∷ [])) other
          ∙ last_member es e (sym (past_member (string_bytes e.0) (string_bytes first.0) (view first.1) (members_view es) other) ∙ none)
    ]

-- two keys are one, or are told apart
pub apart_keys : (j k : List ℕ) → (j ≡ k → ⊥) → is_key j k ≡ false
apart_keys j k other = elim (cases_Bool (is_key j k)) [
  | inl same ↦ absurd (other (one_key j k same))
  | inr apart ↦ apart
]
