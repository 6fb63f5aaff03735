-- Leaves are listed member by member, and each has one layer.
use Rattle.std.proofs.Common.{◌≡◌, ℕ, List, [], ◌∷◌, ◌++◌, Some, None, append_assoc, length, map, string_bytes, refl, sym, ap, subst, ◌∙◌, inl, inr}
use Rattle.std.proofs.lemmas.Bool.{cases_Bool}
use Rattle.std.specs.List.{AllByRecursion}
use Rattle.std.specs.List.Sorted.{IsStrictlySortedBy}
use Rattle.std.specs.Map.{keys_of}
use Rattle.std.specs.String.{string_cmp}
use Rattle.toml.proofs.Views.{Entry}
use Rattle.toml.specs.Data.{Data, get_member, Members, table}
use Rattle.toml.specs.View.{members_view, view}
use Rattle.toml_spans.proofs.Elements.{all_joined, all_weaker}
use Rattle.nextest_config_profiles.specs.Merged.{IsMergedOver, IsLeaf, Layers, leaf_of}
use Rattle.nextest_config_profiles.specs.Merging.{seen}
use Rattle.nextest_config_profiles.specs.Leaves.{Adds, AreAllLeaves, AreLeavesAt, AreLeavesIn, HasLeafAt, IsLeafBelow, IsOfLayers, placed, PlacedLeaf}
use Rattle.nextest_config_profiles.specs.Profiles.{SomeOf}
use Rattle.nextest_config_profiles.specs.Said.{bare, branch, leaf, Path, Said, said_here, silent}
use Rattle.nextest_config_profiles.specs.Selection.{HasNothing, IsLast, IsLeafAmong}
use Rattle.nextest_config_profiles.specs.declared.leaves.Leaf.{Leaf}
use Rattle.nextest_config_profiles.proofs.Merging.{seen_value}
use Rattle.nextest_config_profiles.proofs.LeafLaws.{last_once, leaf_once, nothing_or_said}
use Rattle.nextest_config_profiles.proofs.Members.{is_key, last_member, not_before, one_key, other_last}
use Rattle.nextest_config_profiles.proofs.Names.{mapped_some, some_left, some_right}

-- ---- some element

some_weaker : {A : Type 0} (P Q : A → Type 0) → ((x : A) → P x → Q x) → (xs : List A) → SomeOf P xs → SomeOf Q xs
some_weaker P Q weaker [] h = h
some_weaker P Q weaker (x ∷ xs) (inl here) = inl (weaker x here)
some_weaker P Q weaker (x ∷ xs) (inr later) = inr (some_weaker P Q weaker xs later)

some_of_all : {A : Type 0} (P Q R : A → Type 0) → ((x : A) → P x → Q x → R x) → (xs : List A) → AllByRecursion P xs → SomeOf Q xs → SomeOf R xs
some_of_all P Q R both [] all h = h
some_of_all P Q R both (x ∷ xs) all (inl here) = inl (both x all.0 here)
some_of_all P Q R both (x ∷ xs) all (inr later) = inr (some_of_all P Q R both xs all.1 later)

all_unmapped : {A B : Type 0} (P : B → Type 0) (f : A → B) (xs : List A) → AllByRecursion P (map f xs) → AllByRecursion (λ x. P (f x)) xs
all_unmapped P f [] h = h
all_unmapped P f (x ∷ xs) h = (h.0, all_unmapped P f xs h.1)

-- ---- of a table, member by member

none_at_nothing : (below : Path) (value : Data) → HasLeafAt None below value → ⊥
none_at_nothing below value h = cc h

pub some_branch : (entries : List Entry) → (length entries ≡ 0 → ⊥) → said_here (table (members_view entries)) ≡ branch
some_branch [] some = absurd (some refl)
some_branch (e ∷ entries) some = refl

-- with some member, the leaves of the members are those of the table
pub of_table : (path : Path) (members : Members) (leaves : List PlacedLeaf) → said_here (table members) ≡ branch
    → AreLeavesIn path members leaves → AreLeavesAt path (Some (table members)) leaves
of_table path members leaves some those = record {
  each = all_weaker _ _ (λ leaf h. (h.0 ∷ h.1, h.2, h.3)) leaves those.each;
  all = every;
}
  where
    every : (below : Path) (value : Data) → HasLeafAt (Some (table members)) below value → SomeOf (λ leaf. (leaf.0 ≡ path ++ below) × (leaf.1 ≡ value)) leaves
    every [] value h = absurd (cc (sym (ap leaf_of some) ∙ h))
    every (key ∷ below) value h = those.all key below value h

pub table_leaves : (path : Path) (entries : List Entry) (before after : List PlacedLeaf) → (length entries ≡ 0 → ⊥)
    → Adds (AreLeavesIn path (members_view entries)) before after → Adds (AreLeavesAt path (Some (table (members_view entries)))) before after
table_leaves path entries before after some adds = record {
  added = adds.added;
  whole = adds.whole;
  those = of_table path (members_view entries) adds.added (some_branch entries some) adds.those;
}

module _ (path : Path) (done : List Entry) (e : Entry) (more : List Entry) (sorted : IsStrictlySortedBy string_cmp (keys_of (done ++ e ∷ more)))
    (old new : List PlacedLeaf) (so_far : AreLeavesIn path (members_view done) old)
    (here : AreLeavesAt (path ++ string_bytes e.0 ∷ []) (Some (view e.1)) new) where
  not_yet : get_member (string_bytes e.0) (members_view done) ≡ None
  not_yet = not_before done e more sorted

  at_new : get_member (string_bytes e.0) (members_view (done ++ e ∷ [])) ≡ Some (view e.1)
  at_new = last_member done e not_yet

  place : (below : Path) → (path ++ string_bytes e.0 ∷ []) ++ below ≡ path ++ string_bytes e.0 ∷ below
  place below = append_assoc path (string_bytes e.0 ∷ []) below

  stays : (key : List ℕ) (below : Path) (value : Data) → HasLeafAt (get_member key (members_view done)) below value
      → HasLeafAt (get_member key (members_view (done ++ e ∷ []))) below value
  stays key below value h = elim (cases_Bool (is_key key (string_bytes e.0))) [
    | inl same ↦
        let none : get_member key (members_view done) ≡ None = ap (λ k. get_member k (members_view done)) (one_key key (string_bytes e.0) same) ∙ not_yet in
        absurd (none_at_nothing below value (subst (λ found. HasLeafAt found below value) none h))
    | inr apart ↦ subst (λ found. HasLeafAt found below value) (sym (other_last key done e apart)) h
  ]

  every : (key : List ℕ) (below : Path) (value : Data) → HasLeafAt (get_member key (members_view (done ++ e ∷ []))) below value
      → SomeOf (λ leaf. (leaf.0 ≡ path ++ key ∷ below) × (leaf.1 ≡ value)) (old ++ new)
  every key below value h = elim (cases_Bool (is_key key (string_bytes e.0))) [
    | inl same ↦
        let is = one_key key (string_bytes e.0) same in
        let found : get_member key (members_view (done ++ e ∷ [])) ≡ Some (view e.1) = ap (λ k. get_member k (members_view (done ++ e ∷ []))) is ∙ at_new in
        some_right (λ leaf. (leaf.0 ≡ path ++ key ∷ below) × (leaf.1 ≡ value)) old new
        (some_weaker _ _ (λ leaf at. (at.0 ∙ place below ∙ ap (λ k. path ++ k ∷ below) (sym is), at.1)) new
        (here.all below value (subst (λ found. HasLeafAt found below value) found h)))
    | inr apart ↦ some_left (λ leaf. (leaf.0 ≡ path ++ key ∷ below) × (leaf.1 ≡ value)) old new
        (so_far.all key below value (subst (λ found. HasLeafAt found below value) (other_last key done e apart) h))
  ]

  -- the leaves with those of one more member
  pub one_member_more : AreLeavesIn path (members_view (done ++ e ∷ [])) (old ++ new)
  one_member_more = record {
    each = all_joined _ old new
        (all_weaker _ _ (λ leaf h. (h.0, h.1, h.2, stays h.0 h.1 leaf.1 h.3)) old so_far.each)
        (all_weaker _ _ (λ leaf h. (string_bytes e.0, h.0, h.1 ∙ place h.0, subst (λ found. HasLeafAt found h.0 leaf.1) (sym at_new) h.2)) new here.each);
    all = every;
  }

pub more_leaves : (path : Path) (done : List Entry) (e : Entry) (more : List Entry) → IsStrictlySortedBy string_cmp (keys_of (done ++ e ∷ more))
    → (before between after : List PlacedLeaf) → Adds (AreLeavesIn path (members_view done)) before between
    → Adds (AreLeavesAt (path ++ string_bytes e.0 ∷ []) (Some (view e.1))) between after
    → Adds (AreLeavesIn path (members_view (done ++ e ∷ []))) before after
more_leaves path done e more sorted before between after old new = record {
  added = old.added ++ new.added;
  whole = new.whole ∙ ap (λ leaves. leaves ++ new.added) old.whole ∙ append_assoc before old.added new.added;
  those = one_member_more path done e more sorted old.added new.added old.those new.those;
}

-- ---- with their layers

pub of_layers : {A : Type 0} (at : A → PlacedLeaf) (layers : Layers) (path : Path) (whole : Data) (leaves : List A) → IsMergedOver layers path whole
    → AreLeavesAt [] (Some whole) (map at leaves) → AllByRecursion (λ leaf. IsOfLayers layers path (at leaf)) leaves
of_layers at layers path whole leaves merged those =
    all_unmapped (IsOfLayers layers path) at leaves
    (all_weaker _ _ (λ leaf h. (merged leaf.0 leaf.1).0 (subst (λ below. HasLeafAt (Some whole) below leaf.1) (sym h.1) h.2)) (map at leaves) those.each)

pub all_listed : (layers : Layers) (path : Path) (whole : Data) (found : List Leaf) → IsMergedOver layers path whole
    → AreLeavesAt [] (Some whole) (map placed found) → AllByRecursion (IsLeafBelow layers path) found → AreAllLeaves layers path found
all_listed layers path whole found merged those each below position value is =
    some_of_all (IsLeafBelow layers path) (λ leaf. ((placed leaf).0 ≡ below) × ((placed leaf).1 ≡ value)) _
    (λ leaf of at. (
      at.0,
      (leaf_once layers (path ++ below) leaf.layer position (view leaf.value) value
          (subst (λ keys. IsLeaf layers (path ++ keys) leaf.layer (view leaf.value)) at.0 of) is).0,
      at.1,
    ))
    found each
    (mapped_some (λ leaf. (leaf.0 ≡ below) × (leaf.1 ≡ value)) placed found (those.all below value ((merged below value).1 (position, is))))

said_some : (value : Data) → said_here value ≡ silent → ⊥
said_some value h = seen_value value (ap seen h)

-- the last layer that has a value is that of the leaf
pub by_last : (all : List Said) (p q : ℕ) (value other : Data) → IsLeafAmong all p value → IsLast all q (said_here other) → IsLeafAmong all q value
by_last all p q value other (inl last) at =
    subst (λ place. IsLeafAmong all place value) (last_once all p q (leaf value) (said_here other) last at (λ e. cc e) (said_some other)).0 (inl last)
by_last all p q value other (inr last) at =
    subst (λ place. IsLeafAmong all place value) (last_once all p q bare (said_here other) last.0 at (λ e. cc e) (said_some other)).0 (inr last)

pub not_nothing : (all : List Said) (p : ℕ) (value : Data) → HasNothing all → IsLeafAmong all p value → ⊥
not_nothing all p value none (inl last) = nothing_or_said all p (leaf value) none last (λ e. cc e) (λ e. cc e)
not_nothing all p value none (inr last) = nothing_or_said all p bare none last.0 (λ e. cc e) (λ e. cc e)
