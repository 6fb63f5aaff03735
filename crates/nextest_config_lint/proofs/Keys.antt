-- The keys of tables, and the words that they may be meant for.
use Rattle.std.proofs.Common.{◌≡◌, ℕ, zero, suc, ◌+◌, ◌<◌, Bool, true, false, ⊎_elim, MatchOption, None, arith, option_map, Equal, Greater, IsSome, Less, List, [], ◌∷◌, ◌++◌, Option, Ordering, Some, Bor, Global, String, ap, if◌then◌else◌, drop, flat_map, get_or, is_some, length, map, nat_cmp, nat_eq, refl, string_bytes, sym, ◌∙◌}
use mathlib.Core.List.{map-map}
use Rattle.std.proofs.lemmas.Cmp.{nat_list_cmp_total}
use Rattle.std.proofs.lemmas.Bool.{cases_Bool}
use Rattle.std.proofs.lemmas.List.{drop_more, map-id}
use Rattle.std.proofs.lemmas.List.Elements.{All-from_all_within, recursion_from_All}
use Rattle.std.specs.Bool.{MatchBool}
use Rattle.std.specs.Cmp.{tied_itself}
use Rattle.std.specs.Cmp.Lexicographic.{pointwise, slice_cmp}
use Rattle.std.specs.List.{AllByRecursion, AllWithin, find, HoldsAt}
use Rattle.std.specs.Map.{keys_of}
use Rattle.std.specs.Map.Iter.{deref}
use Rattle.std.specs.Option.{option_or}
use Rattle.std.specs.Ordering.{match_ordering}
use Rattle.toml.proofs.Views.{Entry}
use Rattle.toml.specs.Data.{Data, get_member, member, Members, no_members}
use Rattle.toml.specs.View.{members_view}
use Rattle.toml_spans.proofs.Elements.{all_weaker}
use Rattle.nextest_config_values.specs.Read.{value_of, words_of}
use Rattle.nextest_config_lint.specs.Conversion.{field_named}
use Rattle.nextest_config_lint.specs.Settings.{is_known, names_of, seen_field}
use Rattle.nextest_config_elements.proofs.Levels.{first_field}
use Rattle.nextest_config_elements.specs.Fields.{field_words, fields_view, KeyRule, Parts}
use Rattle.nextest_config_elements.specs.declared.field.Field as declared
use Rattle.nextest_config_elements.specs.declared.field.Field.{out-Field}

-- ---- the search for a key

pub past_key : (words : List (Bor (List ℕ))) (i : ℕ) (d : Bor (List ℕ)) (name : List ℕ) → i < length words → pointwise nat_eq (get_or words i d).now name ≡ false
    → value_of (λ word. word) (words_of (drop i words)) name ≡ value_of (λ word. word) (words_of (drop (i + 1) words)) name
past_key words i d name within other = rw (drop_more words i d within, other) refl

pub at_this_key : (words : List (Bor (List ℕ))) (i : ℕ) (d : Bor (List ℕ)) (name : List ℕ) → i < length words → pointwise nat_eq (get_or words i d).now name ≡ true
    → true ≡ is_some (value_of (λ word. word) (words_of (drop i words)) name)
at_this_key words i d name within same = rw (drop_more words i d within, same) refl

-- the answer of `any` that asks for a key, of elements that have one
module _ {X : Type 0} (key : X → List ℕ) (name : List ℕ) where
  known_at : (xs : List X) (k : ℕ) → k < length xs → HoldsAt (λ x. pointwise nat_eq (key x) name ≡ true) xs k → is_known (map key xs) name ≡ true
  known_at [] k within here = absurd (omega (arith, within))
  known_at (x ∷ xs) zero within here = rw (here x) refl
  known_at (x ∷ xs) (suc k) within here =
      ⊎_elim (λ same. rw same refl) (λ other. rw other (known_at xs k (omega (arith, within)) here)) (cases_Bool (pointwise nat_eq (key x) name))

  known_nowhere : (xs : List X) → AllByRecursion (λ x. pointwise nat_eq (key x) name ≡ false) xs → is_known (map key xs) name ≡ false
  known_nowhere [] none = refl
  known_nowhere (x ∷ xs) none = rw none.0 (known_nowhere xs none.1)

  pub any_known : (xs : List X) (r : Bool)
      → MatchBool r ((k : ℕ) × (k < length xs) × HoldsAt (λ x. pointwise nat_eq (key x) name ≡ true) xs k) (AllWithin (λ x. pointwise nat_eq (key x) name ≡ false) xs 0 (length xs))
      → r ≡ is_known (map key xs) name
  any_known xs true (k, within, here) = sym (known_at xs k within here)
  any_known xs false none = sym (known_nowhere xs (recursion_from_All (λ x. pointwise nat_eq (key x) name ≡ false) xs (All-from_all_within (λ x. pointwise nat_eq (key x) name ≡ false) xs none)))

-- ---- the first that passes a test

module _ {X : Type 0} (test : X → Bool) where
  find_here : (xs : List X) (x : X) (i : ℕ) → test x ≡ true → i < length xs → HoldsAt (λ y. y ≡ x) xs i → AllWithin (λ y. test y ≡ false) xs 0 i → find test xs ≡ Some x
  find_here [] x i passes within here none = absurd (omega (arith, within))
  find_here (first ∷ xs) x zero passes within here none =
      let same : first ≡ x = here first in
      rw (same, passes) refl
  find_here (first ∷ xs) x (suc i) passes within here none =
      let other : test first ≡ false = none 0 first (omega arith) (omega arith) in
      rw other (find_here xs x i passes (omega (arith, within)) here (λ k d low below. none (suc k) d (omega arith) (omega (arith, below))))

  find_none : (xs : List X) → AllByRecursion (λ y. test y ≡ false) xs → find test xs ≡ None
  find_none [] none = refl
  find_none (x ∷ xs) none = rw none.0 (find_none xs none.1)

  -- the answer of `find`
  pub found_first : (xs : List X) (r : Option X)
      → MatchOption r (AllWithin (λ y. test y ≡ false) xs 0 (length xs)) (λ x. (test x ≡ true) × (i : ℕ) × (i < length xs) × HoldsAt (λ y. y ≡ x) xs i × AllWithin (λ y. test y ≡ false) xs 0 i)
      → r ≡ find test xs
  found_first xs None none = sym (find_none xs (recursion_from_All (λ y. test y ≡ false) xs (All-from_all_within (λ y. test y ≡ false) xs none)))
  found_first xs (Some x) (passes, i, within, here, none) = sym (find_here xs x i passes within here none)

-- and of `find` that yields elements as they are lent
pub found_lent : {X : Type 0} (test : X → Bool) (xs : List X) (r : Option (Bor X))
    → MatchOption r (AllWithin (λ y. test y ≡ false) xs 0 (length xs)) (λ x. (test x.now ≡ true) × (i : ℕ) × (i < length xs) × HoldsAt (λ y. y ≡ x.now) xs i × AllWithin (λ y. test y ≡ false) xs 0 i)
    → option_map (λ x. x.now) r ≡ find test xs
found_lent test xs None none = found_first test xs None none
found_lent test xs (Some x) first = found_first test xs (Some x.now) first

-- what is seen of what is lent
pub seen_through : {X Y : Type 0} (seen : X → Y) (r : Option (Bor X)) → option_map (λ x. seen x.now) r ≡ option_map seen (option_map (λ x. x.now) r)
seen_through seen None = refl
seen_through seen (Some x) = refl

-- what is seen of the first of two that there is
pub seen_or : {X Y : Type 0} (seen : X → Y) (first later : Option X) → option_map seen (option_or first later) ≡ option_or (option_map seen first) (option_map seen later)
seen_or seen None later = refl
seen_or seen (Some x) later = refl

-- a test of what is seen of elements
pub find_seen : {X Y : Type 0} (seen : X → Y) (test : Y → Bool) (xs : List X) → option_map seen (find (λ x. test (seen x)) xs) ≡ find test (map seen xs)
find_seen seen test [] = refl
find_seen seen test (x ∷ xs) =
    ⊎_elim (λ passes. rw passes refl) (λ fails. rw fails (find_seen seen test xs)) (cases_Bool (test (seen x)))

-- the keys of fields
pub words_of_fields : (known : List declared.Field) → map (λ f. (out-Field f).key.now) known ≡ field_words (fields_view known)
words_of_fields [] = refl
words_of_fields (first ∷ known) =
    ap (λ (words : List (List ℕ)). (out-Field first).key.now ∷ words) (words_of_fields known) ∙ ap field_words (sym (first_field first known))

-- the field with a key is the first of the slice that has it
by_test : (here : Bool) (first : declared.Field) (rest : Option declared.Field) (others : Option (KeyRule × Parts)) → option_map seen_field rest ≡ others
    → option_map seen_field (if here then Some first else rest) ≡ (if here then Some (seen_field first) else others)
by_test true first rest others same = refl
by_test false first rest others same = same

pub field_found : (name : List ℕ) (known : List declared.Field) → option_map seen_field (find (λ f. pointwise nat_eq (out-Field f).key.now name) known) ≡ field_named name (fields_view known)
field_found name [] = refl
field_found name (first ∷ known) =
    by_test (pointwise nat_eq (out-Field first).key.now name) first (find (λ f. pointwise nat_eq (out-Field f).key.now name) known) (field_named name (fields_view known)) (field_found name known)
    ∙ ap (field_named name) (sym (first_field first known))

-- ---- lists of keys

names_are : (entries : List Entry) → names_of (members_view entries) ≡ map string_bytes (keys_of entries)
names_are [] = refl
names_are (entry ∷ entries) = ap (λ (names : List (List ℕ)). string_bytes entry.0 ∷ names) (names_are entries)

stays : (order : Ordering) (value : Data) (rest : Option Data) → IsSome rest → IsSome (match_ordering order rest (Some value) rest)
stays Less value rest h = h
stays Equal value rest h = refl
stays Greater value rest h = h

-- a table has a value at each of its keys
pub names_have : (held : Members) → AllByRecursion (λ name. IsSome (get_member name held)) (names_of held)
names_have no_members = tt
names_have (member name value rest) = (
  rw (tied_itself nat_list_cmp_total name) refl,
  all_weaker (λ other. IsSome (get_member other rest)) (λ other. IsSome (get_member other (member name value rest)))
      (λ other h. stays (slice_cmp nat_cmp other name) value (get_member other rest) h) (names_of rest) (names_have rest),
)

-- all keys of a table that were yielded, as names
pub all_names : {B : Type 0} (entries : List Entry) (yielded : List (Bor (String Global))) (f : List ℕ → B) → map deref yielded ≡ keys_of entries
    → map (λ name. f (string_bytes name.now)) yielded ≡ map f (names_of (members_view entries))
all_names entries yielded f all =
    sym (map-map (λ name. f (string_bytes name)) deref yielded) ∙ ap (map (λ name. f (string_bytes name))) all
    ∙ sym (map-map f string_bytes (keys_of entries)) ∙ ap (map f) (sym (names_are entries))

-- all names of a set that were yielded
pub all_texts : (names : List (String Global)) (yielded : List (Bor (String Global))) → map deref yielded ≡ names → map (λ name. string_bytes name.now) yielded ≡ map string_bytes names
all_texts names yielded all = sym (map-map string_bytes deref yielded) ∙ ap (map string_bytes) all

flat_map_map : {A B C : Type 0} (f : B → List C) (g : A → B) (xs : List A) → flat_map (λ x. f (g x)) xs ≡ flat_map f (map g xs)
flat_map_map f g [] = refl
flat_map_map f g (x ∷ xs) = ap (λ more. f (g x) ++ more) (flat_map_map f g xs)

-- what comes of all keys of a table that were yielded
pub of_all_names : {C : Type 0} (entries : List Entry) (yielded : List (Bor (String Global))) (f : List ℕ → List C) → map deref yielded ≡ keys_of entries
    → flat_map (λ name. f (string_bytes name.now)) yielded ≡ flat_map f (names_of (members_view entries))
of_all_names entries yielded f all =
    flat_map_map f (λ name. string_bytes name.now) yielded
    ∙ ap (flat_map f) (all_names entries yielded (λ name. name) all ∙ map-id (names_of (members_view entries)))
