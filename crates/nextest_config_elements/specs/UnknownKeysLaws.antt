-- Each table has one first unknown key, or none; and the check that finds it.
use Rattle.std.specs.Prelude.{◌≡◌, ℕ, List, [], ◌∷◌, ◌⊎◌, IsSome, Option, Some}
use Rattle.std.proofs.Common.{Equal, Greater, Less, Ordering, ap, inl, inr, nat_cmp, refl, rules, sym, ◌∙◌}
use Rattle.std.proofs.lemmas.Cmp.{nat_list_cmp_total}
use Rattle.std.proofs.lemmas.Map.Lookups.{exact_bytes}
use Rattle.std.specs.Cmp.{tied_itself}
use Rattle.std.specs.Cmp.Lexicographic.{slice_cmp}
use Rattle.std.specs.Ordering.{match_ordering, ordering_reverse}
use Rattle.toml.specs.Data.{Data, Members, get_member, member, no_members}
use Rattle.nextest_config_values.specs.Decisions.{IsDecided, same_text_decided}
use Rattle.nextest_config_values.specs.Read.{Check, unknown_key}
use Rattle.nextest_config_values.specs.Read.Fault.{Fault}
use Rattle.nextest_config_elements.specs.UnknownKeys.{ComesBefore, HasOnlyKeys, IsFirstUnknownKey, IsOneOf, IsUnknownKey}

module _ {known : List (List ℕ)} {members : Members} where
  one_by_order : (o : Ordering) (k l : List ℕ) → slice_cmp nat_cmp k l ≡ o
      → IsFirstUnknownKey known members k → IsFirstUnknownKey known members l → k ≡ l
  one_by_order Less k l order a b = absurd (b.is_first k a.is_unknown order)
  one_by_order Equal k l order a b = exact_bytes k l order
  one_by_order Greater k l order a b =
      absurd (a.is_first l b.is_unknown
      (nat_list_cmp_total.antisymm l k ∙ ap ordering_reverse order))

  pub one_first : (k l : List ℕ) → IsFirstUnknownKey known members k
      → IsFirstUnknownKey known members l → k ≡ l
  one_first k l = one_by_order (slice_cmp nat_cmp k l) k l refl

-- ---- each table has a first unknown key, or none

known_decided : (known : List (List ℕ)) (text : List ℕ) → IsDecided (IsOneOf known text)
known_decided [] text = inr (λ one. one)
known_decided (first ∷ rest) text = elim (same_text_decided text first) [
  | inl same ↦ inl (inl same)
  | inr other ↦ elim (known_decided rest text) [
    | inl one ↦ inl (inr one)
    | inr none ↦ inr (λ one. elim one [ inl same ↦ other same | inr later ↦ none later ])
  ]
]

-- what is found at a text, by where it stands against a key
pub found_at : (o : Ordering) (text key : List ℕ) (value : Data) (rest : Option Data) (P : Type 0)
    → slice_cmp nat_cmp text key ≡ o → (text ≡ key → P) → (IsSome rest → P)
    → IsSome (match_ordering o rest (Some value) rest) → P
found_at Equal text key value rest P order here later some = here (exact_bytes text key order)
found_at o text key value rest P order here later some = search rules

pub found_later : (o : Ordering) (value : Data) (rest : Option Data) → IsSome rest
    → IsSome (match_ordering o rest (Some value) rest)
found_later o value rest some = search rules

-- no text comes before itself
pub not_itself : (text : List ℕ) → ¬ ComesBefore text text
not_itself text before =
    let tied : slice_cmp nat_cmp text text ≡ Equal = tied_itself nat_list_cmp_total text in
    cc (before, tied)

before_decided : (a b : List ℕ) (o : Ordering) → slice_cmp nat_cmp a b ≡ o
    → IsDecided (ComesBefore a b)
before_decided a b Less order = inl order
before_decided a b o order = inr (λ before. cc (before, order))

-- the table has a first unknown key, or none
abbrev FirstOrNone : List (List ℕ) → Members → Type 0
FirstOrNone known members = HasOnlyKeys known members
    ⊎ ((first : List ℕ) × IsFirstUnknownKey known members first)

module _ (known : List (List ℕ)) (key : List ℕ) (value : Data) (others : Members) where
  abbrev Whole : Members
  Whole = member key value others

  -- an unknown key of the whole is this one, or one of the others
  unknown_of : (text : List ℕ) → IsUnknownKey known Whole text
      → ((text ≡ key) × ¬ IsOneOf known key) ⊎ IsUnknownKey known others text
  unknown_of text unknown = found_at (slice_cmp nat_cmp text key) text key value
      (get_member text others)
      (((text ≡ key) × ¬ IsOneOf known key) ⊎ IsUnknownKey known others text) refl
      (λ same. inl (same, rw same at unknown.1)) (λ some. inr (some, unknown.1)) unknown.0

  still_unknown : (text : List ℕ) → IsUnknownKey known others text → IsUnknownKey known Whole text
  still_unknown text unknown =
      (found_later (slice_cmp nat_cmp text key) value (get_member text others) unknown.0, unknown.1)

  this_unknown : ¬ IsOneOf known key → IsUnknownKey known Whole key
  this_unknown not_known = (rw (tied_itself nat_list_cmp_total key) refl, not_known)

  -- no other unknown key comes before this one
  this_first : ¬ IsOneOf known key
      → ((text : List ℕ) → IsUnknownKey known others text → ¬ ComesBefore text key)
      → IsFirstUnknownKey known Whole key
  this_first not_known none = record {
    is_unknown = this_unknown not_known;
    is_first = λ text unknown before. elim (unknown_of text unknown) [
      | inl same ↦ not_itself key (rw same.0 at before)
      | inr later ↦ none text later before
    ];
  }

  -- the first of the others stays the first, where this one is known or doesn't come before it
  other_first : (first : List ℕ) → IsFirstUnknownKey known others first
      → (¬ IsOneOf known key → ¬ ComesBefore key first) → IsFirstUnknownKey known Whole first
  other_first first is none = record {
    is_unknown = still_unknown first is.is_unknown;
    is_first = λ text unknown before. elim (unknown_of text unknown) [
      | inl same ↦ none same.1 (rw same.0 at before)
      | inr later ↦ is.is_first text later before
    ];
  }

  one_more : IsDecided (IsOneOf known key) → FirstOrNone known others → FirstOrNone known Whole
  one_more (inl is_known) (inl only) = inl (λ text unknown. elim (unknown_of text unknown) [
    | inl same ↦ same.1 is_known
    | inr later ↦ only text later
  ])
  one_more (inr not_known) (inl only) =
      inr (key, this_first not_known (λ text unknown. absurd (only text unknown)))
  one_more (inl is_known) (inr (first, is)) =
      inr (first, other_first first is (λ not_known. absurd (not_known is_known)))
  one_more (inr not_known) (inr (first, is)) =
      elim (before_decided key first (slice_cmp nat_cmp key first) refl) [
        | inl before ↦ inr (
          key,
          this_first not_known (λ text unknown also.
              is.is_first text unknown (nat_list_cmp_total.trans text key first also before)),
        )
        | inr after ↦ inr (first, other_first first is (λ not_known. after))
      ]

first_or_none : (known : List (List ℕ)) (members : Members) → FirstOrNone known members
first_or_none known no_members = inl (λ key unknown. cc unknown.0)
first_or_none known (member key value others) = one_more known key value others
    (known_decided known key) (first_or_none known others)

pub only_or_first : (known expected : List (List ℕ)) (members : Members)
    → HasOnlyKeys known members
    ⊎ ((f : Fault) × ((key : List ℕ) × IsFirstUnknownKey known members key
    × (f ≡ unknown_key key expected)))
only_or_first known expected members = elim (first_or_none known members) [
  | inl only ↦ inl only
  | inr (key, first) ↦ inr (unknown_key key expected, (key, first, refl))
]

-- the first unknown key is the fault of its table
abbrev pub keys_check : List (List ℕ) → List (List ℕ) → Check Members
keys_check known expected = record {
  passes = HasOnlyKeys known;
  faults = λ members fault. (key : List ℕ) × IsFirstUnknownKey known members key
      × (fault ≡ unknown_key key expected);
  passes_or_faults = only_or_first known expected;
  one_fault = λ members f g a b. a.2
      ∙ ap (λ key. unknown_key key expected) (one_first a.0 b.0 a.1 b.1) ∙ sym b.2;
  never_both = λ members f none a. none a.0 a.1.is_unknown;
}
