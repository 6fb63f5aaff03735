-- Tables lie over one another key by key.
use Rattle.std.proofs.Common.{◌≡◌, ℕ, false, List, [], ◌∷◌, ◌++◌, Some, None, string_bytes, refl, sym, ap, ◌∙◌, inl, inr}
use Rattle.std.proofs.lemmas.Bool.{cases_Bool, false≢true}
use Rattle.std.specs.List.Sorted.{IsStrictlySortedBy}
use Rattle.std.specs.Map.{keys_of}
use Rattle.std.specs.String.{string_cmp}
use Rattle.toml.proofs.Views.{Entry}
use Rattle.toml.specs.Data.{Data, get_member, member, Members, no_members, table}
use Rattle.toml.specs.View.{members_view, view}
use Rattle.nextest_config_profiles.specs.Merging.{IsOver, over, Puts, seen, seen_at}
use Rattle.nextest_config_profiles.specs.Said.{bare, branch, Said, said_at, said_here, silent}
use Rattle.nextest_config_profiles.proofs.Members.{first_member, is_key, key_itself, last_member, not_before, one_key, other_last}

-- a value is seen, whatever lies below it
pub seen_value : (value : Data) → seen (said_here value) ≡ silent → ⊥
seen_value (table (member key value rest)) h = cc h
seen_value value h = cc h

bare_seen : (below : Said) → over below bare ≡ silent → ⊥
bare_seen silent h = cc h
bare_seen below h = cc h

value_over : (below : Said) (value : Data) → over below (said_here value) ≡ silent → ⊥
value_over below (table no_members) h = bare_seen below h
value_over below value h = cc h

-- a table at one of whose keys something is seen has a member
some_member : (key : List ℕ) (members : Members) → (seen_at [] (get_member key members) ≡ silent → ⊥)
    → said_here (table members) ≡ branch
some_member key no_members some = absurd (some refl)
some_member key (member name value rest) some = refl

-- what is seen at the first key of a table
first_seen : (key : List ℕ) (value : Data) (rest : Members) → seen_at [] (get_member key (member key value rest)) ≡ seen (said_here value)
first_seen key value rest = ap (seen_at []) (first_member key value rest)

tables_seen : (a b c : Members) → ((key : List ℕ) → IsOver (get_member key a) (get_member key b) (get_member key c))
    → seen (said_here (table c)) ≡ over (seen (said_here (table a))) (said_here (table b))
tables_seen a (member key value rest) c each =
    let here = each key [] ∙ ap (λ found. over (seen_at [] (get_member key a)) (said_at [] found)) (first_member key value rest) in
    ap seen (some_member key c (λ none. value_over (seen_at [] (get_member key a)) value (sym here ∙ none)))
tables_seen (member key value rest) no_members c each =
    ap seen (some_member key c (λ none. seen_value value (sym (first_seen key value rest) ∙ sym (each key []) ∙ none)))
tables_seen no_members no_members no_members each = refl
tables_seen no_members no_members (member key value rest) each =
    absurd (seen_value value (sym (first_seen key value rest) ∙ each key []))

-- what lies over one another at each key does so as tables
pub tables_over : (a b c : Members) → ((key : List ℕ) → IsOver (get_member key a) (get_member key b) (get_member key c))
    → IsOver (Some (table a)) (Some (table b)) (Some (table c))
tables_over a b c each [] = tables_seen a b c each
tables_over a b c each (key ∷ path) = each key path

-- ---- one more member

module _ (done : List Entry) (e : Entry) (more : List Entry) (sorted : IsStrictlySortedBy string_cmp (keys_of (done ++ e ∷ more)))
    (old now between after : Members) (merged : Data)
    (each : (key : List ℕ) → IsOver (get_member key old) (get_member key (members_view done)) (get_member key now))
    (lies : IsOver (get_member (string_bytes e.0) now) (Some (view e.1)) (Some merged))
    (removed : (key : List ℕ) → is_key key (string_bytes e.0) ≡ false → get_member key between ≡ get_member key now)
    (puts : Puts (string_bytes e.0) merged between after) where
  not_yet : get_member (string_bytes e.0) (members_view done) ≡ None
  not_yet = not_before done e more sorted

  at_new : IsOver (get_member (string_bytes e.0) old) (get_member (string_bytes e.0) (members_view (done ++ e ∷ []))) (get_member (string_bytes e.0) after)
  at_new path =
      ap (seen_at path) puts.here ∙ lies path
      ∙ ap (λ below. over below (said_at path (Some (view e.1)))) (each (string_bytes e.0) path ∙ ap (λ found. over (seen_at path (get_member (string_bytes e.0) old)) (said_at path found)) not_yet)
      ∙ ap (λ found. over (seen_at path (get_member (string_bytes e.0) old)) (said_at path found)) (sym (last_member done e not_yet))

  at_other : (key : List ℕ) → is_key key (string_bytes e.0) ≡ false
      → IsOver (get_member key old) (get_member key (members_view (done ++ e ∷ []))) (get_member key after)
  at_other key apart path =
      ap (seen_at path) (puts.others key (λ same. told_apart key same apart) ∙ removed key apart) ∙ each key path
      ∙ ap (λ found. over (seen_at path (get_member key old)) (said_at path found)) (sym (other_last key done e apart))
    where
      told_apart : (key : List ℕ) → key ≡ string_bytes e.0 → is_key key (string_bytes e.0) ≡ false → ⊥
      told_apart key same apart = false≢true (sym apart ∙ (ap (λ k. is_key k (string_bytes e.0)) same ∙ key_itself (string_bytes e.0)))

  pub one_more : (key : List ℕ) → IsOver (get_member key old) (get_member key (members_view (done ++ e ∷ []))) (get_member key after)
  one_more key = elim (cases_Bool (is_key key (string_bytes e.0))) [
    | inl same ↦ rw (one_key key (string_bytes e.0) same) at_new
    | inr apart ↦ at_other key apart
  ]
