-- The links of profiles: by files in reading order, and by the entries of a table.
use Rattle.std.proofs.Common.{◌≡◌, ◌≢◌, ◌⊎◌, ◌↔◌, ℕ, suc, ◌+◌, false, cond, List, [], ◌∷◌, ◌++◌, Ordering, Less, Equal, Greater, Option, Some, None, String, Global, BTreeMap, Bor, length, nat_cmp, option_and_then, option_map, string_bytes, refl, sym, ap, subst, ◌∙◌, inl, inr, arith}
use Rattle.std.proofs.lemmas.Bool.{cases_Bool, true≢false}
use Rattle.std.proofs.lemmas.Map.Lookups.{exact_bytes}
use Rattle.std.proofs.lemmas.Map.Text.{btree_map_updates_str}
use Rattle.std.proofs.lemmas.Slice.Eq.{bytes_eq-Decides}
use Rattle.std.specs.BTreeMap.{get, UpdatesBy}
use Rattle.std.specs.Cmp.Lexicographic.{slice_cmp}
use Rattle.std.specs.List.{AllByRecursion}
use Rattle.std.specs.Ordering.{match_ordering}
use Rattle.std.specs.Str.{bytes_eq}
use Rattle.std.specs.String.{string_cmp}
use Rattle.toml.proofs.Views.{Entry, view-lookup}
use Rattle.toml.specs.Data.{as_str, as_table, Data, get_member}
use Rattle.toml.specs.View.{members_view, table_view, view}
use Rattle.toml.specs.declared.value.Value.{Value}
use Rattle.nextest_config_lint.specs.Defined.{default_profile, inherits_in, inherits_key, IsCounting, IsParent, ListFile}
use Rattle.nextest_config_lint.specs.Inheritance.{AreLinksOf, inherits_among, IsLink, link_at, link_in, link_over, link_view, LinkView}
use Rattle.nextest_config_lint.specs.declared.inheritance.Link.{Link}

-- ---- the link of a profile by files

module _ (profile : List ℕ) where
  -- after files, of which the first stands at this position
  abbrev pub link_after : ℕ → List ListFile → Option LinkView → Option LinkView
  link_after position [] earlier = earlier
  link_after position (file ∷ files) earlier = link_after (suc position) files (link_over position (inherits_in profile file) earlier)

  none_after : (position : ℕ) (files : List ListFile) (earlier : Option LinkView) → AllByRecursion (λ file. inherits_in profile file ≡ None) files → link_after position files earlier ≡ earlier
  none_after position [] earlier none = refl
  none_after position (file ∷ files) earlier none = rw none.0 (none_after (suc position) files earlier none.1)

  last_after : (first position : ℕ) (before : List ListFile) (file : ListFile) (after : List ListFile) (value : Data) (earlier : Option LinkView) → first + length before ≡ position
      → inherits_in profile file ≡ Some value → AllByRecursion (λ later. inherits_in profile later ≡ None) after
      → link_after first (before ++ (file ∷ after)) earlier ≡ option_map (link_at position) (as_str value)
  last_after first position [] file after value earlier place here none =
      let same : first ≡ position = omega (arith, place) in
      ap (λ (found : Option Data). link_after (suc first) after (link_over first found earlier)) here
      ∙ none_after (suc first) after (option_map (link_at first) (as_str value)) none ∙ ap (λ (k : ℕ). option_map (link_at k) (as_str value)) same
  last_after first position (other ∷ before) file after value earlier place here none =
      last_after (suc first) position before file after value (link_over first (inherits_in profile other) earlier) (omega (arith, place)) here none

  counts : (files : List ListFile) (position : ℕ) (value : Data) → IsCounting files profile position value → link_after 0 files None ≡ option_map (link_at position) (as_str value)
  counts files position value counting =
      ap (λ (l : List ListFile). link_after 0 l None) counting.whole
      ∙ last_after 0 position counting.before counting.file counting.after value None (omega (arith, counting.place)) counting.here counting.none_after

  one_before : (file : ListFile) (files : List ListFile) (position : ℕ) (value : Data) → IsCounting files profile position value → IsCounting (file ∷ files) profile (suc position) value
  one_before file files position value counting =
      record { before = file ∷ counting.before; file = counting.file; after = counting.after; whole = ap (λ (l : List ListFile). file ∷ l) counting.whole; place = ap suc counting.place; here = counting.here; none_after = counting.none_after }

  -- no file has `inherits`, or a value of it counts
  some_counts : (files : List ListFile) → AllByRecursion (λ file. inherits_in profile file ≡ None) files ⊎ ((position : ℕ) × (value : Data) × IsCounting files profile position value)
  some_counts [] = inl tt
  some_counts (file ∷ files) = elim (some_counts files) [
    | inl none ↦ here none (inherits_in profile file) refl
    | inr (position, value, later) ↦ inr (suc position, value, one_before file files position value later)
  ]
    where
      here : AllByRecursion (λ file. inherits_in profile file ≡ None) files → (value : Option Data) → inherits_in profile file ≡ value
          → AllByRecursion (λ file. inherits_in profile file ≡ None) (file ∷ files) ⊎ ((position : ℕ) × (value : Data) × IsCounting (file ∷ files) profile position value)
      here none None is = inl (is, none)
      here none (Some value) is = inr (0, value, record { before = []; file = file; after = files; whole = refl; place = refl; here = is; none_after = none })

  reported : (position : ℕ) (text : Option (List ℕ)) (link : LinkView) → option_map (link_at position) text ≡ Some link → (position ≡ link.position) × (text ≡ Some link.parent)
  reported position None link is = absurd (cc is)
  reported position (Some parent) link is =
      let same : link_at position parent ≡ link = cc is in
      (ap (λ (l : LinkView). l.position) same, ap (λ (l : LinkView). Some l.parent) same)

  pub is_link : (files : List ListFile) (link : LinkView) → profile ≢ default_profile → (link_after 0 files None ≡ Some link) ↔ IsLink files profile link
  is_link files link other = (
    λ is. (
      other,
      elim (some_counts files) [
        | inl none ↦ absurd (cc (is, none_after 0 files None none))
        | inr (position, value, counting) ↦
            let (place, text) = reported position (as_str value) link (sym (counts files position value counting) ∙ is) in
            (value, subst (λ (k : ℕ). IsCounting files profile k value) place counting, text)
      ],
    ),
    λ (_, (value, counting, text)). counts files link.position value counting ∙ ap (option_map (link_at link.position)) text,
  )

module _ {files : List ListFile} {profile : List ℕ} where
  pub is_parent : {link : LinkView} → IsLink files profile link → IsParent files profile link.parent
  is_parent {link} (other, (value, counting, text)) = (other, (link.position, value, counting, text))

  pub link_to : {parent : List ℕ} → IsParent files profile parent → (position : ℕ) × IsLink files profile (link_at position parent)
  link_to (other, (position, value, counting, text)) = (position, (other, (value, counting, text)))

  -- a profile has one parent, at one position
  pub one_parent : {parent other : List ℕ} → IsParent files profile parent → IsParent files profile other → parent ≡ other
  one_parent {parent} {other} first second =
      let (i, one) = link_to first in
      let (j, another) = link_to second in
      let same : Some (link_at i parent) ≡ Some (link_at j other) = sym ((is_link profile files _ one.0).1 one) ∙ (is_link profile files _ one.0).1 another in
      cc same

  pub one_place : {link : LinkView} {position : ℕ} {value : Data} → IsLink files profile link → IsCounting files profile position value → link.position ≡ position
  one_place {link} {position} {value} is counting =
      sym (reported profile position (as_str value) link (sym (counts profile files position value counting) ∙ (is_link profile files link is.0).1 is)).0

-- without the link of `default`
pub all_links : (files : List ListFile) (links : List ℕ → Option LinkView) → ((profile : List ℕ) → links profile ≡ cond (bytes_eq default_profile profile) None (link_after profile 0 files None)) → AreLinksOf files links
all_links files links are profile link = elim (cases_Bool (bytes_eq default_profile profile)) [
  | inl same ↦
      let none : links profile ≡ None = are profile ∙ rw same refl in
      (λ is. absurd (cc (is, none)), λ is. absurd (is.0 (sym ((bytes_eq-Decides default_profile profile).0 same))))
  | inr other ↦
      let link_is : links profile ≡ link_after profile 0 files None = are profile ∙ rw other refl in
      let apart : profile ≢ default_profile = λ same. true≢false (sym ((bytes_eq-Decides default_profile profile).1 (sym same)) ∙ other) in
      (λ is. (is_link profile files link apart).0 (sym link_is ∙ is), λ is. link_is ∙ (is_link profile files link apart).1 is)
]

-- ---- the link of a profile by the entries of a table

module _ (position : ℕ) (profile : List ℕ) where
  -- after entries of a table
  abbrev pub link_after_entries : List Entry → Option LinkView → Option LinkView
  link_after_entries [] earlier = earlier
  link_after_entries (entry ∷ rest) earlier =
      link_after_entries rest (cond (bytes_eq (string_bytes entry.0) profile) (link_over position (option_and_then (get_member inherits_key) (as_table (view entry.1))) earlier) earlier)

  module _ (held : BTreeMap (String Global) Value) where
    abbrev of_table : Option LinkView → Option LinkView
    of_table earlier = link_over position (inherits_among profile (table_view held)) earlier

    abbrev AreHeld : List Entry → Type 0
    AreHeld entries = AllByRecursion (λ entry. get string_cmp held entry.0 ≡ Some entry.1) entries

    here : (entry : Entry) → get string_cmp held entry.0 ≡ Some entry.1 → string_bytes entry.0 ≡ profile → option_and_then (get_member inherits_key) (as_table (view entry.1)) ≡ inherits_among profile (table_view held)
    here entry at same =
        let found : get_member (string_bytes entry.0) (table_view held) ≡ Some (view entry.1) = sym (view-lookup (string_bytes entry.0) held.entries) ∙ ap (option_map view) at in
        let of_profile : get_member profile (table_view held) ≡ Some (view entry.1) = subst (λ (name : List ℕ). get_member name (table_view held) ≡ Some (view entry.1)) same found in
        rw of_profile refl

    once : (value : Option Data) (earlier : Option LinkView) → link_over position value (link_over position value earlier) ≡ link_over position value earlier
    once None earlier = refl
    once (Some value) earlier = refl

    none_more : (entries : List Entry) (earlier : Option LinkView) → AreHeld entries → link_after_entries entries (of_table earlier) ≡ of_table earlier
    none_more [] earlier at = refl
    none_more (entry ∷ rest) earlier at = elim (cases_Bool (bytes_eq (string_bytes entry.0) profile)) [
      | inl same ↦ rw (same, here entry at.0 ((bytes_eq-Decides (string_bytes entry.0) profile).0 same), once (inherits_among profile (table_view held)) earlier) (none_more rest earlier at.1)
      | inr other ↦ rw other (none_more rest earlier at.1)
    ]

    later : (name : List ℕ) (value found : Option Data) (order : Ordering) → slice_cmp nat_cmp profile name ≡ order → bytes_eq name profile ≡ false → match_ordering order found value found ≡ found
    later name value found Less is other = refl
    later name value found Equal is other = absurd (true≢false (sym ((bytes_eq-Decides name profile).1 (sym (exact_bytes profile name is))) ∙ other))
    later name value found Greater is other = refl

    pub after_all : (entries : List Entry) (earlier : Option LinkView) → AreHeld entries → get_member profile (members_view entries) ≡ get_member profile (table_view held)
        → link_after_entries entries earlier ≡ of_table earlier
    after_all [] earlier at same = rw (sym same) refl
    after_all (entry ∷ rest) earlier at same = elim (cases_Bool (bytes_eq (string_bytes entry.0) profile)) [
      | inl here_it_is ↦ rw (here_it_is, here entry at.0 ((bytes_eq-Decides (string_bytes entry.0) profile).0 here_it_is)) (none_more rest earlier at.1)
      | inr other ↦ rw other (after_all rest earlier at.1 (sym (later (string_bytes entry.0) (Some (view entry.1)) (get_member profile (members_view rest)) (slice_cmp nat_cmp profile (string_bytes entry.0)) refl other) ∙ same))
    ]

-- what is kept after a change at a name
pub link_updates : (name : List ℕ) (old new : BTreeMap (Bor (List ℕ)) Link) (link : Option Link) → UpdatesBy (λ x y. slice_cmp nat_cmp x.now y.now) (λ k. slice_cmp nat_cmp name k.now) old new link
    → (other : List ℕ) → link_in new other ≡ cond (bytes_eq name other) (option_map link_view link) (link_in old other)
link_updates name old new link updates other =
    ap (option_map link_view) (btree_map_updates_str name old new link updates other)
    ∙ elim (cases_Bool (bytes_eq name other)) [ inl same ↦ rw same refl | inr apart ↦ rw apart refl ]
