-- What layers come to that lie over one another is what the selection among them gives.
use Rattle.std.proofs.Common.{◌≡◌, ◌⊎◌, ℕ, suc, List, [], ◌∷◌, ◌++◌, Some, refl, sym, ap, ◌∙◌, inl, inr}
use Rattle.std.specs.List.{AllByRecursion}
use Rattle.std.specs.Prelude.{unwrap_or}
use Rattle.toml.specs.Data.{Data, no_members, table}
use Rattle.nextest_config_profiles.specs.Merged.{leaf_of}
use Rattle.nextest_config_profiles.specs.Merging.{over, seen}
use Rattle.nextest_config_profiles.specs.Said.{bare, barred, branch, leaf, Said, silent}
use Rattle.nextest_config_profiles.specs.Selection.{EndsIn, IsEmptied, IsEmpty, IsLast, IsLeafAmong, IsValue}

-- what is seen where layers that say these lie over one another
abbrev pub all_over : Said → List Said → Said
all_over below [] = below
all_over below (said ∷ rest) = all_over (over below said) rest

pub all_over_both : (below : Said) (xs ys : List Said) → all_over below (xs ++ ys) ≡ all_over (all_over below xs) ys
all_over_both below [] ys = refl
all_over_both below (x ∷ xs) ys = all_over_both (over below x) xs ys

abbrev AllSilent : List Said → Type 0
AllSilent = AllByRecursion (λ said. said ≡ silent)

stays : (below : Said) (all : List Said) → AllSilent all → all_over below all ≡ below
stays below [] h = refl
stays below (said ∷ rest) h = rw h.0 (stays below rest h.1)

-- ---- the last one decides

shifted : (first : Said) (rest : List Said) (position : ℕ) (said : Said) → IsLast rest position said → IsLast (first ∷ rest) (suc position) said
shifted first rest position said last = record {
  below = first ∷ last.below;
  above = last.above;
  whole = ap (λ all. first ∷ all) last.whole;
  place = ap suc last.place;
  silent_above = last.silent_above;
}

-- what is seen was there, and all are silent; or the last that isn't says it
module _ (target : Said) (decides : (below said : Said) → over below said ≡ target → ((said ≡ silent) × (below ≡ target)) ⊎ (said ≡ target)) where
  pub last_on : (below : Said) (all : List Said) → all_over below all ≡ target
      → ((below ≡ target) × AllSilent all) ⊎ ((position : ℕ) × IsLast all position target)
  last_on below [] h = inl (h, tt)
  last_on below (said ∷ rest) h = elim (last_on (over below said) rest h) [
    | inl was ↦ elim (decides below said was.0) [
      | inl kept ↦ inl (kept.1, (kept.0, was.1))
      | inr here ↦ inr (0, record { below = []; above = rest; whole = ap (λ first. first ∷ rest) here; place = refl; silent_above = was.1 })
    ]
    | inr later ↦ inr (suc later.0, shifted said rest later.0 target later.1)
  ]

leaf_decides : (value : Data) (below said : Said) → over below said ≡ leaf value → ((said ≡ silent) × (below ≡ leaf value)) ⊎ (said ≡ leaf value)
leaf_decides value below silent h = inl (refl, h)
leaf_decides value below (leaf other) h = inr h
leaf_decides value silent bare h = absurd (cc h)
leaf_decides value below said h = absurd (cc h)

bare_decides : (below said : Said) → over below said ≡ bare → ((said ≡ silent) × (below ≡ bare)) ⊎ (said ≡ bare)
bare_decides below silent h = inl (refl, h)
bare_decides below bare h = inr refl
bare_decides below said h = absurd (cc h)

-- ---- an empty table that is left

abbrev IsNoBranch : Said → Type 0
IsNoBranch said = said ≡ branch → ⊥

over_bare : (below : Said) → IsNoBranch below → over below bare ≡ bare
over_bare branch h = absurd (h refl)
over_bare below h = refl

-- over a table with keys, empty ones leave it
keeps_branch : (all : List Said) → AllByRecursion IsEmpty all → all_over branch all ≡ branch
keeps_branch [] h = refl
keeps_branch (silent ∷ rest) h = keeps_branch rest h.1
keeps_branch (bare ∷ rest) h = keeps_branch rest h.1
keeps_branch (said ∷ rest) h = absurd h.0

-- and over anything else they leave none
makes_no_branch : (below : Said) (all : List Said) → IsNoBranch below → AllByRecursion IsEmpty all → IsNoBranch (all_over below all)
makes_no_branch below [] none h = none
makes_no_branch below (silent ∷ rest) none h = makes_no_branch below rest none h.1
makes_no_branch below (bare ∷ rest) none h = makes_no_branch (over below bare) rest (λ e. cc (sym (over_bare below none) ∙ e)) h.1
makes_no_branch below (said ∷ rest) none h = absurd h.0

-- one more layer below those of which each above the last value is empty
emptied_below : (below said : Said) (rest old recent : List Said) → all_over (over below said) rest ≡ bare
    → rest ≡ old ++ recent → EndsIn IsValue old → AllByRecursion IsEmpty recent → IsEmptied (said ∷ rest)
emptied_below below silent rest [] recent h whole ends empty =
    record { old = []; recent = silent ∷ recent; whole = ap (λ all. silent ∷ all) whole; value_last = tt; empty = (tt, empty) }
emptied_below below bare rest [] recent h whole ends empty =
    record { old = []; recent = bare ∷ recent; whole = ap (λ all. bare ∷ all) whole; value_last = tt; empty = (tt, empty) }
emptied_below below barred rest [] recent h whole ends empty =
    record { old = barred ∷ []; recent = recent; whole = ap (λ all. barred ∷ all) whole; value_last = tt; empty = empty }
emptied_below below (leaf value) rest [] recent h whole ends empty =
    record { old = leaf value ∷ []; recent = recent; whole = ap (λ all. leaf value ∷ all) whole; value_last = tt; empty = empty }
emptied_below below branch rest [] recent h whole ends empty =
    absurd (cc (sym (keeps_branch recent empty) ∙ ap (all_over branch) (sym whole) ∙ h))
emptied_below below said rest (first ∷ old) recent h whole ends empty =
    record { old = said ∷ first ∷ old; recent = recent; whole = ap (λ all. said ∷ all) whole; value_last = ends; empty = empty }

pub emptied_on : (below : Said) (all : List Said) → all_over below all ≡ bare → IsEmptied all
emptied_on below [] h = record { old = []; recent = []; whole = refl; value_last = tt; empty = tt }
emptied_on below (said ∷ rest) h =
    let later = emptied_on (over below said) rest h in
    emptied_below below said rest later.old later.recent h later.whole later.value_last later.empty

value_no_branch : (below : Said) (old : List Said) → IsNoBranch below → EndsIn IsValue old → IsNoBranch (all_over below old)
value_no_branch below [] none ends = none
value_no_branch below (barred ∷ []) none ends = λ e. cc e
value_no_branch below (leaf value ∷ []) none ends = λ e. cc e
value_no_branch below (said ∷ []) none ends = absurd ends
value_no_branch below (said ∷ other ∷ rest) none ends = ends_later (over below said) other rest ends
  where
    ends_later : (below other : Said) (rest : List Said) → EndsIn IsValue (other ∷ rest) → IsNoBranch (all_over below (other ∷ rest))
    ends_later below barred [] ends = λ e. cc e
    ends_later below (leaf value) [] ends = λ e. cc e
    ends_later below said [] ends = absurd ends
    ends_later below other (next ∷ rest) ends = ends_later (over below other) next rest ends

-- ---- leaves

-- what is seen is this leaf
abbrev pub IsSeenLeaf : Said → Data → Type 0
IsSeenLeaf said value = (said ≡ leaf value) ⊎ ((said ≡ bare) × (value ≡ table no_members))

pub leaf_selected : (all : List Said) (value : Data) → IsSeenLeaf (all_over silent all) value → (position : ℕ) × IsLeafAmong all position value
leaf_selected all value (inl seen) = elim (last_on (leaf value) (leaf_decides value) silent all seen) [
  | inl was ↦ absurd (cc was.0)
  | inr last ↦ (last.0, inl last.1)
]
leaf_selected all value (inr seen) = elim (last_on bare bare_decides silent all seen.0) [
  | inl was ↦ absurd (cc was.0)
  | inr last ↦ (last.0, inr (last.1, emptied_on silent all seen.0, seen.1))
]

-- over an empty table that is left, nothing else is seen
pub bare_left : (all : List Said) (position : ℕ) → IsLast all position bare → IsEmptied all → all_over silent all ≡ bare
bare_left all position last emptied =
    let before = all_over silent last.below in
    let ends : all_over silent all ≡ over before bare =
    ap (all_over silent) last.whole ∙ all_over_both silent last.below (bare ∷ last.above) ∙ stays (over before bare) last.above last.silent_above in
    let old : IsNoBranch (all_over silent emptied.old) = value_no_branch silent emptied.old (λ e. cc e) emptied.value_last in
    let none : IsNoBranch (all_over silent all) =
    λ e. makes_no_branch (all_over silent emptied.old) emptied.recent old emptied.empty (sym (all_over_both silent emptied.old emptied.recent) ∙ ap (all_over silent) (sym emptied.whole) ∙ e) in
    ends ∙ over_bare before (λ is_branch. none (ends ∙ rw is_branch refl))

pub selected_leaf : (all : List Said) (position : ℕ) (value : Data) → IsLeafAmong all position value → IsSeenLeaf (all_over silent all) value
selected_leaf all position value (inl last) = inl (
    ap (all_over silent) last.whole ∙ all_over_both silent last.below (leaf value ∷ last.above) ∙ stays (leaf value) last.above last.silent_above)
selected_leaf all position value (inr (last, emptied, is)) = inr (bare_left all position last emptied, is)

pub seen_leaf : (said : Said) (value : Data) → leaf_of said ≡ Some value → IsSeenLeaf (seen said) value
seen_leaf bare value h = inr (refl, sym (ap (λ found. unwrap_or found value) h))
seen_leaf (leaf other) value h = inl (ap (λ found. leaf (unwrap_or found value)) h)
seen_leaf said value h = absurd (cc h)

pub none_seen : (value : Data) → IsSeenLeaf silent value → ⊥
none_seen value (inl h) = cc h
none_seen value (inr h) = cc h.0

pub leaf_seen : (said : Said) (value : Data) → IsSeenLeaf (seen said) value → leaf_of said ≡ Some value
leaf_seen branch value (inl h) = absurd (cc h)
leaf_seen branch value (inr h) = absurd (cc h.0)
leaf_seen bare value (inl h) = absurd (cc h)
leaf_seen bare value (inr h) = ap Some (sym h.1)
leaf_seen (leaf other) value (inl h) = ap leaf_of h
leaf_seen (leaf other) value (inr h) = absurd (cc h.0)
leaf_seen said value h = absurd (none_seen value h)
