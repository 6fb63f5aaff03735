-- Values that have the same leaves.
use Rattle.std.proofs.Common.{◌≡◌, ◌↔◌, ℕ, List, [], ◌∷◌, Option, Some, None, IsSome, refl, sym, ap, ◌∙◌, ◌⊎◌, inl, inr}
use Rattle.toml.specs.Data.{array, boolean, Data, datetime, float, get_member, integer, member, Members, no_members, string, table}
use Rattle.nextest_config_profiles.specs.Alike.{AreAlike}
use Rattle.nextest_config_profiles.specs.Merged.{HasLeaf, leaf_of}
use Rattle.nextest_config_profiles.specs.Said.{Path, said_at, said_here}
use Rattle.nextest_config_profiles.proofs.Members.{first_member}

-- each value has a leaf
pub some_leaf : (value : Data) → (path : Path) × (leaf : Data) × HasLeaf value path leaf
some_leaf (table no_members) = ([], table no_members, refl)
some_leaf (table (member key value rest)) =
    let below = some_leaf value in
    (key ∷ below.0, below.1, ap (λ found. leaf_of (said_at below.0 found)) (first_member key value rest) ∙ below.2)
some_leaf (string text) = ([], string text, refl)
some_leaf (integer number) = ([], integer number, refl)
some_leaf (float number) = ([], float number, refl)
some_leaf (boolean truth) = ([], boolean truth, refl)
some_leaf (datetime time) = ([], datetime time, refl)
some_leaf (array items) = ([], array items, refl)

pub alike_back : (v w : Data) → AreAlike v w → AreAlike w v
alike_back v w alike path value = let both = alike path value in (both.1, both.0)

-- ---- what is found at a key

-- nothing in both, or values with the same leaves
abbrev pub AlikeFound : Option Data → Option Data → Type 0
AlikeFound None None = Unit {0}
AlikeFound None (Some w) = ⊥
AlikeFound (Some v) None = ⊥
AlikeFound (Some v) (Some w) = AreAlike v w

abbrev pub AlikeMembers : Members → Members → Type 0
AlikeMembers a b = (key : List ℕ) → AlikeFound (get_member key a) (get_member key b)

-- the same leaves below
abbrev SameBelow : Option Data → Option Data → Type 0
SameBelow found other = (path : Path) (value : Data) → leaf_of (said_at path found) ≡ Some value ↔ leaf_of (said_at path other) ≡ Some value

no_leaf : (path : Path) (value : Data) → leaf_of (said_at path None) ≡ Some value → ⊥
no_leaf [] value h = cc h
no_leaf (key ∷ path) value h = cc h

found_alike : (found other : Option Data) → SameBelow found other → AlikeFound found other
found_alike None None same = tt
found_alike None (Some w) same = let leaf = some_leaf w in no_leaf leaf.0 leaf.1 ((same leaf.0 leaf.1).1 leaf.2)
found_alike (Some v) None same = let leaf = some_leaf v in no_leaf leaf.0 leaf.1 ((same leaf.0 leaf.1).0 leaf.2)
found_alike (Some v) (Some w) same = same

-- tables with the same leaves have members with the same leaves
pub members_alike : (a b : Members) → AreAlike (table a) (table b) → AlikeMembers a b
members_alike a b alike key = found_alike (get_member key a) (get_member key b) (λ path value. alike (key ∷ path) value)

-- one is there where the other is
pub found_too : (found other : Option Data) → AlikeFound found other → IsSome other → IsSome found
found_too None None alike there = there
found_too None (Some w) alike there = absurd alike
found_too (Some v) other alike there = refl

-- ---- values of one kind

-- a value that is no table is the one with its leaves
same_leaf : (v w : Data) → leaf_of (said_here v) ≡ Some v → AreAlike v w → leaf_of (said_here w) ≡ Some v
same_leaf v w is alike = (alike [] v).0 is

-- a leaf at the value itself is the value
itself : (w v : Data) → leaf_of (said_here w) ≡ Some v → w ≡ v
itself (table (member key value rest)) v h = absurd (cc h)
itself w v h = cc h

-- a value with the leaves of another that has a leaf at itself
pub same_value : (v w : Data) → leaf_of (said_here v) ≡ Some v → AreAlike v w → w ≡ v
same_value v w is alike = itself w v (same_leaf v w is alike)

-- values with the same leaves are one, or tables with such members
pub alike_cases : (v w : Data) → AreAlike v w → (w ≡ v) ⊎ ((a b : Members) × (v ≡ table a) × (w ≡ table b) × AlikeMembers a b)
alike_cases (table a) (table b) alike = inr (a, b, refl, refl, members_alike a b alike)
alike_cases (table a) (string text) alike = inl (sym (same_value (string text) (table a) refl (alike_back (table a) (string text) alike)))
alike_cases (table a) (integer number) alike = inl (sym (same_value (integer number) (table a) refl (alike_back (table a) (integer number) alike)))
alike_cases (table a) (float number) alike = inl (sym (same_value (float number) (table a) refl (alike_back (table a) (float number) alike)))
alike_cases (table a) (boolean truth) alike = inl (sym (same_value (boolean truth) (table a) refl (alike_back (table a) (boolean truth) alike)))
alike_cases (table a) (datetime time) alike = inl (sym (same_value (datetime time) (table a) refl (alike_back (table a) (datetime time) alike)))
alike_cases (table a) (array items) alike = inl (sym (same_value (array items) (table a) refl (alike_back (table a) (array items) alike)))
alike_cases (string text) w alike = inl (same_value (string text) w refl alike)
alike_cases (integer number) w alike = inl (same_value (integer number) w refl alike)
alike_cases (float number) w alike = inl (same_value (float number) w refl alike)
alike_cases (boolean truth) w alike = inl (same_value (boolean truth) w refl alike)
alike_cases (datetime time) w alike = inl (same_value (datetime time) w refl alike)
alike_cases (array items) w alike = inl (same_value (array items) w refl alike)

-- what tells tables from nothing tells values with the same leaves alike
pub told_alike : {K : Type 0} (accessor : Data → Option K) → ((members : Members) → accessor (table members) ≡ None)
    → (v w : Data) → AreAlike v w → accessor v ≡ accessor w
told_alike accessor tables v w alike = elim (alike_cases v w alike) [
  | inl same ↦ sym (ap accessor same)
  | inr (a, b, is, other, members) ↦ ap accessor is ∙ tables a ∙ sym (tables b) ∙ sym (ap accessor other)
]
