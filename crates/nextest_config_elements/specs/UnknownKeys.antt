-- The keys of a table that a setting doesn't know.
use Rattle.std.specs.Prelude.{◌≡◌, ℕ, List, [], ◌∷◌, ◌⊎◌, IsSome}
use Rattle.std.proofs.Common.{Less, nat_cmp}
use Rattle.std.specs.Cmp.Lexicographic.{slice_cmp}
use Rattle.toml.specs.Data.{Members, get_member}

-- the text is one of these
abbrev pub IsOneOf : List (List ℕ) → List ℕ → Type 0
IsOneOf [] text = ⊥
IsOneOf (known ∷ rest) text = (text ≡ known) ⊎ IsOneOf rest text

-- the text is a key of the table, and none of the known ones
abbrev pub IsUnknownKey : List (List ℕ) → Members → List ℕ → Type 0
IsUnknownKey known members key = IsSome (get_member key members) × ¬ IsOneOf known key

-- the one text comes before the other in byte order
abbrev pub ComesBefore : List ℕ → List ℕ → Type 0
ComesBefore a b = slice_cmp nat_cmp a b ≡ Less

-- the key is unknown, and no unknown one comes before it
pub record IsFirstUnknownKey (known : List (List ℕ)) (members : Members) (key : List ℕ) : Type 0
  where
    pub is_unknown : IsUnknownKey known members key
    pub is_first : (other : List ℕ) → IsUnknownKey known members other → ¬ ComesBefore other key

-- the table has no unknown key
abbrev pub HasOnlyKeys : List (List ℕ) → Members → Type 0
HasOnlyKeys known members = (key : List ℕ) → ¬ IsUnknownKey known members key
