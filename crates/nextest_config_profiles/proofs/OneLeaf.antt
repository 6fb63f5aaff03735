-- A layer that has one leaf alone says nothing of the paths apart from it.
use Rattle.std.proofs.Common.{◌≡◌, ◌↔◌, ◌∙◌, ℕ, [], ◌∷◌, ◌++◌, Option, Some, None, ap, append-nil, refl, sym}
use Rattle.toml.specs.Data.{Data, get_member, member, no_members, table}
use Rattle.nextest_config_profiles.specs.Merged.{IsLeaf, Layers, leaf_of}
use Rattle.nextest_config_profiles.specs.OneLeaf.{AreApart, HasLeafAlone}
use Rattle.nextest_config_profiles.specs.Said.{bare, barred, branch, leaf, Path, Said, said_at, silent}
use Rattle.nextest_config_profiles.proofs.Alike.{some_leaf}
use Rattle.nextest_config_profiles.proofs.LeafLaws.{silent_layers}

-- below a table with keys stands a leaf
branch_leaf : (path : Path) (top : Option Data) → said_at path top ≡ branch → (rest : Path) × (value : Data) × (leaf_of (said_at (path ++ rest) top) ≡ Some value)
branch_leaf path None is = absurd (cc is)
branch_leaf [] (Some value) is = some_leaf value
branch_leaf (key ∷ path) (Some (table members)) is = branch_leaf path (get_member key members) is
branch_leaf (key ∷ path) (Some value) is = absurd (cc is)

-- where a value stands on the way, that is a leaf
barred_leaf : (path : Path) (top : Option Data) → said_at path top ≡ barred → (front rest : Path) × (value : Data) × (path ≡ front ++ rest) × (leaf_of (said_at front top) ≡ Some value)
barred_leaf path None is = absurd (cc is)
barred_leaf [] (Some (table (member key value rest))) is = absurd (cc is)
barred_leaf [] (Some value) is = absurd (cc is)
barred_leaf (key ∷ path) (Some (table members)) is =
    let (front, rest, value, whole, has) = barred_leaf path (get_member key members) is in
    (key ∷ front, rest, value, ap (λ keys. key ∷ keys) whole, has)
barred_leaf (key ∷ path) (Some value) is = ([], key ∷ path, value, refl, refl)

-- so nothing is said of a path apart from the one leaf
module _ (top : Data) (path other : Path) (alone : HasLeafAlone top path) (apart : AreApart path other) where
  no_leaf_at : (value : Data) → leaf_of (said_at other (Some top)) ≡ Some value → ⊥
  no_leaf_at value has = apart.0 [] (alone other value has ∙ sym (append-nil path))

  nothing_said : (said : Said) → said_at other (Some top) ≡ said → said_at other (Some top) ≡ silent
  nothing_said silent is = is
  nothing_said barred is =
      let (front, rest, value, whole, has) = barred_leaf other (Some top) is in
      absurd (apart.0 rest (whole ∙ ap (λ keys. keys ++ rest) (alone front value has)))
  nothing_said branch is =
      let (rest, value, has) = branch_leaf other (Some top) is in
      absurd (apart.1 rest (sym (alone (other ++ rest) value has)))
  nothing_said bare is = absurd (no_leaf_at (table no_members) (ap leaf_of is))
  nothing_said (leaf value) is = absurd (no_leaf_at value (ap leaf_of is))

pub others_stay : (layers : Layers) (top : Data) (path other : Path) → HasLeafAlone top path → AreApart path other
    → (p : ℕ) (v : Data) → IsLeaf (layers ++ Some top ∷ []) other p v ↔ IsLeaf layers other p v
others_stay layers top path other alone apart =
    silent_layers layers (Some top ∷ []) other (nothing_said top path other alone apart (said_at other (Some top)) refl, tt)
