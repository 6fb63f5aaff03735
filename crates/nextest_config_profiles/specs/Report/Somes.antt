-- What keys have that may have nothing.
use Rattle.std.specs.Prelude.{◌≡◌, List, [], ◌∷◌, flat_map, Option, Some, None}
use Rattle.std.specs.List.{AllZip}

-- the list of what is there: of one, or of none
abbrev pub some_list : {A : Type 0} → Option A → List A
some_list None = []
some_list (Some x) = x ∷ []

-- those of a list that are there, in their order
abbrev pub somes : {A : Type 0} → List (Option A) → List A
somes all = flat_map some_list all

-- what the keys have, in their order, where each has this or nothing
pub record AreSomes {K A : Type 0} (Has : K → Option A → Type 0) (keys : List K) (all : List A)
    : Type 0 where
  pub each : List (Option A)
  pub are_each : AllZip Has keys each
  pub whole : all ≡ somes each

-- what the keys have, in their order, where each has a list of these
pub record AreLists {K A : Type 0} (Have : K → List A → Type 0) (keys : List K) (all : List A)
    : Type 0 where
  pub each : List (List A)
  pub are_each : AllZip Have keys each
  pub whole : all ≡ flat_map (λ list. list) each
