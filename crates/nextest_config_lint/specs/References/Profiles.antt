-- What is found of the names of profiles, and of what they inherit from, after nextest's
-- documentation.
use Rattle.std.specs.Prelude.{◌≡◌, ◌≢◌, ◌<◌, ◌≤◌, ◌⊎◌, ℕ, length, Bool, List, ◌++◌, codes, nat_eq, not, Option, Some, None}
use Rattle.std.specs.Cmp.Lexicographic.{pointwise}
use Rattle.nextest_config_lint.specs.Defined.{AreDocuments, ComesBackAt, default_miri, default_profile, DefinesProfile, ListFile}
use Rattle.nextest_config_lint.specs.Found.{default_inherits, FoundKind, inherits_itself, undefined_profile}
use Rattle.nextest_config_lint.specs.References.Names.{most_names, IsUndefinedReported}

-- there are these words, if they are few
abbrev pub AreFew : List (List ℕ) → Option (List (List ℕ)) → Type 0
AreFew words (Some few) = (length few ≤ most_names) × (few ≡ words)
AreFew words None = most_names < length words

-- the name is another than this one
abbrev pub is_other : List ℕ → List ℕ → Bool
is_other left_out name = not (pointwise nat_eq name left_out)

-- a name that is kept for nextest's own profiles
abbrev pub IsReserved : List ℕ → Type 0
IsReserved name = (name ≢ default_miri) × ((rest : List ℕ) × (name ≡ codes "default-" ++ rest))

-- a profile of the list other than this one
abbrev pub IsOtherProfile : List ListFile → List ℕ → List ℕ → Type 0
IsOtherProfile files profile name = DefinesProfile files name × (profile ≢ name)

-- no file defines the profile, and none that isn't read may define it
abbrev pub IsUndefinedProfile : List ListFile → List ℕ → Type 0
IsUndefinedProfile files name = AreDocuments files × (DefinesProfile files name → ⊥)

-- what is reported of the name that a profile inherits from: that it is undefined, or nothing
abbrev pub IsParentNameReported : List ListFile → List ℕ → List ℕ → Option FoundKind → Type 0
IsParentNameReported files profile parent reported =
    (IsUndefinedProfile files parent
    × IsUndefinedReported undefined_profile (IsOtherProfile files profile)
    parent reported)
    ⊎ ((IsUndefinedProfile files parent → ⊥) × (reported ≡ None))

-- what is reported of a text of `inherits` in the file at this position: the profile is `default`;
-- it comes back to itself; or what is reported of the name
abbrev pub IsParentReported : List ListFile → ℕ → List ℕ → List ℕ → Option FoundKind → Type 0
IsParentReported files position profile parent reported =
    ((profile ≡ default_profile) × (reported ≡ Some default_inherits))
    ⊎ ((profile ≢ default_profile)
    × ((ComesBackAt files profile position × (reported ≡ Some (inherits_itself profile)))
    ⊎ ((ComesBackAt files profile position → ⊥)
    × IsParentNameReported files profile parent reported)))
