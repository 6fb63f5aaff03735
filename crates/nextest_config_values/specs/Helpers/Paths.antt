-- Relative paths, and the join of two paths, by the rules of Unix.
use Rattle.std.specs.Prelude.{◌≡◌, ℕ, ◌==◌, Bool, false, List, [], ◌∷◌, ◌++◌, reverse, codes, if◌then◌else◌, ◌⊎◌}
use Rattle.toml_spans.specs.Characters.{slash}

-- the text begins with a slash
abbrev pub BeginsWithSlash : List ℕ → Type 0
BeginsWithSlash text = (rest : List ℕ) × (text ≡ slash ∷ rest)

-- the text ends with a slash
abbrev pub EndsWithSlash : List ℕ → Type 0
EndsWithSlash text = (front : List ℕ) × (text ≡ front ++ (slash ∷ []))

-- one of the segments between slashes is `..`
pub record HasParentSegment (text : List ℕ) : Type 0 where
  pub before : List ℕ
  pub after : List ℕ
  pub whole : text ≡ before ++ (codes ".." ++ after)
  pub begins : (before ≡ []) ⊎ EndsWithSlash before
  pub ends : (after ≡ []) ⊎ BeginsWithSlash after

-- the text doesn't begin with a slash, and no segment of it is `..`
abbrev pub IsRelativePath : List ℕ → Type 0
IsRelativePath text = ¬ (BeginsWithSlash text) × ¬ (HasParentSegment text)

-- ---- the join of two paths, by the rules of Unix

-- whether the path begins with a slash
abbrev pub begins_with_slash : List ℕ → Bool
begins_with_slash [] = false
begins_with_slash (b ∷ rest) = b == slash

-- what has to stand between the path and another one: a slash, unless the path is empty or ends
-- with one
abbrev pub separator : List ℕ → List ℕ
separator [] = []
separator (b ∷ rest) = if begins_with_slash (reverse (b ∷ rest)) then [] else slash ∷ []

-- the join of two paths: the second one where it begins with a slash; else both, with the separator
-- between
abbrev pub joined_path : List ℕ → List ℕ → List ℕ
joined_path first second = if begins_with_slash second then second
    else first ++ (separator first ++ second)
