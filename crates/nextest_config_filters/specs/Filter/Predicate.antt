-- The predicates of filters, by their names.
use Rattle.std.proofs.Common.{rules}
use Rattle.std.specs.Prelude.{◌≡◌, ℕ, ◌==◌, ◌&&◌, if◌then◌else◌, Bool, true, false, List, [], ◌∷◌, codes, map, Option, Some, None, is_some, take}
use Rattle.nextest_config_values.specs.Read.{value_of}
use Rattle.nextest_config_filters.specs.Front.{behind, in_word, run}
use Rattle.nextest_config_filters.specs.declared.filter.predicate.Predicate.{Predicate}
use Rattle.nextest_config_filters.specs.declared.filter.predicate.Predicate.TheVariants as predicates

-- all of them
abbrev pub all_predicates : List Predicate
all_predicates =
    predicates.All
    ∷ predicates.None
    ∷ predicates.Default
    ∷ predicates.Test
    ∷ predicates.Package
    ∷ predicates.Deps
    ∷ predicates.Rdeps
    ∷ predicates.Binary
    ∷ predicates.BinaryId
    ∷ predicates.Kind
    ∷ predicates.Platform
    ∷ predicates.Group
    ∷ []

abbrev pub name_of : Predicate → List ℕ
name_of predicates.All = codes "all"
name_of predicates.None = codes "none"
name_of predicates.Default = codes "default"
name_of predicates.Test = codes "test"
name_of predicates.Package = codes "package"
name_of predicates.Deps = codes "deps"
name_of predicates.Rdeps = codes "rdeps"
name_of predicates.Binary = codes "binary"
name_of predicates.BinaryId = codes "binary_id"
name_of predicates.Kind = codes "kind"
name_of predicates.Platform = codes "platform"
name_of predicates.Group = codes "group"

-- a name is that of its predicate
pub name_reads_back : (predicate : Predicate)
    → value_of name_of all_predicates (name_of predicate) ≡ Some predicate
name_reads_back predicate = search rules

-- the predicate with this name
unfoldable pub predicate_named : List ℕ → Option Predicate
predicate_named = value_of name_of all_predicates

-- these take no argument
abbrev pub takes_none : Predicate → Bool
takes_none predicates.All = true
takes_none predicates.None = true
takes_none predicates.Default = true
takes_none predicate = false

-- and these a text or a regular expression; `platform` takes one of two words
abbrev pub takes_regex : Predicate → Bool
takes_regex predicates.Platform = false
takes_regex predicate = true

-- the names that are suggested: all but the last, which a version of nextest may not have yet
abbrev pub suggested : List (List ℕ)
suggested = map name_of (take 11 all_predicates)

-- ---- words that are joined without a space, as `notall` and `andnot`

-- what stands behind the `not`s at the front, where there are any
abbrev pub behind_nots : List ℕ → List ℕ
behind_nots (a ∷ b ∷ c ∷ cs) =
    if a == 110 && (b == 111 && c == 116) then behind_nots cs else a ∷ b ∷ c ∷ cs
behind_nots cs = cs

-- the rest of a word is a name, or nothing
abbrev pub is_name_or_nothing : List ℕ → Bool
is_name_or_nothing [] = true
is_name_or_nothing (c ∷ cs) = is_some (predicate_named (c ∷ cs))

-- what goes on behind a word may be read for itself: `not`s, and then a name or nothing
abbrev pub is_joined : List ℕ → Bool
is_joined cs = is_name_or_nothing (run in_word (behind_nots cs))

-- what stands behind a word at the front, where that is joined to it
abbrev pub joined_rest : Option (List ℕ) → Option (List ℕ)
joined_rest None = None
joined_rest (Some rest) = if is_joined rest then Some rest else None

abbrev pub joined_behind : List ℕ → List ℕ → Option (List ℕ)
joined_behind word cs = joined_rest (behind word cs)
