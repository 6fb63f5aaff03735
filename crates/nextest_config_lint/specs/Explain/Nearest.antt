-- What has an explanation, by its word: topics, and the keys of the table of keys by their paths.
use Rattle.std.specs.Prelude.{ℕ, ◌==◌, ◌&&◌, if◌then◌else◌, List, [], ◌++◌, codes, length, map, nat_eq, not}
use Rattle.std.specs.Cmp.Lexicographic.{pointwise}
use Rattle.std.specs.List.{after_first, before_first}
use Rattle.toml_spans.specs.Characters.{dot}
use Rattle.nextest_config_elements.specs.Fields.{Fields}
use Rattle.nextest_config_elements.specs.Keys.{file_fields, profile_fields}
use Rattle.nextest_config_lint.specs.Explain.KnownKey.{keys_among, path_of}
use Rattle.nextest_config_lint.specs.Explain.Places.{path_text}
use Rattle.nextest_config_lint.specs.Explain.Topic.{topic_word, topics}

-- the paths of all keys that stand in a table with these fields
abbrev pub paths_from : Fields → List (List ℕ)
paths_from known = map (λ key. path_text (path_of key)) (keys_among known [])

-- the words of all topics, then the paths of keys below a profile, and from the top of a file
abbrev pub explained_words : List (List ℕ)
explained_words = map topic_word topics ++ (paths_from profile_fields ++ paths_from file_fields)

-- what stands behind the first dot
abbrev pub behind_dot : List ℕ → List ℕ
behind_dot = after_first (λ b. b == dot)

-- what a path has below the name of a profile, if it begins there; else all of it
abbrev pub below_profile : List ℕ → List ℕ
below_profile path =
    if pointwise nat_eq (before_first (λ b. b == dot) path) (codes "profile")
    && not (length (behind_dot (behind_dot path)) == 0)
    then behind_dot (behind_dot path) else path
