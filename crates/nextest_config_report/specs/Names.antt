-- Names of profiles in a line.
use Rattle.std.specs.Prelude.{ℕ, List, map}
use denote.Ref.{Bor}
use Rattle.toml_spans.specs.Step.{key_text}
use Rattle.nextest_config_values.specs.Read.{comma_list}

-- the texts of names that are lent
abbrev pub texts_of : List (Bor (List ℕ)) → List (List ℕ)
texts_of names = map (λ name. name.now) names

-- names in a line: each as a key prints in a path, with a comma and a space between
abbrev pub names_text : List (List ℕ) → List ℕ
names_text names = comma_list (map key_text names)
