-- What layers have, and where paths lead to.
use Rattle.std.specs.Prelude.{◌≡◌, ℕ, Bool, true, false, List, ◌∷◌, ◌++◌, map, Option, option_map, Some}
use Rattle.std.proofs.Common.{Bor}
use Rattle.toml.specs.Data.{Data}
use Rattle.toml.specs.View.{view}
use Rattle.toml.specs.declared.value.Value.{Value}
use Rattle.nextest_config_profiles.specs.Said.{barred, Path, Said, said_at, silent}
use Rattle.nextest_config_profiles.specs.declared.reach.LentLayers.{LentLayers}
use Rattle.nextest_config_profiles.specs.declared.reach.Reach.{Reach}
use Rattle.nextest_config_profiles.specs.declared.reach.Reach.TheVariants as reached

-- the keys of a path, as texts
abbrev pub words_of : List (Bor (List ℕ)) → Path
words_of words = map (λ word. word.now) words

-- what is said of a path below where another one leads to
abbrev pub said_below : Path → Reach → Said
said_below below reached.Nothing = silent
said_below below reached.Barred = barred
said_below below (reached.Value value) = said_at below (Some (view value.now))

-- this leads to a value
abbrev pub is_value : Reach → Bool
is_value (reached.Value value) = true
is_value reach = false

-- what a layer has that is lent, as data
abbrev pub lent : Option (Bor Value) → Option Data
lent = option_map (λ value. view value.now)

-- what files have that are lent, as data
abbrev pub lent_files : List (Option (Bor Value)) → List (Option Data)
lent_files files = map lent files

-- what lent layers have, as data: what nextest sets itself, and above that the files
abbrev pub layers_of : LentLayers → List (Option Data)
layers_of layers = lent layers.defaults ∷ lent_files layers.files.now

-- a path leads there in each of these layers
abbrev pub AreReached : List (Option Data) → Path → List Reach → Type 0
AreReached layers path reached =
    (below : Path) → map (said_below below) reached ≡ map (said_at (path ++ below)) layers
