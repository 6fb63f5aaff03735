use Rattle.std.proofs.Common.{◌↔◌, ◌∷◌, ℕ, List, take}
use Rattle.nextest_config_profiles.specs.Profiles.{HasName, HasProfile, SomeOf}
use Rattle.nextest_config_profiles.specs.Reach.{lent, lent_files}
use Rattle.nextest_config_profiles.proofs.profiles.name_set.Given as goal

-- the names are those of nextest's own layer and the files so far
abbrev pub invariant-loop-file : goal.invariant-loop-file
invariant-loop-file l = (name : List ℕ) → HasName l.names.keys name
    ↔ SomeOf (HasProfile name) (lent l.layers.defaults ∷ lent_files (take l.file-index l.files))
