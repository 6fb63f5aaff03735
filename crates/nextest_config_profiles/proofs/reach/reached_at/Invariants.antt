use Rattle.std.proofs.Common.{◌∷◌, take}
use Rattle.nextest_config_profiles.specs.Reach.{AreReached, lent, lent_files, words_of}
use Rattle.nextest_config_profiles.proofs.reach.reached_at.Given as goal

-- the path leads there in nextest's own layer and in the files so far
abbrev pub invariant-loop-file : goal.invariant-loop-file
invariant-loop-file l =
    AreReached (lent l.layers.defaults ∷ lent_files (take l.file-index l.files)) (words_of l.path) l.reached.items
