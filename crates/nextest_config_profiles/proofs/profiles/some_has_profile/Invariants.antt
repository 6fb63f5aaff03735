use Rattle.std.proofs.Common.{take}
use Rattle.nextest_config_profiles.specs.Profiles.{HasProfile, SomeOf}
use Rattle.nextest_config_profiles.specs.Reach.{lent_files}
use Rattle.nextest_config_profiles.proofs.profiles.some_has_profile.Given as goal

-- none of the files so far has it
abbrev pub invariant-loop-file : goal.invariant-loop-file
invariant-loop-file l = SomeOf (HasProfile l.name) (lent_files (take l.file-index l.files)) → ⊥
