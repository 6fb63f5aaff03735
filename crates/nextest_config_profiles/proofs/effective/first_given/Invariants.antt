use Rattle.std.proofs.Common.{take}
use Rattle.std.specs.List.{AllByRecursion}
use Rattle.nextest_config_profiles.specs.Effective.{Passes}
use Rattle.nextest_config_profiles.specs.Merged.{Layers}
use Rattle.nextest_config_profiles.specs.Profile.{AreLookedUp, names_of}
use Rattle.nextest_config_profiles.specs.Reach.{words_of}
use Rattle.nextest_config_profiles.proofs.effective.first_given.Given as goal

-- none of the profiles so far counts
abbrev pub invariant-loop-profile : goal.invariant-loop-profile
invariant-loop-profile g l = (layers : Layers) → AreLookedUp layers l.profiles
    → AllByRecursion (Passes g.T.ProfileSetting.seen g.T.ProfileSetting.reading layers (words_of l.keys)) (names_of (take l.profile-index l.profiles))
