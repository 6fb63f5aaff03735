use Rattle.std.proofs.Common.{◌≡◌, take}
use Rattle.nextest_config_profiles.specs.Profile.{AreLookedUp, layers_in, names_of}
use Rattle.nextest_config_profiles.specs.Reach.{words_of}
use Rattle.nextest_config_profiles.proofs.profile.EffectiveProfile.each_alone.Given as goal

-- the profiles so far
abbrev pub invariant-loop-name : goal.invariant-loop-name
invariant-loop-name l =
    AreLookedUp (layers_in l.fn.self) l.profiles.items × (names_of l.profiles.items ≡ words_of (take l.name-index l.names))
