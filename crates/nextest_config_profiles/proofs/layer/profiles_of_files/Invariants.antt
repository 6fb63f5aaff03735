use Rattle.std.proofs.Common.{◌≡◌, take}
use Rattle.nextest_config_profiles.specs.Layer.{profiles_in}
use Rattle.nextest_config_profiles.specs.Reach.{lent_files}
use Rattle.nextest_config_profiles.proofs.layer.profiles_of_files.Given as goal

-- those of the layers so far
abbrev pub invariant-loop-layer : goal.invariant-loop-layer
invariant-loop-layer l = lent_files l.profiles.items ≡ profiles_in (take l.layer-index l.layers)
