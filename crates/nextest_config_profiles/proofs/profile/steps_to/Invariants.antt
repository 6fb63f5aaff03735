use Rattle.std.proofs.Common.{◌≡◌, map, take}
use Rattle.toml_spans.specs.Step.{step_of}
use Rattle.nextest_config_profiles.specs.Profile.{steps_to}
use Rattle.nextest_config_profiles.specs.Reach.{words_of}
use Rattle.nextest_config_profiles.proofs.profile.steps_to.Given as goal

-- those of the keys so far
abbrev pub invariant-loop-key : goal.invariant-loop-key
invariant-loop-key l = map step_of l.steps.items ≡ steps_to (words_of (take l.key-index l.path))
