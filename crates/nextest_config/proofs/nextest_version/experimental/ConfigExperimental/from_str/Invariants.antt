use Rattle.std.proofs.Common.{◌≢◌, take}
use Rattle.std.specs.List.{AllByRecursion}
use Rattle.nextest_config.specs.NextestVersion.{word_of}
use Rattle.nextest_config.proofs.nextest_version.experimental.ConfigExperimental.from_str.Given as goal

-- the text is no feature's word so far
abbrev pub invariant-loop-feature : goal.invariant-loop-feature
invariant-loop-feature l = AllByRecursion (λ feature. word_of feature ≢ l.text) (take l.feature-index l.feature-items)
