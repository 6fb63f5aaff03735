use Rattle.std.proofs.Common.{map, take}
use Rattle.nextest_config_lint.specs.Defined.{AreFeaturesOf, file_of}
use Rattle.nextest_config_lint.proofs.list_features.ListFeatures.of.Given as goal

-- what the files so far say
abbrev pub invariant-loop-file : goal.invariant-loop-file
invariant-loop-file l = AreFeaturesOf (map file_of (take l.file-index l.files)) l.features
