use Rattle.std.proofs.Common.{◌≡◌, ◌++◌, ◌∷◌, [], flat_map, map, string_bytes, take}
use Rattle.nextest_config_profiles.specs.Reach.{words_of}
use Rattle.nextest_config_profiles.specs.Report.Setting.{all_settings}
use Rattle.nextest_config_profiles.specs.Report.Wanted.{dotted, paths_of}
use Rattle.nextest_config_profiles.proofs.report.wanted.told_paths.Given as goal

-- the paths of all settings, and of the other keys so far
abbrev pub invariant-loop-key : goal.invariant-loop-key
invariant-loop-key l = map string_bytes l.paths.items
    ≡ map dotted (flat_map paths_of all_settings ++ map (λ key. key ∷ []) (words_of (take l.key-index l.key-items)))
