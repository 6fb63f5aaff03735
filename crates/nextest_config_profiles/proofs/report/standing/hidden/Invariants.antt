use Rattle.std.proofs.Common.{◌≡◌, ◌++◌, length, map, string_bytes, take}
use Rattle.std.specs.Prelude.{flat_map}
use Rattle.nextest_config_profiles.specs.Profile.{layers_in}
use Rattle.nextest_config_profiles.specs.Reach.{words_of}
use Rattle.nextest_config_profiles.specs.Report.Standing.{hidden_below, standing_of}
use Rattle.nextest_config_profiles.proofs.report.standing.hidden.Given as goal

-- what the profile has below the layer, and the later profiles so far
abbrev pub invariant-loop-other : goal.invariant-loop-other
invariant-loop-other l =
    let layers = layers_in l.fn.effective in
    map standing_of l.hidden.items
    ≡ hidden_below layers l.fn.profile (words_of l.fn.keys) l.fn.layer
    ++ flat_map (λ other. hidden_below layers other (words_of l.fn.keys) (length layers))
    (map string_bytes (take l.other-index l.rest))
