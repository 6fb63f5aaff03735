use Rattle.std.proofs.Common.{◌≡◌, length, map, string_bytes, take}
use Rattle.std.specs.Prelude.{flat_map}
use Rattle.nextest_config_profiles.specs.Profile.{layers_in}
use Rattle.nextest_config_profiles.specs.Report.Elements.{element_of, elements_below}
use Rattle.nextest_config_profiles.proofs.report.elements.all_elements.Given as goal

-- those of the profiles so far
abbrev pub invariant-loop-profile : goal.invariant-loop-profile
invariant-loop-profile l =
    let layers = layers_in l.fn.effective in
    map element_of l.elements.items
    ≡ flat_map (λ profile. elements_below layers profile (length layers)) (map string_bytes (take l.profile-index l.chain))
