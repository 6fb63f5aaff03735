use Rattle.std.proofs.Common.{◌++◌, codes, flat_map, take}
use Rattle.std.specs.Fmt.{HasWritten, IsPlainFormatter}
use Rattle.nextest_config_output.specs.Profile.Overrides.{pair_text}
use Rattle.nextest_config_output.proofs.profile.overrides.write_pairs.Given as goal

-- the pairs so far are written
abbrev pub invariant-loop-setting : goal.invariant-loop-setting
invariant-loop-setting g l =
    IsPlainFormatter l.fn.f → HasWritten g.W.Write.write_str_gives l.fn.f
    (flat_map (λ setting. codes ", " ++ pair_text setting) (take l.setting-index l.settings)) l.f
