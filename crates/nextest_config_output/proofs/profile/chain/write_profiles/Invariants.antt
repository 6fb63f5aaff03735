use Rattle.std.proofs.Common.{◌++◌, codes, flat_map, take}
use Rattle.std.specs.Fmt.{HasWritten, IsPlainFormatter}
use Rattle.nextest_config_output.specs.Profile.Chain.{profile_text}
use Rattle.nextest_config_output.proofs.profile.chain.write_profiles.Given as goal

-- the profiles so far are written
abbrev pub invariant-loop-profile : goal.invariant-loop-profile
invariant-loop-profile g l =
    IsPlainFormatter l.fn.f → HasWritten g.W.Write.write_str_gives l.fn.f
    (flat_map (λ profile. codes ", " ++ profile_text profile) (take l.profile-index l.profiles)) l.f
