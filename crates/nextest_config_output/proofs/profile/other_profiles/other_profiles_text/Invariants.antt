use Rattle.std.proofs.Common.{◌≡◌, flat_map, string_bytes, take}
use Rattle.nextest_config_output.specs.Profile.OtherProfiles.{fault_line}
use Rattle.nextest_config_output.proofs.profile.other_profiles.other_profiles_text.Given as goal

-- the lines so far are pushed
abbrev pub invariant-loop-fault : goal.invariant-loop-fault
invariant-loop-fault l =
    string_bytes l.text ≡ flat_map fault_line (take l.fault-index l.fault-items)
