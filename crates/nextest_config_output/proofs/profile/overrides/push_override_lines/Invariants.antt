use Rattle.std.proofs.Common.{◌≡◌, ◌++◌, flat_map, string_bytes, take}
use Rattle.nextest_config_output.specs.Profile.Overrides.{override_line}
use Rattle.nextest_config_output.proofs.profile.overrides.push_override_lines.Given as goal

-- the lines so far are pushed
abbrev pub invariant-loop-one : goal.invariant-loop-one
invariant-loop-one l =
    string_bytes l.text ≡ string_bytes l.fn.text
    ++ flat_map (override_line l.name) (take l.one-index l.overrides)
