use Rattle.std.proofs.Common.{◌≡◌, ◌++◌, ◌∷◌, map, string_bytes, take}
use Rattle.nextest_config_profiles.specs.Reach.{words_of}
use Rattle.nextest_config_profiles.specs.Report.Rows.{keys_of_member}
use Rattle.nextest_config_profiles.specs.Report.Setting.{member_of}
use Rattle.nextest_config_profiles.specs.Report.Wanted.{dotted}
use Rattle.nextest_config_profiles.proofs.report.wanted.push_paths.Given as goal

-- the path of the setting, and those of the keys so far
abbrev pub invariant-loop-member : goal.invariant-loop-member
invariant-loop-member l =
    let keys = words_of l.setting.keys.now in
    map string_bytes l.paths.items ≡ map string_bytes l.fn.paths.items ++ map dotted (keys ∷ map (keys_of_member keys) (map member_of (take l.member-index l.members)))
