use Rattle.std.proofs.Common.{map, take}
use Rattle.nextest_config_profiles.specs.Report.Rows.{ArePlacesAt, keys_of_member}
use Rattle.nextest_config_profiles.specs.Report.Setting.{member_of, rule_of}
use Rattle.nextest_config_profiles.proofs.report.faulty.member_places.Given as goal

-- the places of the keys so far
abbrev pub invariant-loop-member : goal.invariant-loop-member
invariant-loop-member l = ArePlacesAt l.fn.effective l.fn.profile
    (map (keys_of_member (rule_of l.fn.setting).keys) (map member_of (take l.member-index l.members))) l.sources.items
