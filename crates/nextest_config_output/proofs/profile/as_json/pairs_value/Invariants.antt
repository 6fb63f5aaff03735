use Rattle.std.proofs.Common.{◌≡◌, take}
use Rattle.serde_json.specs.View.{members_view}
use Rattle.nextest_config_output.specs.Profile.AsJson.{pairs_data}
use Rattle.nextest_config_output.proofs.profile.as_json.pairs_value.Given as goal

-- the keys so far, each with its value
abbrev pub invariant-loop-setting : goal.invariant-loop-setting
invariant-loop-setting l =
    members_view l.pairs.entries ≡ pairs_data (take l.setting-index l.settings)
