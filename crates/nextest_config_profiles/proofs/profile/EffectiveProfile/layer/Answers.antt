use Rattle.std.proofs.Common.{◌≡◌, ◌<◌, ◌-◌, Some, arith, refl}
use Rattle.std.specs.List.{slice_get}
use Rattle.toml.specs.View.{table_view}
use Rattle.nextest_config_profiles.specs.Layer.{profiles_at}
use Rattle.nextest_config_profiles.proofs.FilesOfLayers.{has_above, looked_up}
use Rattle.nextest_config_profiles.proofs.profile.EffectiveProfile.layer.Goals as goal

pub returns-in_ok-get-in_default : goal.returns-in_ok-get-in_default
returns-in_ok-get-in_default c =
    let above : 0 < c.args.layer = omega arith in
    let own = c.args.self.now in
    let files = own.profiles.items in
    let found = looked_up c.as_slice.result.now _ c.get.result c.get.ensures.lookup.0 c.get.ensures.lookup.1 in
    let at : Some c.in_ok-get-in_default.field-0.now ≡ slice_get files (c.args.layer - 1) = rw (c.in_ok-get-in_default.was, c.as_slice.ensures.value) at found in
    rw (has_above (profiles_at (table_view own.defaults)) files c.args.layer above, ← at) refl
