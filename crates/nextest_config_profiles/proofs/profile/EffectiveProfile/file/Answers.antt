use Rattle.std.proofs.Common.{◌<◌, ◌∙◌, arith, sym}
use Rattle.nextest_config_profiles.proofs.FilesOfLayers.{file_above, looked_up}
use Rattle.nextest_config_profiles.proofs.profile.EffectiveProfile.file.Goals as goal

pub returns-in_default : goal.returns-in_default
returns-in_default c =
    let above : 0 < c.args.layer = omega arith in
    let files = c.args.self.now.layers.now in
    looked_up files _ c.get.result c.get.ensures.lookup.0 c.get.ensures.lookup.1 ∙ sym (file_above files c.args.layer above)
