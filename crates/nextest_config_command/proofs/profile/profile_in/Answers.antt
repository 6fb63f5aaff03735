use Rattle.std.specs.List.{AllZip}
use Rattle.nextest_config_command.specs.Found.{all_files, files_of}
use Rattle.nextest_config_command.specs.Layers.{AreLayers, IsLent}
use Rattle.nextest_config_command.proofs.LayersOfFiles.{lent_layers}
use Rattle.nextest_config_command.proofs.profile.profile_in.Goals as goal

pub returns : goal.returns
returns c =
    let lent : AllZip IsLent c.in_ok-indexed.indexed.items c.in_ok-layers.layers.items = rw c.as_slice.ensures.value at c.in_ok-layers.ensures in
    let are : AreLayers (all_files (files_of c.args.files.now)) c.in_ok-layers.layers.items = lent_layers _ c.in_ok-indexed.indexed.items _ c.in_ok-indexed.ensures lent in
    (c.as_slice-2.result.now, rw c.as_slice-2.ensures.value are, c.in_ok-answer.ensures)
