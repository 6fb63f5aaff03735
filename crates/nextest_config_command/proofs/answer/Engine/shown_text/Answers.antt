use Rattle.std.specs.List.{AllZip}
use Rattle.nextest_config_profiles.specs.Reach.{words_of}
use Rattle.nextest_config_command.specs.Found.{all_files, files_of}
use Rattle.nextest_config_command.specs.Layers.{AreLayers, IsLent}
use Rattle.nextest_config_command.proofs.LayersOfFiles.{lent_layers}
use Rattle.nextest_config_command.proofs.answer.Engine.shown_text.Goals as goal

pub returns : goal.returns
returns c =
    let lent : AllZip IsLent c.in_ok-indexed.indexed.items c.in_ok-layers.layers.items = rw c.as_slice.ensures.value at c.in_ok-layers.ensures in
    let are : AreLayers (all_files (files_of c.args.self.now.files.now)) c.in_ok-layers.layers.items = lent_layers _ c.in_ok-indexed.indexed.items _ c.in_ok-indexed.ensures lent in
    record {
      layers = c.as_slice-2.result.now;
      are_layers = rw c.as_slice-2.ensures.value are;
      profiles = words_of c.in_ok-profiles.profiles.items;
      are_names = record { are_names = c.in_ok-profiles.ensures.names; in_order = c.in_ok-profiles.ensures.order };
      text_is = rw c.as_slice-3.ensures.value at c.in_ok-text.ensures;
    }
