use Rattle.std.specs.List.{AllZip}
use Rattle.nextest_config.proofs.Lists.{zip_joined}
use Rattle.toml_spans.proofs.Elements.{all_left, all_right}
use Rattle.nextest_config_command.specs.FileList.{IsDocumentFile}
use Rattle.nextest_config_command.specs.Layers.{IsIndexed}
use Rattle.nextest_config_command.proofs.layers.indexed_files.Goals as goal

pub indexed_each-requires : goal.indexed_each-requires
indexed_each-requires c = rw c.as_slice.ensures.value (all_left IsDocumentFile _ _ c.requires)

pub indexed_each-requires-2 : goal.indexed_each-requires-2
indexed_each-requires-2 c = rw c.as_slice-2.ensures.value (all_right IsDocumentFile _ _ c.requires)

pub returns : goal.returns
returns c =
    let tools : AllZip IsIndexed c.args.files.now.tools.items c.in_ok-all.all.items = rw c.as_slice.ensures.value at c.in_ok-all.ensures in
    let repository : AllZip IsIndexed c.args.files.now.repository.items c.in_ok-rest.rest.items = rw c.as_slice-2.ensures.value at c.in_ok-rest.ensures in
    rw c.in_ok-append.ensures.items (zip_joined IsIndexed _ _ _ _ tools repository)
