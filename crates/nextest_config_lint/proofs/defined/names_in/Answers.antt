use Rattle.std.proofs.Common.{◌≡◌, [], arith, length, map, take}
use Rattle.std.proofs.lemmas.List.{map_more}
use Rattle.nextest_config_lint.specs.Defined.{file_of, HasName}
use Rattle.nextest_config_lint.proofs.DefinedNames.{adds_next, names_added, names_all}
use Rattle.nextest_config_lint.proofs.defined.names_in.Goals as goal

pub loop-file-preserved : goal.loop-file-preserved
loop-file-preserved c =
    let files = c.args.files.now in
    let i = c.loop-file.file-index in
    rw (map_more file_of files i c.file-item.result c.loop-file-test.true, ← c.file-item.is)
    (adds_next (HasName c.args.kind) (map file_of (take i files)) (file_of c.file-item.result) [] _ _ c.loop-file.invariant c.in_ok-add_names.ensures)

pub returns : goal.returns
returns c =
    let last : c.loop-file.file-index ≡ length c.args.files.now = omega (arith, c.loop-file-test.false, c.loop-file.auto.file-index-end) in
    names_added _ _ (names_all (HasName c.args.kind) c.args.files.now c.loop-file.file-index _ last c.loop-file.invariant)
