use Rattle.std.proofs.Common.{◌≡◌, ap, arith, length, List, map, subst, take, ◌∙◌}
use Rattle.std.proofs.Math.Seq.{take-length}
use Rattle.std.proofs.lemmas.List.{map_more}
use Rattle.nextest_config_lint.specs.Defined.{AreFeaturesOf, file_of}
use Rattle.nextest_config_lint.specs.declared.defined.ListedFile.{ListedFile}
use Rattle.nextest_config_lint.proofs.list_features.ListFeatures.of.Goals as goal

pub loop-file-preserved : goal.loop-file-preserved
loop-file-preserved c =
    rw (map_more file_of c.args.files.now c.loop-file.file-index c.file-item.result c.loop-file-test.true, ← c.file-item.is)
    (c.or-features.ensures _ _ c.loop-file.invariant c.in_ok-of_file.ensures)

pub returns : goal.returns
returns c =
    let last : c.loop-file.file-index ≡ length c.args.files.now = omega (arith, c.loop-file-test.false, c.loop-file.auto.file-index-end) in
    subst (λ (l : List ListedFile). AreFeaturesOf (map file_of l) c.loop-file.features) (ap (λ i. take i c.args.files.now) last ∙ take-length c.args.files.now) c.loop-file.invariant
