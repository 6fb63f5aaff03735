use Rattle.std.proofs.Common.{◌≡◌, ◌+◌, arith, length, take}
use Rattle.std.proofs.lemmas.List.{length-take-le, map_push, take_more}
use Rattle.nextest_config_command.specs.FileFindings.{found_of, IsFoundIn, judging_of}
use Rattle.nextest_config_command.proofs.ZipFrom.{zip_from_push}
use Rattle.nextest_config_command.proofs.file_findings.in_list.Goals as goal

pub loop-position-preserved : goal.loop-position-preserved
loop-position-preserved c = λ list defined.
    let long = length-take-le c.loop-position.position c.args.files.now (omega (arith, c.loop-position-test.true)) in
    let at : c.loop-position.position ≡ 0 + length (take c.loop-position.position c.args.files.now) = omega (arith, long) in
    rw (
      take_more c.args.files.now c.loop-position.position c.index-files-position.result c.loop-position-test.true,
      ← c.index-files-position.is,
      c.in_ok-push.ensures.items,
      map_push found_of c.loop-position.found.items c.in_ok-in_file.field-0,
    )
    (zip_from_push (IsFoundIn (judging_of c.args.rules) list) 0 _ _ _ _ _ at (c.loop-position.invariant list defined) (c.in_ok-in_file.ensures list defined))
