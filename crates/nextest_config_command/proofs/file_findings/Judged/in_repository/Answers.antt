use Rattle.std.proofs.lemmas.List.{map_push, take_more}
use Rattle.nextest_config.proofs.Lists.{zip_push}
use Rattle.nextest_config_command.specs.FileFindings.{found_of, IsFoundAfter, judging_of}
use Rattle.nextest_config_command.specs.Found.{files_of}
use Rattle.nextest_config_command.proofs.file_findings.Judged.in_repository.Goals as goal

pub loop-file-preserved : goal.loop-file-preserved
loop-file-preserved c =
    rw (
      take_more c.args.self.now.files.now.repository.items c.loop-file.file-index c.file-item.result (rw c.deref-file-items.ensures.value at c.loop-file-test.true),
      ← (rw c.deref-file-items.ensures.value at c.file-item.is),
      c.in_ok-push.ensures.items,
      map_push found_of c.loop-file.found.items c.in_ok-after_tools.field-0,
    )
    (zip_push (IsFoundAfter (judging_of c.args.self.now.rules) (files_of c.args.self.now.files.now)) _ _ _ _ c.loop-file.invariant c.in_ok-after_tools.ensures)
