use Rattle.std.proofs.Common.{map, string_bytes, take}
use Rattle.std.proofs.lemmas.List.{flat_map_more, map_more}
use Rattle.nextest_config_command.specs.FileFindings.{found_of}
use Rattle.nextest_config_command.specs.Lint.{file_text}
use Rattle.nextest_config_command.proofs.lint.push_files.Goals as goal

pub loop-file-preserved : goal.loop-file-preserved
loop-file-preserved c =
    rw (
      map_more found_of c.args.found.now c.loop-file.file-index c.file-item.result c.loop-file-test.true,
      ← c.file-item.is,
      ← flat_map_more (file_text c.args.format) (string_bytes c.args.text.now) (map found_of (take c.loop-file.file-index c.args.found.now)) (found_of c.file-item.result),
      ← c.loop-file.invariant,
    )
    c.in_ok-push_file.ensures
