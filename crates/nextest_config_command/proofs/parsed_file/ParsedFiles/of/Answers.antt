use Rattle.std.proofs.Common.{◌∙◌, ap, map, take}
use Rattle.std.proofs.lemmas.List.{map_more}
use Rattle.nextest_config_command.specs.Files.{file_of}
use Rattle.nextest_config_command.specs.Found.{outcome_of, with_outcome}
use Rattle.nextest_config_command.proofs.FilesFound.{one_more_found}
use Rattle.nextest_config_command.proofs.parsed_file.ParsedFiles.of.Goals as goal

pub loop-outcome-preserved : goal.loop-outcome-preserved
loop-outcome-preserved c =
    rw (
      map_more outcome_of c.args.found.now c.loop-outcome.outcome-index c.outcome-item.result c.loop-outcome-test.true,
      ← c.outcome-item.is,
    )
    (c.in_ok-add.ensures ∙ ap (λ files. with_outcome files (outcome_of c.outcome-item.result)) c.loop-outcome.invariant
    ∙ one_more_found (map file_of c.args.tools.now) (map outcome_of (take c.loop-outcome.outcome-index c.args.found.now)) (outcome_of c.outcome-item.result))
