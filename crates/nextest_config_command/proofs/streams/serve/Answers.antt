use Rattle.nextest_config_command.proofs.CutShort.{written_ended, unanswered_ended}
use Rattle.nextest_config_command.proofs.ShownToPeople.{nothing_added, written_says, written_writes, unanswered_says}
use Rattle.std.proofs.KnownBytes.{Keeps-refl}
use Rattle.nextest_config_command.proofs.streams.serve.Goals as goal

pub returns-in-Ok-clause-ended : goal.returns-in-Ok-clause-ended
returns-in-Ok-clause-ended g c = written_ended _ _ _ _ _ _ _ _ _ _ _ _ c.in-Ok.ensures.output c.code.ensures c.print.ensures

pub returns-in-Ok-clause-writes_printable : goal.returns-in-Ok-clause-writes_printable
returns-in-Ok-clause-writes_printable g c = λ people. written_writes (g.F.Files.holds c.args.files.now) _ _ _ _ _ _ _ _ _ _ people c.in-Ok.ensures.output c.print.ensures

pub returns-in-Ok-clause-says_printable : goal.returns-in-Ok-clause-says_printable
returns-in-Ok-clause-says_printable g c = λ people. written_says (g.F.Files.holds c.args.files.now) _ _ _ _ _ _ _ _ _ _ people c.in-Ok.ensures.output c.print.ensures

pub returns-in-Err-clause-ended : goal.returns-in-Err-clause-ended
returns-in-Err-clause-ended g c = unanswered_ended _ _ _ _ _ _ _ _ _ _ _ c.in-Err.ensures.unread c.code-in-Err.ensures c.give_up.ensures.status c.give_up.ensures.reported

pub returns-in-Err-clause-writes_printable : goal.returns-in-Err-clause-writes_printable
returns-in-Err-clause-writes_printable g c = λ people. nothing_added _ _ (Keeps-refl _)

pub returns-in-Err-clause-says_printable : goal.returns-in-Err-clause-says_printable
returns-in-Err-clause-says_printable g c = λ people. unanswered_says (g.F.Files.holds c.args.files.now) c.args.request.now _ _ _ _ c.in-Err.ensures.unread c.give_up.ensures.reported
