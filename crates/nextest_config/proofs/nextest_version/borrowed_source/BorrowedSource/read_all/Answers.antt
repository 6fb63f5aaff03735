use Rattle.std.proofs.lemmas.Result.{err_from_is_err_and}
use Rattle.nextest_config.proofs.Borrowed.{reading_of, refusal_of_given}
use Rattle.nextest_config.proofs.nextest_version.borrowed_source.BorrowedSource.read_all.Goals as goal

pub returns-in_err-read-clause-refused : goal.returns-in_err-read-clause-refused
returns-in_err-read-clause-refused c =
    let passed = err_from_is_err_and c.from_residual.result c.from_residual.ensures.1 in
    rw (passed.1, passed.2) (λ givens are. refusal_of_given c.args.edition givens c.args.sources.now _ are c.in_err-read.ensures.refused)

pub returns-clause-read : goal.returns-clause-read
returns-clause-read c givens are = rw c.into_config.ensures (reading_of c.args.edition givens c.args.sources.now c.in_ok-read.read are c.in_ok-read.ensures.joined)
