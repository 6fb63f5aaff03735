use Rattle.std.proofs.lemmas.Bool.{false≢true}
use Rattle.nextest_config_profiles.proofs.report.rows.given_state.Goals as goal

pub returns-then-branch : goal.returns-then-branch
returns-then-branch c = (c.in_ok-is_sure.ensures.0 c.if-branch.true, rw c.in_ok-clone.ensures.cases at c.in_ok-literal.ensures, c.in_ok-source.ensures, c.in_ok-remark.ensures)

pub returns : goal.returns
returns c = (λ judged. false≢true (rw c.if-branch.false at c.in_ok-is_sure.ensures.1 judged), rw c.in_ok-clone.ensures.cases at c.in_ok-literal.ensures, c.in_ok-source.ensures)
