use Rattle.nextest_config_command.specs.Answer.{refused_list}
use Rattle.nextest_config_command.proofs.answer.Engine.check.Goals as goal

pub returns-in_ok-lint-in-None : goal.returns-in_ok-lint-in-None
returns-in_ok-lint-in-None c =
    let lint = c.in_ok-lint-in-None.ensures in
    rw (c.writes.ensures, c.in_format-text.ensures, lint.text) (refused_list lint.found (rw c.in-None.is at c.in_ok-config.ensures) lint.are_found)

pub check_listed-requires : goal.check_listed-requires
check_listed-requires c =
    let listed = rw c.in-Some.is at c.in_ok-config.ensures in
    listed.1
