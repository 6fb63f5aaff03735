use Rattle.nextest_config.specs.NextestVersion.{configuration_of}
use Rattle.nextest_config_command.specs.Answer.{refused_files, shown}
use Rattle.nextest_config_command.proofs.answer.Engine.show.Goals as goal

pub shown_text-requires : goal.shown_text-requires
shown_text-requires c =
    let listed = rw c.in-Some.is at c.in_ok-config.ensures in
    listed.0

pub returns-in_ok-text-in-Some : goal.returns-in_ok-text-in-Some
returns-in_ok-text-in-Some c =
    let listed = rw c.in-Some.is at c.in_ok-config.ensures in
    rw (c.writes.ensures, c.in_show_format-text.ensures) (shown (configuration_of c.in-Some.config) _ listed.1 c.in_ok-text-in-Some.ensures)

pub returns-in_ok-lint-in-None : goal.returns-in_ok-lint-in-None
returns-in_ok-lint-in-None c =
    let lint = c.in_ok-lint-in-None.ensures in
    rw (c.show_refusal.ensures, lint.text) (refused_files lint.found (rw c.in-None.is at c.in_ok-config.ensures) lint.are_found)
