use Rattle.nextest_config_command.proofs.found.Search.find_in.Goals as goal

pub returns-clause-read : goal.returns-clause-read
returns-clause-read g c = rw (c.as_str.ensures.value, c.in_ok-path.ensures) at c.look_for.ensures.read

pub returns-clause-unread : goal.returns-clause-unread
returns-clause-unread g c = rw (c.as_str.ensures.value, c.in_ok-path.ensures) at c.look_for.ensures.unread
