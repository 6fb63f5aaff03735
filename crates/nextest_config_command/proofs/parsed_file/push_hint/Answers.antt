use Rattle.nextest_config_command.proofs.parsed_file.push_hint.Goals as goal

pub returns-in-Some : goal.returns-in-Some
returns-in-Some c = rw c.in-Some.is (rw c.as_str.ensures.value at c.push_meant.ensures)
