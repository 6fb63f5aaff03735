use Rattle.nextest_config_lint.proofs.Places.{first_of_two}
use Rattle.nextest_config_lint.proofs.file.value_or_key.Goals as goal

pub returns-in-Some : goal.returns-in-Some
returns-in-Some c text of_text = first_of_two text _ _ _ c.in-Some.span (c.value.ensures text of_text) c.in-Some.is
