use Rattle.nextest_config_command.proofs.answer.Engine.answer_to.Goals as goal

pub returns-in-Check : goal.returns-in-Check
returns-in-Check c = rw c.in-Check.is c.check.ensures

pub returns-in-Lint : goal.returns-in-Lint
returns-in-Lint c = rw c.in-Lint.is c.lint.ensures

pub returns-in-Profile : goal.returns-in-Profile
returns-in-Profile c = rw c.in-Profile.is c.profile.ensures

pub returns-in-Show : goal.returns-in-Show
returns-in-Show c = rw c.in-Show.is c.show.ensures
