-- What it is to do a task.
use Rattle.nextest_config.specs.declared.nextest_version.edition.Edition.{Edition}
use Rattle.nextest_config_command.specs.Answer.{answer_of, AnswerView, IsChecked, IsLinted, IsShown}
use Rattle.nextest_config_command.specs.Found.{FilesRead}
use Rattle.nextest_config_command.specs.Profile.{IsProfiled}
use Rattle.nextest_config_command.specs.declared.answer.Answer.{Answer}
use Rattle.nextest_config_command.specs.declared.request.Task.{Task}
use Rattle.nextest_config_command.specs.declared.request.Task.TheVariants as tasks

-- the task is done with these files, read under an edition: this is what is answered
abbrev pub IsDone : Edition → Task → FilesRead → AnswerView → Type 0
IsDone edition (tasks.Check check) files = IsChecked edition files check
IsDone edition (tasks.Lint options) files = IsLinted edition options files
IsDone edition (tasks.Show format) files = IsShown edition files format
IsDone edition (tasks.Profile task) files = IsProfiled edition files task

-- the task is done with these files, and this answer tells it
abbrev pub IsAnswer : Edition → Task → FilesRead → Answer → Type 0
IsAnswer edition task files answer = IsDone edition task files (answer_of answer)
