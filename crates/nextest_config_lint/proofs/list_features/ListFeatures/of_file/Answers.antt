use Rattle.nextest_config_lint.specs.Defined.{file_of}
use Rattle.nextest_config_lint.proofs.ListFeatures.{none_said}
use Rattle.std.proofs.lemmas.Result.{IfOk-weaker}
use Rattle.nextest_config_lint.proofs.list_features.ListFeatures.of_file.Goals as goal

pub returns-in-Some : goal.returns-in-Some
returns-in-Some c = IfOk-weaker c.of_value.result _ _ (λ features said. said (file_of c.args.file.now) c.in-Some.ensures) c.of_value.ensures

pub returns-in-None : goal.returns-in-None
returns-in-None c = none_said (file_of c.args.file.now) c.none.result c.in-None.ensures c.none.ensures
