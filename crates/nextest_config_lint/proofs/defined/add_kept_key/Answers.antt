use Rattle.nextest_config_lint.proofs.DefinedNames.{adds_kept}
use Rattle.nextest_config_lint.proofs.defined.add_kept_key.Goals as goal

pub returns-in_ok-add_name-in-Some : goal.returns-in_ok-add_name-in-Some
returns-in_ok-add_name-in-Some c =
    adds_kept c.args.key.now c.in-Some.name c.as_str.result.now _ _ (rw c.in-Some.is at c.in_ok-name.ensures) c.as_str.ensures.value c.in_ok-add_name-in-Some.ensures
