use Rattle.std.proofs.Common.{◌≡◌, ℕ, IsSome, List, None, Option}
use Rattle.nextest_config_values.specs.Identifier.Error.{identifier_fault}
use Rattle.std.proofs.lemmas.Result.{IfOk-weaker}
use Rattle.nextest_config_lint.proofs.DefinedNames.{not_kept}
use Rattle.nextest_config_lint.proofs.defined.kept_name.Goals as goal

pub returns-in-Err : goal.returns-in-Err
returns-in-Err c = IfOk-weaker c.none_kept.result _ _ (λ (kept : Option (List ℕ)) (none : (kept ≡ None) × IsSome (identifier_fault c.in-Err.error)). rw none.0 (not_kept c.args.key.now _ _ none.1 c.in-Err.ensures.refused)) c.none_kept.ensures
