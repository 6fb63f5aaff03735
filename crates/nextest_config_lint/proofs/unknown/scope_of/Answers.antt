use Rattle.std.proofs.Common.{◌≡◌, false, rules, tests, true}
use Rattle.std.proofs.lemmas.Iterator.{first_from_find, YieldsList-from_slice}
use Rattle.std.proofs.lemmas.Iterator.Consumers.{YieldsList-at, YieldsList-from_copied}
use Rattle.nextest_config_lint.proofs.Keys.{found_first}
use Rattle.nextest_config_lint.specs.Unknown.{scope_words}
use Rattle.nextest_config_lint.specs.Settings.{is_known}
use Rattle.nextest_config_lint.proofs.unknown.scope_of.Goals as goal

pub returns : goal.returns
returns c = found_first (λ scope. is_known (scope_words scope) c.args.name.now) c.args.scopes.now c.find.result
    (first_from_find _ _ _ (λ scope. is_known (scope_words scope) c.args.name.now ≡ true) (λ scope. is_known (scope_words scope) c.args.name.now ≡ false) c.find.ensures.ran
    (YieldsList-from_copied (YieldsList-at c.copied.ensures.source (YieldsList-from_slice c.args.scopes.now cc)))
    (λ x q k. search (rules, tests)) (λ x q k. search (rules, tests)))
