use Rattle.std.proofs.Common.{rules, tests, ◌≡◌, ◌==◌, ◌||◌, false}
use Rattle.std.proofs.lemmas.Iterator.{YieldsList-from_chars, cases_from_all}
use Rattle.unicode_ident.specs.Ident.{is_xid_continue}
use Rattle.toml_spans.proofs.Elements.{decided_all}
use Rattle.nextest_config_values.specs.Helpers.Identifiers.{GoesOn}
use Rattle.nextest_config_values.proofs.helpers.identifiers.may_follow.Goals as goal

pub returns : goal.returns
returns c =
    decided_all GoesOn (λ x. ((x == 45) || is_xid_continue x) ≡ false) _ c.all.result (λ x holds fails. cc (holds, fails))
    (cases_from_all _ _ _ GoesOn (λ x. ((x == 45) || is_xid_continue x) ≡ false) c.all.ensures.ran (YieldsList-from_chars c.args.rest.now c.utf8.rest c.chars.ensures.rest)
    (λ x q k. search (rules, tests)) (λ x q k. search (rules, tests)))
