use Rattle.std.proofs.Common.{◌≡◌, false, rules, true}
use Rattle.std.proofs.lemmas.Result.{IfOk-weaker}
use Rattle.nextest_config_lint.proofs.ReportedReferences.{nearest_reported, other_reported}
use Rattle.nextest_config_lint.proofs.references.names.of_missing.Goals as goal

pub returns-then-defines-clause-reported : goal.returns-then-defines-clause-reported
returns-then-defines-clause-reported c files by =
    let yes : c.defines.result ≡ true = search rules in
    let said = other_reported files c.args.kind c.in-Script.script c.other-other.result c.args.name.now c.in-Script.is c.other-other.ensures ((c.defines.ensures files by).0 yes) in
    rw c.in_ok-name-in-Script.ensures.ok said

pub returns-else-defines-clause-reported : goal.returns-else-defines-clause-reported
returns-else-defines-clause-reported c =
    let no : c.defines.result ≡ false = search rules in
    IfOk-weaker c.of_undefined-in-Script.result _ _ (λ reported nearest. λ files by.
    nearest_reported files c.args.kind c.in-Script.script c.other-other.result c.args.name.now _ c.in-Script.is c.other-other.ensures
    (λ there. cc (no, (c.defines.ensures files by).1 there)) (nearest files by)) c.of_undefined-in-Script.ensures.reported
