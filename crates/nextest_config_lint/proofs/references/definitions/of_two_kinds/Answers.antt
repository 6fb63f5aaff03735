use Rattle.std.proofs.Common.{◌≡◌, false, inl, inr, None, refl, rules, Some, true}
use Rattle.nextest_config_lint.proofs.ReportedReferences.{of_script}
use Rattle.nextest_config_lint.specs.Found.{setup_script_too, IsReportedIf}
use Rattle.nextest_config_lint.specs.References.Definitions.{IsSetupToo}
use Rattle.nextest_config_elements.specs.declared.named.ScriptKind.TheVariants.{Wrapper}
use Rattle.nextest_config_lint.proofs.references.definitions.of_two_kinds.Goals as goal

pub returns-then-not-has_name-clause-reported : goal.returns-then-not-has_name-clause-reported
returns-then-not-has_name-clause-reported c file are =
    let no : c.has_name.result ≡ false = search rules in
    let name = c.args.name.now in
    of_script c.args.kind _ Wrapper c.in-Script-Wrapper.is (rw c.in-Script-Wrapper.is at c.in-Script-Wrapper.field-0-is) (λ kind. IsReportedIf (IsSetupToo file kind name) (setup_script_too name) None)
    (inr ((λ has. cc (no, c.has_name.ensures.1 ((are.each name).1 has))), refl))

pub returns-in_ok-name-in-Script-Wrapper-clause-reported : goal.returns-in_ok-name-in-Script-Wrapper-clause-reported
returns-in_ok-name-in-Script-Wrapper-clause-reported c file are =
    let yes : c.has_name.result ≡ true = search rules in
    let name = c.args.name.now in
    rw c.in_ok-name-in-Script-Wrapper.ensures.ok
    (of_script c.args.kind _ Wrapper c.in-Script-Wrapper.is (rw c.in-Script-Wrapper.is at c.in-Script-Wrapper.field-0-is) (λ kind. IsReportedIf (IsSetupToo file kind name) (setup_script_too name) (Some (setup_script_too name)))
    (inl ((are.each name).0 (c.has_name.ensures.0 yes), refl)))
