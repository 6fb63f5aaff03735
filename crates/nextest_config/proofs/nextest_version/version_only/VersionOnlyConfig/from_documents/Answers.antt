use Rattle.std.proofs.Common.{sym, subst, ◌∙◌}
use Rattle.std.proofs.lemmas.Result.{IfErr-weaker, IfOk-weaker}
use Rattle.nextest_config.specs.NextestVersion.{AreGivenAs}
use Rattle.nextest_config.proofs.Borrowed.{all_documents}
use Rattle.nextest_config.proofs.nextest_version.version_only.VersionOnlyConfig.from_documents.Goals as goal

pub returns-clause-read : goal.returns-clause-read
returns-clause-read c = IfOk-weaker c.read_all.result _ _
    (λ config read givens are. read givens (subst (AreGivenAs givens) (sym (c.as_slice.ensures.value ∙ c.in_ok-sources.ensures)) (all_documents givens c.args.documents.now are))) c.read_all.ensures.read

pub returns-clause-refused : goal.returns-clause-refused
returns-clause-refused c = IfErr-weaker c.read_all.result _ _
    (λ refusal refused givens are. refused givens (subst (AreGivenAs givens) (sym (c.as_slice.ensures.value ∙ c.in_ok-sources.ensures)) (all_documents givens c.args.documents.now are))) c.read_all.ensures.refused
