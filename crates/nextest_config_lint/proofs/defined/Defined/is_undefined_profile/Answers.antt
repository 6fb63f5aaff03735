use mathlib.Core.Logic.Iff as iff
use Rattle.nextest_config_lint.specs.Defined.{AreDocuments, DefinesProfile}
use Rattle.nextest_config_lint.proofs.DefinedNames.{one_not_other}
use Rattle.nextest_config_lint.proofs.defined.Defined.is_undefined_profile.Goals as goal

pub returns : goal.returns
returns c = λ files is.
    one_not_other c.args.self.now.all_read c.has_name.result (AreDocuments files) (DefinesProfile files c.args.name.now) is.documents (iff.trans c.has_name.ensures (is.profiles.each c.args.name.now))
