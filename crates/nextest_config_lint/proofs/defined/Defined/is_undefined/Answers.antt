use Rattle.std.proofs.Common.{◌↔◌, IsTrue}
use mathlib.Core.Logic.Iff as iff
use Rattle.nextest_config_lint.specs.Defined.{AreDocuments, DefinesNamed}
use Rattle.nextest_config_lint.proofs.DefinedNames.{neither, undefined_of_none, undefined_of_tool}
use Rattle.nextest_config_lint.proofs.defined.Defined.is_undefined.Goals as goal

pub returns-in-Some : goal.returns-in-Some
returns-in-Some c = λ files is.
    let defined : IsTrue c.defines.result ↔ DefinesNamed c.args.kind files c.args.name.now = rw c.as_str.ensures.value at (c.defines.ensures files is) in
    let so_far = neither c.args.self.now.all_read c.defines.result (AreDocuments files) (DefinesNamed c.args.kind files c.args.name.now) c.if-self-defines.false is.documents defined in
    undefined_of_tool c.args.kind files c.args.name.now c.in-Some.tool.now c.in-Some.field-0-1.now c.has_name.result c.in-Some.ensures (iff.trans c.has_name.ensures (is.tools.each c.in-Some.tool.now)) so_far

pub returns-in-None : goal.returns-in-None
returns-in-None c = λ files is.
    let defined : IsTrue c.defines.result ↔ DefinesNamed c.args.kind files c.args.name.now = rw c.as_str.ensures.value at (c.defines.ensures files is) in
    let so_far = neither c.args.self.now.all_read c.defines.result (AreDocuments files) (DefinesNamed c.args.kind files c.args.name.now) c.if-self-defines.false is.documents defined in
    undefined_of_none c.args.kind files c.args.name.now c.in-None.ensures so_far
