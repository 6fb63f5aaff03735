use Rattle.std.proofs.Common.{◌∙◌, rules}
use Rattle.std.proofs.lemmas.Iterator.{YieldsList-from_slice}
use Rattle.std.proofs.lemmas.Iterator.Search.{any_from_yields_List}
use Rattle.nextest_config_profiles.proofs.Narrowed.{any_mapped}
use Rattle.nextest_config_profiles.specs.Report.Narrowed.{is_named_by}
use Rattle.nextest_config_profiles.specs.Report.Wanted.{path_of}
use Rattle.nextest_config_profiles.proofs.report.narrowed.is_named.Goals as goal

pub returns : goal.returns
returns c =
    let shown = c.args.shown.now in
    any_from_yields_List (λ key. is_named_by shown (path_of key)) _ _ c.any.result c.any.ensures.ran (YieldsList-from_slice c.args.wanted.now cc) (λ x b q k. search rules)
    ∙ any_mapped (is_named_by shown) path_of c.args.wanted.now
