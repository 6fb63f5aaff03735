use Rattle.std.proofs.Common.{◌∙◌, rules}
use Rattle.std.proofs.lemmas.Iterator.{YieldsList-from_slice}
use Rattle.std.proofs.lemmas.Iterator.Search.{any_from_yields_List}
use Rattle.nextest_config_profiles.proofs.Narrowed.{any_mapped}
use Rattle.nextest_config_profiles.specs.Reach.{words_of}
use Rattle.nextest_config_profiles.specs.Report.Narrowed.{are_related}
use Rattle.nextest_config_profiles.specs.Report.Wanted.{path_of}
use Rattle.nextest_config_profiles.proofs.report.narrowed.is_related.Goals as goal

pub returns : goal.returns
returns c =
    let keys = words_of c.args.keys.now in
    any_from_yields_List (λ key. are_related keys (path_of key)) _ _ c.any.result c.any.ensures.ran (YieldsList-from_slice c.args.wanted.now cc) (λ x b q k. search rules)
    ∙ any_mapped (are_related keys) path_of c.args.wanted.now
