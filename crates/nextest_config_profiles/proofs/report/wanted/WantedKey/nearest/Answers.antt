use Rattle.std.proofs.Common.{◌∙◌, None, ap, map, string_bytes, subst}
use Rattle.nextest_config_values.specs.NearestWord.{IsNearest}
use Rattle.nextest_config_profiles.specs.Reach.{words_of}
use Rattle.nextest_config_profiles.proofs.report.wanted.WantedKey.nearest.Goals as goal

pub returns : goal.returns
returns c =
    subst (λ words. IsNearest words c.args.path.now None)
    (ap words_of c.as_slice-2.ensures.value ∙ c.in_ok-words.ensures ∙ ap (map string_bytes) c.as_slice.ensures.value ∙ c.in_ok-paths.ensures)
    (rw c.in-None.is at c.in_ok-near.ensures)
