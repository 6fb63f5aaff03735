use Rattle.std.proofs.Common.{◌≡◌, ◌∷◌, ◌∙◌, ap, map, subst}
use Rattle.nextest_config_profiles.specs.LastValue.{IsLastValue}
use Rattle.nextest_config_profiles.specs.Profile.{layers_in}
use Rattle.nextest_config_profiles.specs.Reach.{words_of}
use Rattle.nextest_config_profiles.specs.Said.{said_at}
use Rattle.nextest_config_profiles.proofs.report.last.last_at.Goals as goal

pub returns : goal.returns
returns c =
    let path : words_of c.as_slice.result.now ≡ c.args.profile.now ∷ words_of c.args.keys.now = ap words_of c.as_slice.ensures.value ∙ c.in_ok-path.ensures in
    subst (λ path. IsLastValue (map (said_at path) (layers_in c.args.effective.now)) c.in_ok-found.found) path c.in_ok-found.ensures
