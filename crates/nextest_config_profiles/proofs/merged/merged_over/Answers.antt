use Rattle.std.proofs.Common.{append-nil, MatchOption, subst}
use Rattle.toml.specs.View.{view}
use Rattle.nextest_config_profiles.specs.Merged.{HasNoValue, IsMergedOver}
use Rattle.nextest_config_profiles.specs.Reach.{layers_of, words_of}
use Rattle.nextest_config_profiles.proofs.merged.merged_over.Goals as goal

pub returns : goal.returns
returns c =
    let layers = layers_of c.args.layers in
    let path = words_of c.args.path.now in
    subst (λ path. MatchOption c.in_ok-merged.merged (HasNoValue layers path) (λ value. IsMergedOver layers path (view value))) (append-nil path)
    (c.in_ok-merged.ensures layers path (rw c.as_slice.ensures.value c.in_ok-reached.ensures))
