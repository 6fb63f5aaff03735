use Rattle.std.proofs.Common.{◌≡◌, ◌∙◌, ◌++◌, ap, map, option_map, string_bytes, subst, sym}
use Rattle.nextest_config_values.specs.NearestWord.{IsNearest}
use Rattle.nextest_config_values.specs.Read.{words_of}
use Rattle.nextest_config_lint.specs.Explain.Nearest.{below_profile, explained_words}
use Rattle.nextest_config_lint.specs.Explain.Topic.{topic_word, topics}
use Rattle.nextest_config_lint.proofs.explain.nearest.nearest_topic_or_key.Goals as goal

pub returns : goal.returns
returns c =
    let paths = ap (map string_bytes) c.as_slice.ensures.value ∙ c.in_ok-paths.ensures in
    let words : words_of c.as_slice-2.result.now ≡ explained_words =
    ap words_of c.as_slice-2.ensures.value ∙ c.in_ok-words.ensures ∙ ap (λ paths. map topic_word topics ++ paths) paths in
    let found = option_map string_bytes c.in_ok-near-2.near in
    let by_words = subst (IsNearest (words_of c.as_slice-2.result.now) c.below_profile.result.now) (sym c.in_ok-near-2.ensures) c.in_ok-near.ensures in
    subst (λ all. IsNearest all (below_profile c.args.word.now) found) words (subst (λ word. IsNearest (words_of c.as_slice-2.result.now) word found) c.below_profile.ensures by_words)
