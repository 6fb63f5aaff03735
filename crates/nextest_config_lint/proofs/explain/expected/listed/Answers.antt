use Rattle.std.proofs.Common.{◌∙◌}
use Rattle.nextest_config_values.specs.Read.{words_of, words_text}
use Rattle.nextest_config_lint.proofs.explain.expected.listed.Goals as goal

pub unreachable-requires : goal.unreachable-requires
unreachable-requires c =
    let printed = c.as_str.ensures.value ∙ c.in_ok-text.ensures.ok in
    c.in-None.ensures.cases (words_text (words_of c.args.words.now)) (rw c.new.ensures.bytes at printed)
