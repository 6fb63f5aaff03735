use Rattle.std.proofs.lemmas.List.{take_all}
use Rattle.nextest_config_values.proofs.Words.{no_word}
use Rattle.nextest_config.specs.NextestVersion.{all_features, feature_reads_back, word_of}
use Rattle.nextest_config.proofs.nextest_version.experimental.ConfigExperimental.from_str.Goals as goal

pub returns-clause-refused : goal.returns-clause-refused
returns-clause-refused c =
    no_word all_features word_of c.args.text.now feature_reads_back
    (rw (take_all c.loop-feature.feature-index c.all-feature-items.result.now c.loop-feature-test.false, c.all-feature-items.ensures) at c.loop-feature.invariant)
