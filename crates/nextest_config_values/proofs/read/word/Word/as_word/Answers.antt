use Rattle.nextest_config_values.proofs.Words.{word_at}
use Rattle.nextest_config_values.proofs.read.word.Word.as_word.Goals as goal

pub returns : goal.returns
returns g c = word_at g.Self.Word.word g.Self.Word.all c.words.result.now c.position.result _ _ c.words.ensures c.position.ensures
