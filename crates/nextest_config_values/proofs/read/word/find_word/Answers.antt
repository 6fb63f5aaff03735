use Rattle.std.proofs.Common.{◌≢◌, ◌∙◌}
use Rattle.std.proofs.lemmas.List.{take_all}
use Rattle.std.specs.Cmp.Lexicographic.{other_text}
use Rattle.toml_spans.proofs.Elements.{all_more}
use Rattle.nextest_config_values.proofs.Words.{no_word}
use Rattle.nextest_config_values.proofs.read.word.find_word.Goals as goal

pub loop-value-preserved : goal.loop-value-preserved
loop-value-preserved g c =
    let differs : g.T.Word.word c.value-item.result ≢ c.args.text.now = λ e. other_text _ _ c.if-eq.ensures (c.as_word.ensures ∙ e) in
    all_more (λ x. g.T.Word.word x ≢ c.args.text.now) c.all-value-items.result.now c.loop-value.value-index c.value-item.result c.loop-value-test.true c.value-item.is
    c.loop-value.invariant differs

pub returns : goal.returns
returns g c =
    no_word g.T.Word.all g.T.Word.word c.args.text.now g.T.Word.reads_back
    (rw (take_all c.loop-value.value-index c.all-value-items.result.now c.loop-value-test.false, c.all-value-items.ensures) at c.loop-value.invariant)
