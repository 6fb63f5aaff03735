use Rattle.std.proofs.Common.{◌∷◌, [], ℕ, List, Bor, get_or, refl, take}
use Rattle.std.proofs.lemmas.List.{take_all, take_more}
use Rattle.toml_spans.proofs.Styled.{plainly, styled_more, styled_then}
use Rattle.nextest_config_values.specs.Read.{backquoted_word}
use Rattle.nextest_config_values.proofs.Joined.{joined_words, separator_more}
use Rattle.nextest_config_values.proofs.read.text.write_listed.Goals as goal

pub loop-word-preserved : goal.loop-word-preserved
unfolding lib.Utf8.encode
loop-word-preserved g c =
    let words = c.args.words.now in
    let i = c.loop-word.word-index in
    let none : Bor (List ℕ) = record { ref_ptr = (0, 0); now = [] } in
    let word = get_or words i none in
    rw (take_more words i none c.loop-word-test.true) (
      (44 ∷ 32 ∷ [], (refl, refl)),
      separator_more (take i words) word,
      λ flush. styled_more (c.loop-word.invariant.2 flush)
          (styled_then (λ so. c.in_ok-write_str.ensures.styled so refl) c.in_ok-write_word.ensures.styled) refl
          (joined_words backquoted_word (take i words) word _ c.loop-word.invariant.1),
    )

pub returns-clause-styled : goal.returns-clause-styled
returns-clause-styled g c flush ok = rw (take_all c.loop-word.word-index c.args.words.now c.loop-word-test.false) at (c.loop-word.invariant.2 flush)

pub returns-clause-writes : goal.returns-clause-writes
returns-clause-writes g c p ok = plainly p (returns-clause-styled g c p.flush ok)
