use Rattle.std.proofs.Common.{arith, sym, ◌∙◌}
use Rattle.std.proofs.lemmas.Int.{clamps}
use Rattle.nextest_config_values.proofs.NearestWords.{apart_on, nearer_on, not_nearer_on, same_at}
use Rattle.nextest_config_values.proofs.nearest_word.nearest.Goals.{then-abs_diff-limit+in_ok-edits+then-edits-limit, then-abs_diff-limit+in_ok-edits+else-edits-limit, else-abs_diff-limit}
use Rattle.nextest_config_values.proofs.nearest_word.nearest.Goals as goal

pub loop-word-preserved : goal.loop-word-preserved
loop-word-preserved c =
    let so = c.loop-word.invariant in
    let other = sym c.is_same.ensures ∙ c.if-is_same.false in
    elim c.if-abs_diff-limit.branch [
      | then-abs_diff-limit+in_ok-edits+then-edits-limit w ↦
          rw (w.limit-is, w.found-is) (nearer_on c.args.words.now c.loop-word.word-index _ c.loop-word-test.true other w.in_ok-edits.ensures.value (omega (arith, w.if-edits-limit.true)) so)
      | then-abs_diff-limit+in_ok-edits+else-edits-limit w ↦
          rw (w.limit-is, w.found-is) (not_nearer_on c.args.words.now c.loop-word.word-index _ c.loop-word-test.true other w.in_ok-edits.ensures.value (omega (arith, w.if-edits-limit.false)) so)
      | else-abs_diff-limit w ↦
          rw (w.limit-is, w.found-is) (apart_on c.args.words.now c.loop-word.word-index _ c.loop-word-test.true other c.characters.ensures
          (λ edits more less. omega (arith, clamps, c.characters-length.ensures, c.abs_diff.ensures, w.if-abs_diff-limit.false, more, less)) so)
    ]

pub returns-then-is_same : goal.returns-then-is_same
returns-then-is_same c =
    same_at c.args.words.now c.loop-word.word-index _ c.loop-word-test.true (sym c.is_same.ensures ∙ c.if-is_same.true) c.loop-word.invariant
