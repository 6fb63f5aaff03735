use Rattle.std.proofs.Common.{◌≡◌, false, ◌==◌, ◌∙◌, slice_index, arith}
use Rattle.std.proofs.lemmas.Grind.{common_steps}
use Rattle.std.proofs.lemmas.Bool.Decides.{nat_tests}
use Rattle.toml_spans.proofs.Turns.{gives_read_err}
use Rattle.toml_spans.proofs.Quotes.{empty_line, one_line_quoted}
use Rattle.toml_spans.proofs.key.one_line.Goals as goal

pub returns-then-byte_at-first-clause-value : goal.returns-then-byte_at-first-clause-value
returns-then-byte_at-first-clause-value c =
    let text = c.args.text.now in
    let same : slice_index text 1 ≡ slice_index text 0 = grind (arith, nat_tests, common_steps) in
    empty_line text c.requires same ∙ rw (c.skip.ensures.rest, c.new.ensures.bytes)

pub returns-in_err-key-clause-value : goal.returns-in_err-key-clause-value
returns-in_err-key-clause-value c =
    let text = c.args.text.now in
    let other : (slice_index text 1 == slice_index text 0) ≡ false = grind (arith, nat_tests, common_steps) in
    gives_read_err _ _ c.from_residual.ensures.1 λ refused.
    one_line_quoted text other ∙ c.in_err-key.ensures.value refused

pub returns-clause-value : goal.returns-clause-value
returns-clause-value c =
    let text = c.args.text.now in
    let other : (slice_index text 1 == slice_index text 0) ≡ false = grind (arith, nat_tests, common_steps) in
    one_line_quoted text other ∙ c.in_ok-key.ensures.value
