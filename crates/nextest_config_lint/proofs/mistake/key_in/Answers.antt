use Rattle.std.proofs.Common.{inr, map}
use Rattle.toml_spans.specs.Index.{IsIndexOf, ranges_in}
use Rattle.toml_spans.specs.Step.{step_of}
use Rattle.nextest_config_lint.proofs.Mistakes.{line_within}
use Rattle.nextest_config_lint.proofs.mistake.key_in.Goals as goal

pub returns-in-Some-clause-at : goal.returns-in-Some-clause-at
returns-in-Some-clause-at c =
    let of_text : IsIndexOf c.args.part.now c.in-Some.index = rw c.in-Some.is at c.in_ok-index.ensures.of_text in
    inr (c.in-Some.index, of_text, c.key.ensures c.args.part.now of_text)

pub returns-in-Some-clause-line : goal.returns-in-Some-clause-line
returns-in-Some-clause-line c =
    let of_text : IsIndexOf c.args.part.now c.in-Some.index = rw c.in-Some.is at c.in_ok-index.ensures.of_text in
    line_within c.args.part.now ((ranges_in c.in-Some.index).of_key (map step_of c.args.path.now)) c.key.result (c.key.ensures c.args.part.now of_text)
