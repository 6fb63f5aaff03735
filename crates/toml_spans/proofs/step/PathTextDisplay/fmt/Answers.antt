use Rattle.std.proofs.Common.{IsOk, map, rules, take}
use Rattle.std.proofs.lemmas.List.{map_more, take_all}
use Rattle.std.proofs.Output.{has_written_append, has_written_of_eq}
use Rattle.toml_spans.specs.Step.{step_of}
use Rattle.toml_spans.proofs.Steps.{is_some_after, printed_one_more}
use Rattle.toml_spans.proofs.step.PathTextDisplay.fmt.Goals as goal

pub loop-step-preserved : goal.loop-step-preserved
loop-step-preserved g c =
    let more = printed_one_more c.args.self.now.0.now c.loop-step.step-index c.step-item.result c.loop-step.behind c.loop-step-test.true c.step-item.is c.loop-step.invariant.0 in (
      rw (map_more step_of c.args.self.now.0.now c.loop-step.step-index c.step-item.result c.loop-step-test.true) (is_some_after (map step_of (take c.loop-step.step-index c.args.self.now.0.now)) _),
      λ plain.
          let ok : IsOk c.write_step.result = search rules in
          let first = c.loop-step.invariant.1 plain in
          let later = c.write_step.ensures first.plain ok in
          has_written_of_eq _ _ _ _ _ more (has_written_append _ _ _ c.loop-step.f _ _ first later),
    )

pub returns-clause-writes : goal.returns-clause-writes
returns-clause-writes g c = λ plain ok. rw (take_all c.loop-step.step-index c.args.self.now.0.now c.loop-step-test.false) at c.loop-step.invariant.1 plain
