use Rattle.toml_spans.specs.Index.{IsIndexOf}
use Rattle.nextest_config_command.proofs.AskedVersions.{range_reported}
use Rattle.nextest_config_command.proofs.asked.range_at.Goals as goal

pub returns-in-Some-clause-range : goal.returns-in-Some-clause-range
returns-in-Some-clause-range c =
    let of_text : IsIndexOf c.args.text.now c.in-Some.index = rw c.in-Some.is at c.in_ok-index.ensures.of_text in
    range_reported c.args.text.now c.in-Some.index _ c.value_or_key.result of_text (c.value_or_key.ensures c.args.text.now of_text)
