use Rattle.std.proofs.Common.{rules, string_bytes}
use Rattle.std.proofs.lemmas.List.{flat_map_more, map_push}
use Rattle.std.proofs.lemmas.Iterator.Consumers.{YieldsList-end, YieldsList-from_first}
use Rattle.nextest_config.specs.NextestVersion.{errors_left, told_by}
use Rattle.nextest_config_report.specs.Lines.{unknown_line}
use Rattle.nextest_config_report.proofs.lines.push_unknown.Goals as goal

pub loop-source-preserved : goal.loop-source-preserved
loop-source-preserved c =
    rw (
      map_push told_by c.loop-source.yielded (c.in-Some.source, c.in-Some.names),
      ← flat_map_more (unknown_line c.args.style) (string_bytes c.args.text.now),
      ← c.loop-source.invariant,
    )
    (search rules)

pub returns : goal.returns
returns c =
    let all = YieldsList-end (YieldsList-from_first told_by errors_left (errors_left c.args.errors) (search rules)) c.loop-source.yielded _ c.loop-source.yielded_by _ c.next.new.self c.in-None.is c.next.ensures.steps in
    rw (← all.0) c.loop-source.invariant
