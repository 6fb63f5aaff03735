use Rattle.std.proofs.Common.{rules, string_bytes}
use Rattle.std.proofs.lemmas.List.{flat_map_more, map_push}
use Rattle.std.proofs.lemmas.Iterator.Consumers.{YieldsList-end, YieldsList-from_first}
use Rattle.nextest_config.specs.NextestVersion.{place_of, arrays_left}
use Rattle.nextest_config_report.specs.Lines.{array_line}
use Rattle.nextest_config_report.proofs.lines.push_arrays.Goals as goal

pub loop-source-preserved : goal.loop-source-preserved
loop-source-preserved c =
    rw (
      map_push (λ source. place_of source.now) c.loop-source.yielded c.in-Some.source,
      ← flat_map_more (array_line c.args.style) (string_bytes c.args.text.now),
      ← c.loop-source.invariant,
    )
    (rw (← c.in_ok-source.ensures) c.in_ok-writeln.ensures.bytes)

pub returns : goal.returns
returns c =
    let all = YieldsList-end (YieldsList-from_first (λ source. place_of source.now) arrays_left (arrays_left c.args.arrays) (search rules)) c.loop-source.yielded _ c.loop-source.yielded_by _ c.next.new.self c.in-None.is c.next.ensures.steps in
    rw (← all.0) c.loop-source.invariant
