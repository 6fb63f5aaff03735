use Rattle.std.proofs.Common.{length, ap, refl, arith, rules}
use Rattle.std.specs.Str.{chars}
use Rattle.nextest_config_filters.specs.Filter.Walk.{next, start}
use Rattle.nextest_config_filters.specs.Steps.{stays}
use Rattle.nextest_config_filters.proofs.Filters.Steps.{next_within, within_at_start}
use Rattle.nextest_config_filters.proofs.Filters.Walks.{chars_fit}
use Rattle.nextest_config_filters.proofs.Steps.{leads_on}
use Rattle.nextest_config_filters.proofs.filter.walk.walk.Goals as goal

pub loop-step-init : goal.loop-step-init
loop-step-init c =
    let cs = chars c.args.text.now in
    record {
      text = c.utf8.text;
      last = c.utf8.text;
      at = (start cs, stays (start cs), record { expects = refl; rest = refl; deep = refl; of_level = λ opened is. cc is }, within_at_start cs);
    }

pub next_step-requires : goal.next_step-requires
next_step-requires c =
    let at = c.loop-step.invariant.at in
    omega (arith, at.2.deep, ap length at.2.rest, at.3.room, chars_fit c.args.text.now c.utf8.text)

pub loop-step-smaller : goal.loop-step-smaller
loop-step-smaller c =
    let at = c.loop-step.invariant.at in
    let step = rw c.in-To.is at (c.in_ok-step.ensures.step at.0 at.2) in
    let kept = next_within c.args.place (chars c.args.text.now) at.0 step.0 at.3 step.1 in
    omega (arith, kept.1, ap length at.2.rest, ap length step.2.rest)

pub loop-step-preserved : goal.loop-step-preserved
loop-step-preserved c =
    let at = c.loop-step.invariant.at in
    let step = rw c.in-To.is at (c.in_ok-step.ensures.step at.0 at.2) in
    let kept = next_within c.args.place (chars c.args.text.now) at.0 step.0 at.3 step.1 in
    record {
      text = search rules;
      last = search rules;
      at = (step.0, leads_on (next c.args.place) _ _ _ at.1 step.1, step.2, kept.0);
    }

pub returns-in-Open : goal.returns-in-Open
returns-in-Open c =
    let at = c.loop-step.invariant.at in
    let step = rw c.in-Open.is at (c.in_ok-step.ensures.step at.0 at.2) in
    record {
      walk = (
        record { state = at.0; leads = at.1; at_end = step.0; open_many = at.2.deep; some = omega (arith, at.2.deep, step.1) },
        at.2.of_level,
      );
      no_memory = λ none. refl;
    }
