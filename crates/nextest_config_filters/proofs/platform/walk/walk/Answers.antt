use Rattle.std.proofs.Common.{length, ap, refl, arith, rules}
use Rattle.std.specs.Str.{chars}
use Rattle.nextest_config_filters.specs.Platform.Walk.{next, start}
use Rattle.nextest_config_filters.specs.Steps.{stays}
use Rattle.nextest_config_filters.proofs.Filters.Walks.{chars_fit}
use Rattle.nextest_config_filters.proofs.Platforms.Steps.{next_within, within_at_start}
use Rattle.nextest_config_filters.proofs.Steps.{leads_on}
use Rattle.nextest_config_filters.proofs.platform.walk.walk.Goals as goal

pub loop-outer-init : goal.loop-outer-init
loop-outer-init c =
    let cs = chars c.args.text.now in
    let opened = chars c.args.opened.now in
    record {
      text = c.utf8.opened;
      room = omega arith;
      at = (
        start cs opened,
        stays (start cs opened),
        record { before = refl; level = c.first_level.ensures; outer = c.new-outer.ensures.items; rest = refl },
        within_at_start cs opened c.requires,
      );
    }

pub next_step-requires : goal.next_step-requires
next_step-requires c =
    let at = c.loop-outer.invariant.at in
    let room = at.3.level.room in
    omega (arith, room, ap length at.2.rest, ap (λ level. level.members) at.2.level, chars_fit c.args.text.now c.utf8.text)

pub loop-outer-smaller : goal.loop-outer-smaller
loop-outer-smaller c =
    let at = c.loop-outer.invariant.at in
    let step = rw c.in-To.is at (c.in_ok-next.ensures.step at.0 at.2) in
    let kept = next_within (chars c.args.text.now) at.0 step.0 at.3 step.1 in
    omega (arith, kept.1, ap length at.2.rest, ap length step.2.rest)

pub loop-outer-preserved : goal.loop-outer-preserved
loop-outer-preserved c =
    let at = c.loop-outer.invariant.at in
    let step = rw c.in-To.is at (c.in_ok-next.ensures.step at.0 at.2) in
    let kept = next_within (chars c.args.text.now) at.0 step.0 at.3 step.1 in
    record {
      text = search rules;
      room = omega (arith, c.loop-outer.invariant.room, c.in_ok-next.ensures.capacity);
      at = (step.0, leads_on next _ _ _ at.1 step.1, step.2, kept.0);
    }

pub returns-in_err-next-clause-no_memory : goal.returns-in_err-next-clause-no_memory
returns-in_err-next-clause-no_memory c shallow =
    let at = c.loop-outer.invariant.at in
    let beyond = c.in_err-next.ensures.beyond at.0 at.2 in
    let most = shallow beyond.0 (leads_on next _ _ _ at.1 beyond.1) in
    absurd (omega (arith, c.loop-outer.invariant.room, most, beyond.2))
