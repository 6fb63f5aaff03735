use Rattle.std.proofs.Common.{◌∙◌, sym, ap, refl, subst, arith}
use Rattle.std.specs.Str.{chars}
use Rattle.nextest_config_filters.specs.Filter.Reading.{reading_of}
use Rattle.nextest_config_filters.specs.Filter.Steps.{IsStepBy}
use Rattle.nextest_config_filters.specs.Filter.Walk.{next_of}
use Rattle.nextest_config_filters.specs.Front.{opening}
use Rattle.nextest_config_filters.proofs.Filters.Readings.{Leaves}
use Rattle.nextest_config_filters.proofs.Filters.Regexes.{leaves_judged}
use Rattle.nextest_config_filters.proofs.Filters.Walks.{shown_reading}
use Rattle.nextest_config_filters.proofs.Fronts.{past}
use Rattle.nextest_config_filters.proofs.filter.walk.next_step.Goals as goal

pub opened-requires : goal.opened-requires
opened-requires c =
    let cs = chars c.args.state.rest.now in
    let reading = ap reading_of (sym c.in-Opens.is) ∙ c.in_ok-reading.ensures.judged in
    let left = past cs (chars c.in-Opens.rest.now) opening
    (subst (Leaves cs) (sym reading) (leaves_judged c.args.place c.args.state.expects cs)) in
    omega (arith, left.1, c.requires)

pub returns-in-GoesOn : goal.returns-in-GoesOn
returns-in-GoesOn c = record {
  step = λ now shows. (
    record { expects = c.in-GoesOn.expects; open_ones = now.open_ones; rest = chars c.in-GoesOn.rest.now },
    ap (λ read. next_of read now.open_ones)
        (sym (ap reading_of (sym c.in-GoesOn.is) ∙ c.in_ok-reading.ensures.judged
        ∙ shown_reading c.args.place c.args.level c.args.state now shows)),
    record { expects = refl; rest = refl; deep = shows.deep; of_level = shows.of_level },
  );
  no_memory = λ none. refl;
}

pub returns-in-Closes : goal.returns-in-Closes
returns-in-Closes c = record {
  step = λ now shows. subst (λ reading. IsStepBy c.args.level reading now c.closed.result)
      (ap reading_of (sym c.in-Closes.is) ∙ c.in_ok-reading.ensures.judged
      ∙ shown_reading c.args.place c.args.level c.args.state now shows)
      (c.closed.ensures c.args.level now shows);
  no_memory = λ none. refl;
}
