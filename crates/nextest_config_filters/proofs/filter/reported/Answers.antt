use Rattle.std.proofs.Common.{◌∙◌, refl, sym, ap}
use Rattle.std.proofs.lemmas.Str.{chars-nil}
use Rattle.std.specs.Str.{chars}
use Rattle.nextest_config_filters.specs.Filter.Reading.{fault_at}
use Rattle.nextest_config_filters.specs.declared.fault.FilterFlaw.TheVariants.{Empty}
use Rattle.nextest_config_filters.proofs.Characters.{no_characters, some_characters}
use Rattle.nextest_config_filters.proofs.Filters.Steps.{reported_empty, walked_either}
use Rattle.nextest_config_filters.proofs.filter.reported.Goals as goal

pub returns-then-is_empty : goal.returns-then-is_empty
returns-then-is_empty c = record {
  reported = reported_empty c.args.place (chars c.args.text.now) _
      (sym c.behind_spaces.ensures ∙ no_characters c.behind_spaces.result.now (sym c.is_empty.ensures ∙ c.if-is_empty.true))
      (c.fault_at.ensures ∙ ap (λ cs. fault_at (chars c.args.text.now) cs Empty) chars-nil);
  no_memory = λ none. refl;
}

pub returns : goal.returns
returns c = record {
  reported = walked_either c.args.place (chars c.args.text.now)
      (λ none. some_characters c.behind_spaces.result.now c.behind_spaces.utf8 (sym c.is_empty.ensures ∙ c.if-is_empty.false) (c.behind_spaces.ensures ∙ none))
      c.in_ok-found.found c.in_ok-found.ensures.walked;
  no_memory = λ none. refl;
}
