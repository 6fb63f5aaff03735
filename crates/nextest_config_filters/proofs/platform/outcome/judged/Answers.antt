use Rattle.std.proofs.Common.{◌≡◌, refl, sym, subst}
use Rattle.std.proofs.lemmas.Bool.{false≢true}
use Rattle.std.specs.Prelude.{codes}
use Rattle.std.specs.Str.{chars}
use Rattle.nextest_config_filters.specs.Platform.Outcome.{IsOutcomeBy}
use Rattle.nextest_config_filters.specs.Platform.Steps.{outcome_view}
use Rattle.nextest_config_filters.proofs.Characters.{ascii_chars}
use Rattle.nextest_config_filters.proofs.platform.outcome.judged.Goals as goal

cfg : chars (codes "cfg(") ≡ codes "cfg("
cfg = ascii_chars (codes "cfg(") refl

pub judged_cfg-requires : goal.judged_cfg-requires
judged_cfg-requires c = rw cfg at c.in-Some.ensures

pub returns-in_err-outcome-in-Some-clause-no_memory : goal.returns-in_err-outcome-in-Some-clause-no_memory
returns-in_err-outcome-in-Some-clause-no_memory c shallow =
    absurd (false≢true (c.in_err-outcome-in-Some.ensures.no_memory
    (shallow (chars c.in-Some.opened.now) (rw cfg at c.in-Some.ensures))))

pub returns-in_ok-outcome-in-Some-clause-found : goal.returns-in_ok-outcome-in-Some-clause-found
returns-in_ok-outcome-in-Some-clause-found c =
    subst (λ found. IsOutcomeBy found (chars c.args.text.now) (outcome_view c.in_ok-outcome-in-Some.outcome))
    (sym (rw cfg at c.in-Some.ensures)) c.in_ok-outcome-in-Some.ensures.found

pub returns-in-None-clause-found : goal.returns-in-None-clause-found
returns-in-None-clause-found c =
    subst (λ found. IsOutcomeBy found (chars c.args.text.now) (outcome_view c.outside.result))
    (sym (rw cfg at c.in-None.ensures)) c.outside.ensures
