use Rattle.std.proofs.Common.{◌∙◌, sym}
use Rattle.std.specs.Str.{chars}
use Rattle.nextest_config_filters.specs.Front.{without_first}
use Rattle.nextest_config_filters.proofs.Platforms.Walks.{closing_step}
use Rattle.nextest_config_filters.proofs.platform.walk.closed.Goals as goal

pub returns-in-Some-2-clause-step : goal.returns-in-Some-2-clause-step
returns-in-Some-2-clause-step c around is =
    closing_step c.args.level c.in-Some.field-0 c.pop.new.self.items around c.without_first-rest.result
    (without_first (chars c.args.text.now)) (sym c.is_miscounted.ensures ∙ c.if-is_miscounted.false)
    (sym c.in-Some.ensures.items ∙ is) c.without_first-rest.ensures
