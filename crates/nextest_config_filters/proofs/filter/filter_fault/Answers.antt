use Rattle.std.proofs.Common.{MatchOption, Option, subst}
use Rattle.std.specs.Str.{chars}
use Rattle.nextest_config_filters.specs.Filter.Fault.{IsReported}
use Rattle.nextest_config_filters.specs.Filter.Reading.{fault_view, FaultAt}
use Rattle.nextest_config_filters.specs.declared.filter.reading.FaultAt.{FaultAt as OwnFaultAt}
use Rattle.nextest_config_filters.proofs.Filters.Steps.{reported_rest}
use Rattle.nextest_config_filters.proofs.filter.filter_fault.Goals as goal

pub hinted-requires : goal.hinted-requires
hinted-requires c =
    let cs = chars c.args.text.now in
    reported_rest c.args.place cs (fault_view c.in-Some.fault)
    (subst (λ (found : Option OwnFaultAt). MatchOption found ((reported : FaultAt) → ¬ IsReported c.args.place cs reported)
    (λ own. IsReported c.args.place cs (fault_view own))) c.in-Some.is c.in_ok-reported.ensures.reported)
