use Rattle.std.specs.Str.{chars, skip_leading_whitespace as behind_spaces}
use Rattle.nextest_config_filters.specs.Platform.Reading.{fault_view}
use Rattle.nextest_config_filters.specs.Platform.Walk.{not_judged, passes}
use Rattle.nextest_config_filters.proofs.Platforms.Outcomes.{bytes_reported, none_wrong, reported_in_text}
use Rattle.nextest_config_filters.proofs.platform.platform_fault.Goals as goal

pub hinted-requires : goal.hinted-requires
hinted-requires c =
    let cs = chars c.args.text.now in
    bytes_reported cs (fault_view c.in-Wrong.found)
    (reported_in_text cs (fault_view c.in-Wrong.found) (rw (c.in-Wrong.is, c.behind_spaces.ensures) at c.in_ok-found.ensures.found))

pub returns-in_err-fault-in-Wrong-clause-no_memory : goal.returns-in_err-fault-in-Wrong-clause-no_memory
returns-in_err-fault-in-Wrong-clause-no_memory c none shallow =
    absurd (none (fault_view c.in-Wrong.found) (rw (c.in-Wrong.is, c.behind_spaces.ensures) at c.in_ok-found.ensures.found))

pub returns-in-Passes-clause-found : goal.returns-in-Passes-clause-found
returns-in-Passes-clause-found c own is =
    none_wrong (behind_spaces (chars c.args.text.now)) passes is.reported (λ no. cc no)
    (rw (c.in-Passes.is, c.behind_spaces.ensures) at c.in_ok-found.ensures.found) is.is_reported

pub returns-in-Unjudged-clause-found : goal.returns-in-Unjudged-clause-found
returns-in-Unjudged-clause-found c own is =
    none_wrong (behind_spaces (chars c.args.text.now)) not_judged is.reported (λ no. cc no)
    (rw (c.in-Unjudged.is, c.behind_spaces.ensures) at c.in_ok-found.ensures.found) is.is_reported
