use Rattle.std.proofs.Common.{◌≡◌}
use Rattle.std.specs.Str.{chars}
use Rattle.nextest_config_filters.specs.Platform.Reading.{fault_view}
use Rattle.nextest_config_filters.specs.Platform.Walk.{not_judged, passes, wrong}
use Rattle.nextest_config_filters.proofs.Platforms.Outcomes.{outcome_once}
use Rattle.nextest_config_filters.proofs.platform.hint.passes.Goals as goal

pub returns-in-Unjudged : goal.returns-in-Unjudged
returns-in-Unjudged c is =
    let no : not_judged ≡ passes =
    outcome_once (chars c.args.text.now) not_judged passes (rw c.in-Unjudged.is at c.in_ok-judged.ensures.found) is in
    cc no

pub returns-in-Wrong : goal.returns-in-Wrong
returns-in-Wrong c is =
    let reported = fault_view c.in-Wrong.field-0 in
    let no : wrong reported ≡ passes =
    outcome_once (chars c.args.text.now) (wrong reported) passes (rw c.in-Wrong.is at c.in_ok-judged.ensures.found) is in
    cc no
