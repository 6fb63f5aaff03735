use Rattle.std.proofs.Common.{None, Some, rules}
use Rattle.nextest_config_lint.proofs.mistake.repeated_in.Goals as goal

pub returns-in-Some : goal.returns-in-Some
returns-in-Some c =
    let at = rw (c.as_slice.ensures.value, c.in_ok-add_steps.ensures, c.in-Some.is) at c.in_ok-span.ensures.at in
    (Some c.in-Some.span, at, search rules)

pub returns : goal.returns
returns c =
    let at = rw (c.as_slice.ensures.value, c.in_ok-add_steps.ensures, c.in-None.is) at c.in_ok-span.ensures.at in
    (None, at, search rules)
