use Rattle.std.proofs.Common.{◌≡◌, IfOk, Some, option_map, string_bytes, subst}
use Rattle.toml.specs.View.{view}
use Rattle.nextest_config_lint.specs.Found.{suggestion_of}
use Rattle.nextest_config_lint.specs.Hints.Durations.{digits_of, IsShortHint}
use Rattle.nextest_config_lint.proofs.hints.durations.short_duration_hint.Goals as goal

pub returns-in-Some : goal.returns-in-Some
returns-in-Some c =
    let digits : Some (string_bytes c.in-Some.digits) ≡ digits_of (view c.args.value.now) = rw c.in-Some.is at c.in_ok-digits.ensures in
    subst (λ digits. IfOk c.either_hint.result (λ hint. IsShortHint digits (option_map suggestion_of hint))) digits (rw c.as_str.ensures.value at c.either_hint.ensures)
