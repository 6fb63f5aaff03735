use Rattle.std.proofs.Common.{◌≡◌, false, length}
use Rattle.std.specs.Str.{chars, IsUtf8}
use Rattle.nextest_config_filters.specs.Platform.Outcome.{is_closed}
use Rattle.nextest_config_filters.proofs.platform.outcome.is_closed.Given as goal

-- the rest says the same
abbrev pub invariant-loop-c : goal.invariant-loop-c
invariant-loop-c l = record {
  text : IsUtf8 l.rest;
  same : is_closed l.closed (chars l.rest) ≡ is_closed false (chars l.text);
}

abbrev pub decreases-loop-c : goal.decreases-loop-c
decreases-loop-c l = length (chars l.rest)
