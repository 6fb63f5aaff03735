use Rattle.std.proofs.Common.{◌≤◌, chars, length}
use denote.Text.{Utf8}
use denote.Shadow.{shadow}
use Rattle.nextest_config_values.proofs.Durations.{IsReadUpTo}
use Rattle.nextest_config_values.proofs.duration.parse_duration.Given as goal

abbrev pub invariant-loop-rest : goal.invariant-loop-rest
invariant-loop-rest l = shadow (Utf8 l.rest) × (length l.rest ≤ length l.fn.s) × IsReadUpTo (chars l.fn.s) (chars l.rest) l.nanoseconds

abbrev pub decreases-loop-rest : goal.decreases-loop-rest
decreases-loop-rest l = length l.rest
