use Rattle.std.proofs.Common.{length}
use denote.Text.{Utf8}
use denote.Shadow.{shadow}
use Rattle.nextest_config_lint.proofs.Mistakes.{IsLastSoFar}
use Rattle.nextest_config_lint.proofs.mistake.last_header.Given as goal

abbrev pub invariant-lines : goal.invariant-lines
invariant-lines l = shadow (Utf8 l.rest) × IsLastSoFar l.front l.rest l.header

abbrev pub decreases-lines : goal.decreases-lines
decreases-lines l = length l.rest
