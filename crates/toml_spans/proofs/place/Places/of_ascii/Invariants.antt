use Rattle.std.proofs.Common.{[]}
use Rattle.toml_spans.proofs.Places.{AreUpTo}
use Rattle.toml_spans.proofs.place.Places.of_ascii.Given as goal

-- where lines begin among the bytes so far, each of which begins a character
abbrev pub invariant-loop-offset : goal.invariant-loop-offset
invariant-loop-offset l = AreUpTo l.byte-items l.offset l.line_begins.items []
