use Rattle.toml_spans.proofs.Places.{AreUpTo}
use Rattle.toml_spans.proofs.place.Places.of_any.Given as goal

-- where lines begin, and where bytes stand that begin no character, among the bytes so far
abbrev pub invariant-loop-offset : goal.invariant-loop-offset
invariant-loop-offset l = AreUpTo l.byte-items l.offset l.line_begins.items l.continuations.items
