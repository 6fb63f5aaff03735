use Rattle.std.proofs.Common.{rules, ◌≡◌, false, true, append-nil, arith, get_or}
use Rattle.std.proofs.lemmas.Bool.Decides.{nat_tests}
use Rattle.toml_spans.specs.Offsets.{begins_character, ends_line}
use Rattle.toml_spans.proofs.Places.{up_to_more}
use Rattle.toml_spans.proofs.place.Places.of_any.Goals.{then-byte-eq10+in_ok-push-2, else-byte-eq10+then-not-begins_character+in_ok-push-3, else-byte-eq10+else-not-begins_character}
use Rattle.toml_spans.proofs.place.Places.of_any.Goals as goal

pub loop-offset-preserved : goal.loop-offset-preserved
loop-offset-preserved c =
    let before = c.loop-offset in
    let bytes = c.as_bytes-byte-items.result.now in
    let byte = get_or bytes before.offset 0 in
    let more = up_to_more bytes before.line_begins.items before.continuations.items before.offset c.loop-offset-test.true before.invariant in
    elim c.if-byte-eq10.branch [
      | then-byte-eq10+in_ok-push-2 w ↦
          rw (w.line_begins-is, w.continuations-is, w.in_ok-push-2.ensures.items) (rw (w.if-byte-eq10.true, append-nil) at more)
      | else-byte-eq10+then-not-begins_character+in_ok-push-3 w ↦
          let no_feed : ends_line byte ≡ false = grind (arith, nat_tests, w.if-byte-eq10.false) in
          let continues : begins_character byte ≡ false = search rules in
          rw (w.line_begins-is, w.continuations-is, w.in_ok-push-3.ensures.items) (rw (no_feed, continues, append-nil) at more)
      | else-byte-eq10+else-not-begins_character w ↦
          let no_feed : ends_line byte ≡ false = grind (arith, nat_tests, w.if-byte-eq10.false) in
          let begins : begins_character byte ≡ true = search rules in
          rw (w.line_begins-is, w.continuations-is) (rw (no_feed, begins, append-nil, append-nil) at more)
    ]
