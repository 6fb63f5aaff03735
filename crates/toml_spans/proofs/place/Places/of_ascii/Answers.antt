use Rattle.std.proofs.Common.{◌≡◌, ◌<◌, [], append-nil, arith, false, get_or, true}
use Rattle.std.proofs.lemmas.Bool.Decides.{nat_tests}
use Rattle.toml_spans.specs.Offsets.{begins_character, ends_line}
use Rattle.toml_spans.proofs.Places.{up_to_more}
use Rattle.toml_spans.proofs.place.Places.of_ascii.Goals.{then-byte-eq10+in_ok-push-2, else-byte-eq10}
use Rattle.toml_spans.proofs.place.Places.of_ascii.Goals as goal

pub loop-offset-preserved : goal.loop-offset-preserved
loop-offset-preserved c =
    let before = c.loop-offset in
    let bytes = c.as_bytes-byte-items.result.now in
    let byte = get_or bytes before.offset 0 in
    let ascii : byte < 128 = rw c.as_bytes-byte-items.ensures.value (c.requires before.offset) in
    let begins : begins_character byte ≡ true = grind (arith, nat_tests) in
    let more = rw begins at (up_to_more bytes before.line_begins.items [] before.offset c.loop-offset-test.true before.invariant) in
    elim c.if-byte-eq10.branch [
      | then-byte-eq10+in_ok-push-2 w ↦ rw (w.line_begins-is, w.in_ok-push-2.ensures.items) (rw w.if-byte-eq10.true at more)
      | else-byte-eq10 w ↦
          let no_feed : ends_line byte ≡ false = grind (arith, nat_tests, w.if-byte-eq10.false) in
          rw w.line_begins-is (rw (no_feed, append-nil) at more)
    ]
