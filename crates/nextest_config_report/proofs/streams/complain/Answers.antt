use Rattle.std.proofs.Common.{codes}
use Rattle.std.proofs.KnownBytes.{Appends-trans}
use Rattle.nextest_config_report.proofs.Fronts.{front_of_both, still_added, then_front}
use Rattle.nextest_config_report.proofs.streams.complain.Goals as goal

pub returns-in_err-write_text-clause-front : goal.returns-in_err-write_text-clause-front
returns-in_err-write_text-clause-front g c =
    rw (← c.as_bytes.ensures.value) (front_of_both _ _ _ (codes "\n") (front_of_both _ _ _ c.args.word.now c.write_text.ensures.front))

pub returns-in_err-write_text-2-clause-front : goal.returns-in_err-write_text-2-clause-front
returns-in_err-write_text-2-clause-front g c =
    rw (← c.as_bytes.ensures.value, ← c.as_bytes-2.ensures.value) (front_of_both _ _ _ (codes "\n") (then_front _ _ _ _ _ c.in_ok-write_text.ensures.whole c.write_text-2.ensures.front))

pub returns-in_err-write_text-3-clause-front : goal.returns-in_err-write_text-3-clause-front
returns-in_err-write_text-3-clause-front g c =
    let before = Appends-trans _ _ _ _ _ c.in_ok-write_text.ensures.whole c.in_ok-write_text-2.ensures.whole in
    rw (← c.as_bytes.ensures.value, ← c.as_bytes-2.ensures.value) (then_front _ _ _ _ (codes "\n") before c.write_text-3.ensures.front)

pub returns-clause-front : goal.returns-clause-front
returns-clause-front g c =
    let before = Appends-trans _ _ _ _ _ c.in_ok-write_text.ensures.whole c.in_ok-write_text-2.ensures.whole in
    let told = then_front _ _ _ _ (codes "\n") before c.write_text-3.ensures.front in
    rw (← c.as_bytes.ensures.value, ← c.as_bytes-2.ensures.value) (told.0, still_added _ _ _ _ told.0 told.1 c.flush.ensures.bytes)
