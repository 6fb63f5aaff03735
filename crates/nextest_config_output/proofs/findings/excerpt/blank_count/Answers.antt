use Rattle.std.proofs.Common.{ℕ, arith}
use Rattle.std.proofs.lemmas.List.{length-take}
use Rattle.nextest_config_output.proofs.findings.excerpt.blank_count.Goals as goal

pub columns-requires : goal.columns-requires
columns-requires c = rw c.front-shown.ensures (omega (arith, length-take {A = ℕ}))

pub columns-requires-else-begins_past_cut : goal.columns-requires-else-begins_past_cut
columns-requires-else-begins_past_cut c =
    rw (c.front.ensures, c.front-shown.ensures) (omega (arith, length-take {A = ℕ}))
