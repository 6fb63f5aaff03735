use Rattle.std.proofs.Common.{◌↔◌, IsTrue, rules}
use Rattle.std.specs.Prelude.{EachIndex, slice_index}
use Rattle.std.specs.Int.{IsInRange}
use Rattle.std.proofs.lemmas.Str.Parse.{numerals_by_value, tells_by_index}
use Rattle.nextest_config_elements.proofs.max_fail.are_digits.Goals as goal

pub returns : goal.returns
returns c =
    let bytes = c.args.bytes.now in
    let each : IsTrue c.all.result ↔ EachIndex bytes (λ k. IsInRange 48 57 (slice_index bytes k)) = search rules in
    let digits = numerals_by_value _ tells_by_index in
    (λ holds. digits.to bytes (each.0 holds), λ h. each.1 (digits.from bytes h))
