use Rattle.std.proofs.Common.{Bor, ℕ, List, refl}
use Rattle.std.proofs.lemmas.List.{take_all}
use Rattle.serde_json.specs.Data.{string}
use Rattle.nextest_config_report.proofs.Values.{array_view}
use Rattle.nextest_config_report.proofs.show.profiles_value.Goals as goal

pub returns : goal.returns
returns c =
    let so_far = rw (take_all c.loop-name.name-index c.args.profiles.now c.loop-name-test.false) at c.loop-name.invariant in
    array_view string (λ (name : Bor (List ℕ)). name.now) c.args.profiles.now _ c.loop-name.names so_far refl
