use Rattle.std.proofs.Common.{◌≡◌, Some, ap, refl, sym, ◌∙◌}
use Rattle.std.specs.Prelude.{option_copied}
use Rattle.toml.specs.Data.{as_str}
use Rattle.toml.specs.View.{view}
use Rattle.nextest_config_profiles.proofs.Ways.{text_said}
use Rattle.nextest_config_profiles.proofs.chain.next_profile.Goals as goal

pub returns-in-Some-2-clause-fault : goal.returns-in-Some-2-clause-fault
returns-in-Some-2-clause-fault c =
    let last = rw c.in-Some.is at c.last_value.ensures in
    let told : as_str (view c.in-Some.inherits.value.now) ≡ Some c.in-Some-as_str.parent.now = sym c.as_str.ensures ∙ ap option_copied c.in-Some-as_str.is in
    (refl, (c.in-Some.inherits.layer, rw (text_said (view c.in-Some.inherits.value.now) c.in-Some-as_str.parent.now told) at last), λ is. absurd (cc (c.is_profile.ensures.1 is, c.if-is_profile.false)))
