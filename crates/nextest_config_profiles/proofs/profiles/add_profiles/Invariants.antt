use Rattle.std.proofs.Common.{◌≡◌, ◌↔◌, ◌⊎◌, ℕ, List, string_bytes}
use Rattle.nextest_config_profiles.specs.Profiles.{HasName, SomeOf}
use Rattle.nextest_config_profiles.proofs.profiles.add_profiles.Given as goal

-- the names are those from before and the ones so far
abbrev pub invariant-loop-name : goal.invariant-loop-name
invariant-loop-name l = (name : List ℕ) → HasName l.names.keys name
    ↔ (HasName l.fn.names.keys name ⊎ SomeOf (λ key. string_bytes key.now ≡ name) l.yielded)
