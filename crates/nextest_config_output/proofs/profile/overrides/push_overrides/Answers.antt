use Rattle.std.proofs.Common.{◌≡◌, ℕ, ◌≤◌, List, [], ◌∷◌, ◌++◌, append_assoc, codes, flat_map, length, refl, arith}
use Rattle.nextest_config_profiles.specs.declared.report.parts.Override.{Override}
use Rattle.nextest_config_output.specs.Profile.Overrides.{override_line, overrides_text}
use Rattle.nextest_config_output.proofs.profile.overrides.push_overrides.Goals as goal

-- where there is an override
some_overrides : (name : List ℕ) (overrides : List Override) → 1 ≤ length overrides
    → codes "\noverrides, the first that applies and sets a key wins:\n" ++ flat_map (override_line name) overrides ≡ overrides_text name overrides
some_overrides name [] some = absurd (omega (arith, some))
some_overrides name (first ∷ rest) some = refl

pub returns-in_ok-push_str-in-len1-up : goal.returns-in_ok-push_str-in-len1-up
returns-in_ok-push_str-in-len1-up c =
    rw (
      c.in_ok-push_str-in-len1-up.ensures.bytes,
      append_assoc,
      some_overrides c.args.name.now c.args.overrides.now c.in-len1-up.len_at_least,
    )
    at c.push_override_lines.ensures
