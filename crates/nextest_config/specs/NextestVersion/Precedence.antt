-- The precedence of versions (SemVer 2.0.0, items 10 and 11): the numbers in turn, then the
-- pre-release; build metadata doesn't count.
use Rattle.std.specs.Prelude.{◌≡◌, ◌<◌, [], Bool, true, not, ◌⊎◌}
use Rattle.std.specs.Ordering.{nat_cmp, ordering_then, is_lt}
use Rattle.std.specs.declared.cmp.Ordering.{Ordering}
use Rattle.semver.specs.Order.{pre_cmp}
use Rattle.semver.specs.Parse.{Parts}
use Rattle.nextest_config.specs.NextestVersion.VersionText.{Numbers}

-- how two versions compare
abbrev pub precedence : Parts → Parts → Ordering
precedence v w = ordering_then (nat_cmp v.0 w.0)
    (ordering_then (nat_cmp v.1 w.1) (ordering_then (nat_cmp v.2 w.2) (pre_cmp v.3 w.3)))

-- whether the first version is below the second
abbrev pub is_below : Parts → Parts → Bool
is_below v w = is_lt (precedence v w)

-- the first version is below the second
abbrev pub IsBelow : Parts → Parts → Type 0
IsBelow v w = is_below v w ≡ true

-- whether the first version, as the current one, is enough for the second: it isn't below it
abbrev pub is_enough : Parts → Parts → Bool
is_enough current asked = not (is_below current asked)

-- the first version, as the current one, is enough for the second
abbrev pub IsEnough : Parts → Parts → Type 0
IsEnough current asked = is_enough current asked ≡ true

-- the current version is enough by its numbers: it has a greater major; or the same major and a
-- greater minor; or the same minor, too, and a greater patch; or the same numbers and no
-- pre-release
abbrev pub IsEnoughByNumbers : Parts → Numbers → Type 0
IsEnoughByNumbers current asked =
    (asked.0 < current.0)
    ⊎ ((current.0 ≡ asked.0) × ((asked.1 < current.1)
    ⊎ ((current.1 ≡ asked.1) × ((asked.2 < current.2)
    ⊎ ((current.2 ≡ asked.2) × (current.3 ≡ []))))))
