-- How often a list is halved until one place of it is left.
use Rattle.std.specs.Prelude.{ℕ, zero, suc, ◌-◌, ◌/◌, ltb, if◌then◌else◌}

-- how often n places are halved until place i alone is left, where that is at most so often
unfoldable pub halvings_within : ℕ → ℕ → ℕ → ℕ
halvings_within zero n i = 0
halvings_within (suc most) n i =
    if ltb n 2 then 0
    else if ltb i (n / 2) then suc (halvings_within most (n / 2) i)
    else suc (halvings_within most (n - n / 2) (i - n / 2))

-- how often n places are halved until place i alone is left: not at all for up to one place; else
-- once more than the half that holds place i, counted within it
unfoldable pub halvings : ℕ → ℕ → ℕ
halvings n i = halvings_within n n i
