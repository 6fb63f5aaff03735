-- Walks from a profile to what it inherits from, and so on.
use Rattle.std.specs.Prelude.{◌≡◌, ◌⊎◌, ℕ, suc, List, Option, Some, None}
use Rattle.nextest_config_lint.specs.Defined.{IsWay, ListFile}
use Rattle.nextest_config_lint.specs.Inheritance.{LinkView}

-- what is kept of a link on the trail
abbrev pub same_link : LinkView → LinkView
same_link link = link

-- what is kept of a link on a ring
abbrev pub position_of : LinkView → ℕ
position_of link = link.position

-- a profile that a walk passed: it was left, and is kept now; a way leads there, and on to where
-- the walk is; and what it inherits from isn't left, or is where the walk is
pub record IsPassed {Kept : Type 0} (files : List ListFile) (keep : LinkView → Kept)
    (from to : List ℕ) (before left : List ℕ → Option LinkView) (kept : List ℕ → Option Kept)
    (profile : List ℕ) : Type 0 where
  pub link : LinkView
  pub was_left : before profile ≡ Some link
  pub gone : left profile ≡ None
  pub is_kept : kept profile ≡ Some (keep link)
  pub reached : (steps : ℕ) × IsWay files steps from profile
  pub leads_on : (steps : ℕ) × IsWay files (suc steps) profile to
  pub parent_gone : (link.parent ≡ to) ⊎ (left link.parent ≡ None)

-- a walk from a profile is at another one: each profile was passed, or is left and kept as before
pub record IsWalk {Kept : Type 0} (files : List ListFile) (keep : LinkView → Kept)
    (from to : List ℕ) (before left : List ℕ → Option LinkView)
    (kept_before kept : List ℕ → Option Kept) : Type 0 where
  pub reached : (steps : ℕ) × IsWay files steps from to
  pub from_gone : (from ≡ to) ⊎ (left from ≡ None)
  pub each : (profile : List ℕ) → IsPassed files keep from to before left kept profile
      ⊎ ((left profile ≡ before profile) × (kept profile ≡ kept_before profile))
