-- What each profile inherits from, by the value that counts.
use Rattle.std.specs.Prelude.{◌≡◌, ◌≢◌, ◌↔◌, ℕ, List, Option, Some, None, option_and_then, option_map}
use Rattle.std.specs.Borrow.{Bor}
use Rattle.std.specs.BTreeMap.{BTreeMap, get_by}
use Rattle.std.specs.Cmp.Lexicographic.{slice_cmp}
use Rattle.std.specs.Ordering.{nat_cmp}
use Rattle.toml.specs.Data.{as_str, Data, get_member, Members}
use Rattle.nextest_config_lint.specs.Defined.{default_profile, inherits_key, IsCounting, ListFile, table_in}
use Rattle.nextest_config_lint.specs.declared.inheritance.Link.{Link}

-- what a profile inherits from, and the position of the file that says so
pub record LinkView : Type 0 where
  pub position : ℕ
  pub parent : List ℕ

-- the profile isn't `default`, and the value that counts stands in this file and names this parent
abbrev pub IsLink : List ListFile → List ℕ → LinkView → Type 0
IsLink files profile link = (profile ≢ default_profile)
    × ((value : Data) × IsCounting files profile link.position value
    × (as_str value ≡ Some link.parent))

-- each link that is kept is one of the profile
abbrev pub AreLinks : List ListFile → (List ℕ → Option LinkView) → Type 0
AreLinks files links = (profile : List ℕ) (link : LinkView)
    → links profile ≡ Some link → IsLink files profile link

-- the links that are kept are those of all profiles
abbrev pub AreLinksOf : List ListFile → (List ℕ → Option LinkView) → Type 0
AreLinksOf files links = (profile : List ℕ) (link : LinkView)
    → (links profile ≡ Some link) ↔ IsLink files profile link

-- the link to this profile, by the file at this position
abbrev pub link_at : ℕ → List ℕ → LinkView
link_at position parent = record { position = position; parent = parent }

-- the value of `inherits` of a profile in a table of these
abbrev pub inherits_among : List ℕ → Members → Option Data
inherits_among profile profiles =
    option_and_then (get_member inherits_key) (table_in profile profiles)

-- the link by a value of `inherits` in the file at this position, or without one the earlier link
abbrev pub link_over : ℕ → Option Data → Option LinkView → Option LinkView
link_over position None earlier = earlier
link_over position (Some value) earlier = option_map (link_at position) (as_str value)

-- a link, without where it lies in memory
abbrev pub link_view : Link → LinkView
link_view link = link_at link.position link.parent.now

-- the link that is kept for a profile
abbrev pub link_in : BTreeMap (Bor (List ℕ)) Link → List ℕ → Option LinkView
link_in links profile = option_map link_view (get_by (λ key. slice_cmp nat_cmp profile key.now)
    links)
