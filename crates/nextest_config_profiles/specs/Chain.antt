-- The profiles whose settings a profile falls back on.
use Rattle.std.specs.Prelude.{◌≡◌, ◌≢◌, ◌⊎◌, ℕ, codes, List, [], ◌∷◌, ◌++◌, map, MatchOption, Option, Some, None}
use Rattle.toml.specs.Data.{as_str, Data, string}
use Rattle.nextest_config_profiles.specs.Merged.{Layers}
use Rattle.nextest_config_profiles.specs.Profiles.{default_profile, IsProfile}
use Rattle.nextest_config_profiles.specs.Said.{leaf, Said, said_at, said_here}
use Rattle.nextest_config_profiles.specs.Selection.{HasNothing, IsLast}
use Rattle.nextest_config_profiles.specs.declared.chain.ChainFault.{ChainFault}
use Rattle.nextest_config_profiles.specs.declared.chain.ChainFault.TheVariants.{Memory, NoProfile, NotDefined, NotText, Ring}

-- what layers say of the `inherits` of a profile
abbrev pub of_inherits : Layers → List ℕ → List Said
of_inherits layers profile = map (said_at (profile ∷ codes "inherits" ∷ [])) layers

-- what the profile has at `inherits`, as the layers are merged, is this text
abbrev pub Inherits : Layers → List ℕ → List ℕ → Type 0
Inherits layers profile parent =
    (position : ℕ) × IsLast (of_inherits layers profile) position (leaf (string parent))

-- what the profile has at `inherits`, as the layers are merged, is a value but no text
pub record InheritsNoText (layers : Layers) (profile : List ℕ) : Type 0 where
  pub position : ℕ
  pub value : Data
  pub last : IsLast (of_inherits layers profile) position (said_here value)
  pub no_text : as_str value ≡ None

-- the second profile comes after the first: it is what that one inherits from, or else `default`
-- (nextest's documentation)
abbrev pub IsNext : Layers → List ℕ → List ℕ → Type 0
IsNext layers profile next =
    (HasNothing (of_inherits layers profile) × (next ≡ default_profile))
    ⊎ (Inherits layers profile next × IsProfile layers next)

-- the profile and those that come after it, up to `default`, whose own `inherits` isn't followed
-- (nextest's documentation)
abbrev pub IsChain : Layers → List ℕ → List (List ℕ) → Type 0
IsChain layers name [] = ⊥
IsChain layers name (first ∷ rest) = (first ≡ name) × IsProfile layers name
    × (((name ≡ default_profile) × (rest ≡ []))
    ⊎ ((name ≢ default_profile)
    × ((next : List ℕ) × IsNext layers name next × IsChain layers next rest)))

-- ---- profiles without a chain

-- each of these profiles comes after the one before it, which isn't `default`
abbrev pub IsWay : Layers → List (List ℕ) → Type 0
IsWay layers [] = Unit {0}
IsWay layers (name ∷ []) = Unit {0}
IsWay layers (name ∷ next ∷ rest) = (name ≢ default_profile) × IsNext layers name next
    × IsWay layers (next ∷ rest)

-- a way of at least one step leads from one profile to another, or back to itself
pub record Leads (layers : Layers) (from to : List ℕ) : Type 0 where
  pub between : List (List ℕ)
  pub way : IsWay layers (from ∷ (between ++ (to ∷ [])))

-- a way leads from one profile to another, or they are one
abbrev pub LeadsOn : Layers → List ℕ → List ℕ → Type 0
LeadsOn layers from to = (from ≡ to) ⊎ Leads layers from to

-- what is wrong: there is no profile of the name; the way comes back to a profile; a profile
-- inherits from what is none, or has no text there
pub data Wrong : Type 0 where
  no_profile : Wrong
  ring : List ℕ → Wrong
  not_defined : List ℕ → List ℕ → Wrong
  not_text : List ℕ → Wrong

-- what a fault says, unless memory was refused
abbrev pub chain_wrong : ChainFault → Option Wrong
chain_wrong NoProfile = Some no_profile
chain_wrong (Ring profile) = Some (ring profile.now)
chain_wrong (NotDefined profile parent) = Some (not_defined profile.now parent.now)
chain_wrong (NotText profile) = Some (not_text profile.now)
chain_wrong Memory = None

-- what is wrong right after a profile
abbrev pub IsNextWrong : Layers → List ℕ → Wrong → Type 0
IsNextWrong layers name no_profile = ⊥
IsNextWrong layers name (ring profile) = ⊥
IsNextWrong layers name (not_defined profile parent) =
    (profile ≡ name) × Inherits layers name parent × (IsProfile layers parent → ⊥)
IsNextWrong layers name (not_text profile) = (profile ≡ name) × InheritsNoText layers name

-- a profile whose `inherits` counts, to which a way leads
abbrev pub Asks : Layers → List ℕ → List ℕ → Type 0
Asks layers name profile = LeadsOn layers name profile × (profile ≢ default_profile)

-- what is wrong with the chain of a profile
abbrev pub IsWrong : Layers → List ℕ → Wrong → Type 0
IsWrong layers name no_profile = IsProfile layers name → ⊥
IsWrong layers name (ring profile) = LeadsOn layers name profile × Leads layers profile profile
IsWrong layers name (not_defined profile parent) =
    Asks layers name profile × IsNextWrong layers profile (not_defined profile parent)
IsWrong layers name (not_text profile) =
    Asks layers name profile × IsNextWrong layers profile (not_text profile)

-- the fault tells what is wrong right after a profile, and not that memory was refused
abbrev pub IsNextFault : Layers → List ℕ → ChainFault → Type 0
IsNextFault layers name fault = MatchOption (chain_wrong fault) ⊥ (IsNextWrong layers name)

-- the fault tells what is wrong with the chain of a profile, unless memory was refused
abbrev pub IsChainFault : Layers → List ℕ → ChainFault → Type 0
IsChainFault layers name fault = MatchOption (chain_wrong fault) (Unit {0}) (IsWrong layers name)
