-- The keys of `cfg(..)`, and the words that stand in place of it.
use Rattle.std.specs.Prelude.{ℕ, ◌&&◌, ◌||◌, not, Bool, false, List, [], ◌∷◌, codes, nat_eq, Option, Some, None, is_some, if◌then◌else◌}
use Rattle.std.specs.Char.{is_ascii_digit}
use Rattle.std.specs.Cmp.Lexicographic.{pointwise}
use Rattle.std.specs.List.{list_all, list_any}
use Rattle.nextest_config_filters.specs.Front.{behind}
use Rattle.nextest_config_filters.specs.Platform.Near.{is_within_two}
use Rattle.nextest_config_filters.specs.Text.{is_one_of}
use Rattle.nextest_config_filters.specs.declared.platform.flaw.PlatformFlaw.{PlatformFlaw}
use Rattle.nextest_config_filters.specs.declared.platform.flaw.PlatformFlaw.TheVariants as flaws

-- ---- words

-- these take no value
abbrev pub families : List (List ℕ)
families = codes "unix" ∷ codes "windows" ∷ []

-- these need one, and their names are suggested
abbrev pub target_keys : List (List ℕ)
target_keys =
    codes "target_arch"
    ∷ codes "target_feature"
    ∷ codes "target_os"
    ∷ codes "target_family"
    ∷ codes "target_env"
    ∷ codes "target_abi"
    ∷ codes "target_endian"
    ∷ codes "target_pointer_width"
    ∷ codes "target_vendor"
    ∷ codes "target_has_atomic"
    ∷ []

-- and so do these
abbrev pub other_keys : List (List ℕ)
other_keys = codes "feature" ∷ codes "panic" ∷ []

-- values of `target_os` that are taken for names of targets
abbrev pub systems : List (List ℕ)
systems =
    codes "linux"
    ∷ codes "macos"
    ∷ codes "android"
    ∷ codes "ios"
    ∷ codes "freebsd"
    ∷ codes "netbsd"
    ∷ codes "openbsd"
    ∷ []

-- groups of members
abbrev pub groups : List (List ℕ)
groups = codes "all" ∷ codes "any" ∷ codes "not" ∷ []

-- ---- what is wrong with a key

-- no key is called so, but one of a target that two edits at most lead to
abbrev pub is_unknown : List ℕ → Bool
is_unknown key =
    is_some (behind (codes "target_") key)
    && (not (is_one_of key target_keys) && list_any (is_within_two key) target_keys)

abbrev pub unknown_flaw : List ℕ → Option PlatformFlaw
unknown_flaw key = if is_unknown key then Some flaws.UnknownKey else None

abbrev pub needs_value : List ℕ → Bool
needs_value key = is_one_of key target_keys || is_one_of key other_keys

-- ASCII digits, and at least one
abbrev pub is_number : List ℕ → Bool
is_number [] = false
is_number (c ∷ cs) = list_all is_ascii_digit (c ∷ cs)

-- the width of pointers is no number
abbrev pub is_wrong_width : List ℕ → List ℕ → Bool
is_wrong_width key value =
    pointwise nat_eq key (codes "target_pointer_width") && not (is_number value)

-- what is wrong with a key with this value, or with none
abbrev pub key_flaw : List ℕ → Option (List ℕ) → Option PlatformFlaw
key_flaw key None = if needs_value key then Some flaws.NoValue else unknown_flaw key
key_flaw key (Some value) =
    if is_one_of key families then Some flaws.UnwantedValue
    else if is_wrong_width key value then Some flaws.NoNumber
    else unknown_flaw key
