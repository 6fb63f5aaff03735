-- What is found of overrides, and of what profiles say of scripts, after nextest's documentation.
use Rattle.std.specs.Prelude.{◌≡◌, ℕ, List, codes, IsSome, Option, Some, None}
use Rattle.toml.specs.Data.{as_table, Data, get, get_member, Members}
use Rattle.nextest_config_lint.specs.Found.{default_filter_alone, default_filter_beside, FoundKind, override_of_all, IsReportedIf, IsFirstReported}

-- the key of an override for its default filter
abbrev pub default_filter_key : List ℕ
default_filter_key = codes "default-filter"

-- an override, or what is said of scripts, that doesn't say which tests it is for
abbrev pub IsOfAll : Data → Type 0
IsOfAll value = (members : Members) × (as_table value ≡ Some members)
    × (get_member (codes "filter") members ≡ None)
    × (get_member (codes "platform") members ≡ None)

-- a table has this key
abbrev pub HasKey : Data → List ℕ → Type 0
HasKey value name = IsSome (get name value)

-- a default filter stands beside a filter
abbrev pub IsBesideFilter : Data → Type 0
IsBesideFilter value = HasKey value default_filter_key × HasKey value (codes "filter")

-- a default filter stands there without a platform
abbrev pub IsWithoutPlatform : Data → Type 0
IsWithoutPlatform value =
    HasKey value default_filter_key × (HasKey value (codes "platform") → ⊥)

-- what is reported of the default filter of an override: that it stands beside a filter, or without
-- a platform
abbrev pub IsDefaultFilterReported : Data → Option FoundKind → Type 0
IsDefaultFilterReported value = IsFirstReported
    (IsReportedIf (IsBesideFilter value) default_filter_beside)
    (IsReportedIf (IsWithoutPlatform value) default_filter_alone)

-- what is reported of an override: of its default filter, or that it doesn't say which tests it is
-- for
abbrev pub IsOverrideReported : Data → Option FoundKind → Type 0
IsOverrideReported value =
    IsFirstReported (IsDefaultFilterReported value) (IsReportedIf (IsOfAll value) override_of_all)
