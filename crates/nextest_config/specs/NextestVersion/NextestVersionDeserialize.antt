-- The setting `nextest-version`: the versions that one source asks for.
use Rattle.std.specs.Prelude.{ℕ, List, [], ◌∷◌, codes, Option, Some, None, option_map}
use Rattle.semver.specs.Identifiers.{parts_of}
use Rattle.semver.specs.Parse.{Parts}
use Rattle.toml.specs.Data.{Data, Members, as_str, as_table}
use Rattle.nextest_config_values.specs.Decisions.{true_decided}
use Rattle.nextest_config_values.specs.Read.{inner, kind, made_of, no_data, NoData, only, optional, Reading, required_above_recommended, rule, then, wrong_kind}
use Rattle.nextest_config.specs.NextestVersion.Precedence.{is_below, IsBelow}
use Rattle.nextest_config.specs.NextestVersion.VersionTextLaws.{version_reading, version_text}
use Rattle.nextest_config.specs.declared.nextest_version.nextest_version_deserialize.NextestVersionDeserialize.{NextestVersionDeserialize}

-- the versions that are asked for
pub record Versions : Type 0 where
  pub required : Option Parts
  pub recommended : Option Parts

-- these versions, the required and the recommended one, if any
abbrev pub versions : Option Parts → Option Parts → Versions
versions required recommended = record { required = required; recommended = recommended }

-- no version
abbrev pub no_versions : Versions
no_versions = versions None None

-- this version alone, required
abbrev pub requires : Parts → Versions
requires version = versions (Some version) None

-- what a setting asks for
abbrev pub versions_of : NextestVersionDeserialize → Versions
versions_of d = versions (option_map parts_of d.required) (option_map parts_of d.recommended)

-- the key of the required version in the table form of `nextest-version`
abbrev pub required_key : List ℕ
required_key = codes "required"

-- the key of the recommended version in the table form of `nextest-version`
abbrev pub recommended_key : List ℕ
recommended_key = codes "recommended"

-- the keys of the table form of `nextest-version`, in the order in which they are read
abbrev pub version_table_keys : List (List ℕ)
version_table_keys = required_key ∷ recommended_key ∷ []

-- these versions; where both stand, the required one isn't above the recommended one
abbrev pub in_order : Option Parts → Option Parts → Reading NoData Versions
in_order (Some required) (Some recommended) =
    rule (IsBelow recommended required) (true_decided (is_below recommended required))
    (required_above_recommended required recommended)
    (only (versions (Some required) (Some recommended)))
in_order required recommended = only (versions required recommended)

-- a table with the versions at its two keys; other keys don't count (TOML 1.1, "Table")
abbrev pub version_table : Reading Members Versions
version_table =
    then (optional required_key version_reading) (λ required.
    then (optional recommended_key version_reading) (λ recommended.
    inner (in_order required recommended) no_data))

-- what `nextest-version` takes, as the refusal of a value of the wrong kind says it
abbrev pub versions_expected : List ℕ
versions_expected = codes
    "a table ({ required = \"0.9.20\", recommended = \"0.9.30\" }) or a string (\"0.9.50\")"

-- the value of `nextest-version`: a text, whose version is required, or a table (TOML 1.1, "String"
-- and "Table")
abbrev pub versions_reading : Reading Data Versions
versions_reading =
    kind as_str (inner (made_of requires version_text))
    (kind as_table (inner version_table) (wrong_kind versions_expected))
