-- What is kept of all asks.
use Rattle.std.specs.Prelude.{◌≡◌, Option, Some, None, option_map}
use Rattle.semver.specs.Identifiers.{parts_of}
use Rattle.semver.specs.Parse.{Parts}
use Rattle.semver.specs.declared.Version.{Version}
use Rattle.nextest_config.specs.NextestVersion.NextestVersionDeserialize.{Versions}
use Rattle.nextest_config.specs.NextestVersion.Source.{SourcePlace, place_of}
use Rattle.nextest_config.specs.declared.nextest_version.source.ConfigSource.{ConfigSource}
use Rattle.nextest_config.specs.NextestVersion.Later.{later_of}
use Rattle.nextest_config.specs.declared.nextest_version.kept_versions.NextestVersionReq.{NextestVersionReq}
use Rattle.nextest_config.specs.declared.nextest_version.kept_versions.NextestVersionReq.TheVariants as kept_as
use Rattle.nextest_config.specs.declared.nextest_version.kept_versions.NextestVersionConfig.{NextestVersionConfig}

-- a version that is kept, and the place that asked for it
pub record Kept : Type 0 where
  pub version : Parts
  pub place : SourcePlace

-- what is kept in the two roles, the required version and the recommended one
pub record Roles : Type 0 where
  pub required : Option Kept
  pub recommended : Option Kept

-- the version of what is kept
abbrev pub kept_version : Kept → Parts
kept_version kept = kept.version

-- this version, from this source
abbrev pub kept_from : Version → ConfigSource → Kept
kept_from version source = record { version = parts_of version; place = place_of source }

-- what a role keeps
abbrev pub kept_of : NextestVersionReq → Option Kept
kept_of (kept_as.Version version source) = Some (kept_from version source)
kept_of kept_as.None = None

-- what a configuration keeps
abbrev pub roles_of : NextestVersionConfig → Roles
roles_of config = record {
  required = kept_of config.required;
  recommended = kept_of config.recommended;
}

-- no version is kept
abbrev pub no_roles : Roles
no_roles = record { required = None; recommended = None }

-- the version that is asked, if any, with its place
abbrev pub role_from : SourcePlace → Option Parts → Option Kept
role_from place asked = option_map (λ version. record { version = version; place = place }) asked

-- the roles that one source asks, from its place
abbrev pub roles_from : SourcePlace → Versions → Roles
roles_from place versions =
    record {
      required = role_from place versions.required;
      recommended = role_from place versions.recommended;
    }

-- the join of two kept versions: the later one, unless its version is below the earlier one's
abbrev pub join_kept : Option Kept → Option Kept → Option Kept
join_kept = later_of kept_version

-- the join of what is kept in each role
abbrev pub join_roles : Roles → Roles → Roles
join_roles earlier later = record {
  required = join_kept earlier.required later.required;
  recommended = join_kept earlier.recommended later.recommended;
}

-- the replacement is what is kept once it is joined; none where nothing changes
abbrev pub IsReplacement : Option Kept → Option Kept → Option NextestVersionReq → Type 0
IsReplacement kept joined None = joined ≡ kept
IsReplacement kept joined (Some req) = kept_of req ≡ joined
