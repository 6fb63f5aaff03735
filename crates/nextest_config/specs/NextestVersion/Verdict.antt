-- What a current version is told, and which of several verdicts is selected.
use Rattle.std.specs.Prelude.{◌≡◌, ◌≢◌, ℕ, ◌≤◌, Bool, true, false, List, ◌∷◌, ◌++◌, Option, Some, None, IfSome, ◌⊎◌, if◌then◌else◌}
use Rattle.std.specs.List.{AllByRecursion}
use Rattle.semver.specs.Identifiers.{parts_of}
use Rattle.semver.specs.Parse.{Parts}
use Rattle.nextest_config.specs.NextestVersion.Precedence.{is_enough, IsBelow}
use Rattle.nextest_config.specs.NextestVersion.KeptVersions.{Kept, Roles}
use Rattle.nextest_config.specs.NextestVersion.Source.{SourcePlace, place_of}
use Rattle.semver.specs.declared.Version.{Version}
use Rattle.nextest_config.specs.declared.nextest_version.source.ConfigSource.{ConfigSource}
use Rattle.nextest_config.specs.declared.nextest_version.verdict.NextestVersionEval.{NextestVersionEval}
use Rattle.nextest_config.specs.declared.nextest_version.verdict.NextestVersionEval.TheVariants as evals
use Rattle.nextest_config.specs.declared.nextest_version.verdict.Severity.{Severity}
use Rattle.nextest_config.specs.declared.nextest_version.verdict.Severity.TheVariants as severities
use Rattle.nextest_config.specs.declared.nextest_version.verdict.UnmetVersion.{UnmetVersion}
use Rattle.nextest_config.specs.declared.nextest_version.verdict.VersionRole.{VersionRole}
use Rattle.nextest_config.specs.declared.nextest_version.verdict.VersionRole.TheVariants as version_roles

-- what a version falls short of: the version asked for, the current one, the place that asked, and
-- whether the check is overridden
pub record Shortfall : Type 0 where
  pub asked : Parts
  pub current : Parts
  pub place : SourcePlace
  pub overridden : Bool

-- what a current version is told
pub data Verdict : Type 0 where
  satisfied : Verdict
  warn : Shortfall → Verdict
  error : Shortfall → Verdict

-- how the current version falls short of the one that the source asks
abbrev pub shortfall : Version → Version → ConfigSource → Bool → Shortfall
shortfall asked current source overridden = record {
  asked = parts_of asked;
  current = parts_of current;
  place = place_of source;
  overridden = overridden;
}

-- what `eval` answers
abbrev pub verdict_of : NextestVersionEval → Verdict
verdict_of evals.Satisfied = satisfied
verdict_of (evals.Error required current source) = error (shortfall required current source false)
verdict_of (evals.Warn recommended current source) =
    warn (shortfall recommended current source false)
verdict_of (evals.ErrorOverride required current source) =
    error (shortfall required current source true)
verdict_of (evals.WarnOverride recommended current source) =
    warn (shortfall recommended current source true)

-- an unmet required version is an error, and an unmet recommended one a warning
abbrev pub verdict_in : VersionRole → Shortfall → Verdict
verdict_in version_roles.Required shortfall = error shortfall
verdict_in version_roles.Recommended shortfall = warn shortfall

-- the verdict that tells of the unmet version, if there is one
abbrev pub verdict_of_unmet : Option UnmetVersion → Verdict
verdict_of_unmet None = satisfied
verdict_of_unmet (Some unmet) = verdict_in unmet.role
    (shortfall unmet.version.now unmet.current.now unmet.source.now unmet.overridden)

-- the kept version that the current one isn't enough for
abbrev pub not_met : Option Kept → Parts → Option Kept
not_met None current = None
not_met (Some kept) current = if is_enough current kept.version then None else Some kept

-- how the current version falls short of the kept one
abbrev pub short_of : Kept → Parts → Bool → Shortfall
short_of kept current overridden =
    record { asked = kept.version; current = current; place = kept.place; overridden = overridden }

-- an unmet required version is an error; else an unmet recommended one is a warning
abbrev pub verdict_by : Option Kept → Option Kept → Parts → Bool → Verdict
verdict_by (Some required) recommended current overridden =
    error (short_of required current overridden)
verdict_by None (Some recommended) current overridden =
    warn (short_of recommended current overridden)
verdict_by None None current overridden = satisfied

-- the verdict of two roles on a current version, overridden or not
abbrev pub verdict : Roles → Parts → Bool → Verdict
verdict roles current overridden =
    verdict_by (not_met roles.required current) (not_met roles.recommended current) current
    overridden

-- how grave a verdict is, overridden or not
abbrev pub severity_of : Verdict → Severity
severity_of satisfied = severities.Satisfied
severity_of (warn shortfall) = severities.Warn
severity_of (error shortfall) = severities.Error

-- the rank of a severity, in ascending order: satisfied, warning, error
abbrev pub rank : Severity → ℕ
rank severities.Satisfied = 0
rank severities.Warn = 1
rank severities.Error = 2

-- the rank of a verdict's severity
abbrev pub gravity : Verdict → ℕ
gravity v = rank (severity_of v)

-- the version that a verdict names
abbrev pub named_version : Verdict → Option Parts
named_version satisfied = None
named_version (warn shortfall) = Some shortfall.asked
named_version (error shortfall) = Some shortfall.asked

-- the place that a verdict names
abbrev pub named_place : Verdict → Option SourcePlace
named_place satisfied = None
named_place (warn shortfall) = Some shortfall.place
named_place (error shortfall) = Some shortfall.place

-- the verdict is satisfied
abbrev pub IsSatisfied : Verdict → Type 0
IsSatisfied v = v ≡ satisfied

-- the other verdict is no graver than the first one
abbrev pub IsNoGraver : Verdict → Verdict → Type 0
IsNoGraver v other = gravity other ≤ gravity v

-- the other verdict names no greater version
abbrev pub NamesNoGreater : Verdict → Verdict → Type 0
NamesNoGreater v other =
    IfSome (named_version v)
    (λ version. IfSome (named_version other) (λ greater. ¬ IsBelow version greater))

-- a verdict as grave as this one names no greater version
abbrev pub IsNoGreaterOfItsKind : Verdict → Verdict → Type 0
IsNoGreaterOfItsKind v other = gravity other ≡ gravity v → NamesNoGreater v other

-- a verdict as grave as this one names another version
abbrev pub IsOtherOfItsKind : Verdict → Verdict → Type 0
IsOtherOfItsKind v other = gravity other ≡ gravity v → named_version other ≢ named_version v

-- the verdict stands at a position of greatest severity, none of that severity names a greater
-- version, and no later one of that severity the same version
pub record IsGravest (verdicts : List Verdict) (v : Verdict) : Type 0 where
  pub before : List Verdict
  pub after : List Verdict
  pub whole : verdicts ≡ before ++ (v ∷ after)
  pub gravest : AllByRecursion (IsNoGraver v) verdicts
  pub no_greater : AllByRecursion (IsNoGreaterOfItsKind v) verdicts
  pub last : AllByRecursion (IsOtherOfItsKind v) after

-- all verdicts are satisfied and this one is, or it is the gravest
abbrev pub IsSelected : List Verdict → Verdict → Type 0
IsSelected verdicts v = (AllByRecursion IsSatisfied verdicts × (v ≡ satisfied))
    ⊎ IsGravest verdicts v

-- the second verdict is of the same kind, overridden or not, and names the same version; the place
-- that it names may be another
abbrev pub SaysTheSame : Verdict → Verdict → Type 0
SaysTheSame satisfied v = v ≡ satisfied
SaysTheSame (warn shortfall) v = (place : SourcePlace)
    × (v ≡ warn (record shortfall { place = place }))
SaysTheSame (error shortfall) v = (place : SourcePlace)
    × (v ≡ error (record shortfall { place = place }))

-- the shortfall, with the check overridden
abbrev pub override_of : Shortfall → Shortfall
override_of shortfall = record shortfall { overridden = true }

-- the second verdict is the first one, overridden
abbrev pub IsOverriding : Verdict → Verdict → Type 0
IsOverriding satisfied v = v ≡ satisfied
IsOverriding (warn shortfall) v = v ≡ warn (override_of shortfall)
IsOverriding (error shortfall) v = v ≡ error (override_of shortfall)
