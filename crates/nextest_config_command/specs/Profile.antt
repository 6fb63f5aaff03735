-- What the command answers about a profile.
use Rattle.std.specs.Prelude.{◌≡◌, ℕ, nat_eq, ◌==◌, Bool, false, ◌||◌, if◌then◌else◌, List, [], ◌∷◌, ◌++◌, codes, decimal, map, Option, Some, None, string_bytes}
use Rattle.std.specs.Cmp.Lexicographic.{pointwise}
use Rattle.std.specs.List.{AllByRecursion, list_any}
use Rattle.toml.specs.View.{view}
use Rattle.nextest_config_values.specs.Read.{found_text}
unfoldable use Rattle.toml_spans.specs.QuotedText.{quoted_text}
use Rattle.nextest_config.specs.declared.nextest_version.edition.Edition.{Edition}
use Rattle.toml_spans.specs.declared.place.Span.{Span}
use Rattle.nextest_config_output.specs.Findings.Escapes.{escaped_text}
use Rattle.nextest_config_output.specs.declared.findings.escapes.Escapes.TheVariants.{InLine}
use Rattle.nextest_config_output.specs.declared.findings.format.Format.{Format}
use Rattle.nextest_config_output.specs.declared.findings.format.Format.TheVariants.{Human, Json}
use Rattle.nextest_config_profiles.specs.Chain.{IsChain, IsWrong, no_profile, not_defined, not_text, ring, Wrong}
use Rattle.nextest_config_profiles.specs.Inherits.{IsInheritsPlace}
use Rattle.nextest_config_profiles.specs.Layer.{all_layers}
use Rattle.nextest_config_profiles.specs.Profile.{chain_in, files_in, layers_in}
use Rattle.nextest_config_profiles.specs.declared.inherits.InheritsPlace.{InheritsPlace}
use Rattle.nextest_config_profiles.specs.declared.layer.Layer.{Layer}
use Rattle.nextest_config_profiles.specs.declared.profile.EffectiveProfile.{EffectiveProfile}
use Rattle.nextest_config_profiles.specs.Report.Narrowed.{others_wanted, overrides_wanted, settings_wanted}
use Rattle.nextest_config_profiles.specs.Report.ProfileReport.{has_fault, IsReport, settings_in}
use Rattle.nextest_config_profiles.specs.Report.Wanted.{path_of}
use Rattle.nextest_config_profiles.specs.declared.report.profile_report.ProfileReport.{ProfileReport}
use Rattle.nextest_config_profiles.specs.Said.{Path}
use Rattle.nextest_config_output.specs.Profile.OtherProfiles.{other_profiles_text}
use Rattle.nextest_config_output.specs.Profile.Format.{IsProfileText}
use Rattle.nextest_config_report.specs.Names.{names_text}
use Rattle.nextest_config_report.specs.declared.exit_status.ExitStatus.{ExitStatus}
use Rattle.nextest_config_report.specs.declared.exit_status.ExitStatus.TheVariants.{Refused}
use Rattle.nextest_config_report.specs.declared.show.ShowFormat.{ShowFormat}
use Rattle.nextest_config_report.specs.declared.show.ShowFormat.TheVariants as shows
use Rattle.nextest_config_command.specs.Answer.{AnswerView, judging, says}
use Rattle.nextest_config_command.specs.FileFindings.{AreFound, FileFound, HasNoError}
use Rattle.nextest_config_command.specs.Files.{File}
use Rattle.nextest_config_command.specs.Found.{all_files, FilesRead}
use Rattle.nextest_config_command.specs.Layers.{AreLayers, AreProfileNames}
use Rattle.nextest_config_command.specs.Lint.{failure_if, lint_text}
use Rattle.nextest_config_command.specs.Printed.{for_people, in_show_format}
use Rattle.nextest_config_command.specs.Request.{slash}
use Rattle.nextest_config_command.specs.declared.request.ProfileTask.{ProfileTask}

-- ---- a profile without settings

-- that a profile inherits from itself
abbrev pub ring_text : List ℕ → List ℕ
ring_text profile = codes "the profile " ++ (quoted_text profile ++ codes " inherits from itself")

-- that no file defines the profile that one inherits from
abbrev pub undefined_text : List ℕ → List ℕ
undefined_text parent = codes "no file defines the profile " ++ quoted_text parent

-- that what a profile has at `inherits` is no text
abbrev pub no_text : Option InheritsPlace → List ℕ
no_text (Some place) =
    codes "invalid type: " ++ (found_text (view place.value.now) ++ codes ", expected a string")
no_text None = codes "expected a string"

-- :LINE, where a range begins; nothing without a range
abbrev pub line_text : Option Span → List ℕ
line_text (Some span) = codes ":" ++ decimal span.begin.line
line_text None = []

-- PATH:LINE: and a blank, where it stands what a profile inherits from; nothing where it stands
-- nowhere
abbrev pub front_text : Option InheritsPlace → List ℕ
front_text (Some place) = escaped_text InLine (string_bytes place.file.now.source.now.path)
    ++ (line_text place.span ++ codes ": ")
front_text None = []

-- this is said, behind the place where it stands what a profile inherits from
abbrev pub IsReportedAt : List Layer → List ℕ → (Option InheritsPlace → List ℕ) → List ℕ → Type 0
IsReportedAt layers profile text said = (place : Option InheritsPlace)
    × IsInheritsPlace layers profile place × (said ≡ front_text place ++ text place)

-- the name is rather a path: it has a slash, or is a folder's own
abbrev pub is_like_path : List ℕ → Bool
is_like_path name = list_any (λ byte. byte == slash) name || pointwise nat_eq name (codes ".")
    || pointwise nat_eq name (codes "..")

-- the hint that a name is rather a path; nothing where it isn't like one
abbrev pub path_hint : List ℕ → List ℕ
path_hint name = if is_like_path name then codes "; NAME stands before PATH" else []

-- that there is no profile of a name, and which there are
abbrev pub no_profile_text : List ℕ → List (List ℕ) → List ℕ
no_profile_text name names = codes "no profile " ++ (quoted_text name
    ++ (codes ", there are " ++ (names_text names ++ path_hint name)))

-- it is said that there is no profile of this name, and which there are
abbrev pub IsNoProfileReported : List Layer → List ℕ → List ℕ → Type 0
IsNoProfileReported layers name said = (names : List (List ℕ)) × AreProfileNames layers names
    × (said ≡ no_profile_text name names)

-- what is said of what is wrong with the chain of a profile
abbrev pub IsWrongReported : List Layer → List ℕ → Wrong → List ℕ → Type 0
IsWrongReported layers name no_profile said = IsNoProfileReported layers name said
IsWrongReported layers name (ring profile) said =
    IsReportedAt layers profile (λ place. ring_text profile) said
IsWrongReported layers name (not_defined profile parent) said =
    IsReportedAt layers profile (λ place. undefined_text parent) said
IsWrongReported layers name (not_text profile) said = IsReportedAt layers profile no_text said

-- the answer says what is wrong with the chain of a profile, on a line of its own
abbrev pub IsRefusedFor : List Layer → List ℕ → Wrong → AnswerView → Type 0
IsRefusedFor layers name wrong answer = (said : List ℕ) × IsWrongReported layers name wrong said
    × (answer ≡ says (for_people (said ++ codes "\n")) Refused)

-- ---- a profile with its settings

-- the profile of a name, by these layers
pub record IsProfileOf (layers : List Layer) (name : List ℕ) (profile : EffectiveProfile) : Type 0
  where
    pub files_are : files_in profile ≡ layers
    pub layers_are : layers_in profile ≡ all_layers layers
    pub chain_is : IsChain (all_layers layers) name (chain_in profile)

-- how the command ends that tells a profile: any fault that it tells, of others too, fails it
abbrev pub status_reported : ProfileReport → ExitStatus
status_reported report = failure_if (has_fault report)

-- what is reported of a profile is written, and what is wrong with others is said
pub record IsReportWritten (format : ShowFormat) (report : ProfileReport)
    (answer : AnswerView) : Type 0 where
  pub text : List ℕ
  pub is_text : IsProfileText format report text
  pub text_is : answer.text ≡ in_show_format format text
  pub said_is : answer.said ≡ for_people (other_profiles_text report)
  pub status_is : answer.status ≡ status_reported report

-- the report is what another one says of wanted paths: its chain, and what is wrong in other
-- profiles, stay
pub record IsNarrowed (wanted : List Path) (whole report : ProfileReport) : Type 0 where
  pub settings : settings_in report ≡ settings_wanted wanted (settings_in whole)
  pub others : report.others.items ≡ others_wanted wanted whole.others.items
  pub overrides : report.overrides.items ≡ overrides_wanted wanted whole.overrides.items
  pub chain : report.chain ≡ whole.chain
  pub other_profiles : report.other_profiles ≡ whole.other_profiles

-- the report is another one, or where paths are wanted what that says of these
abbrev pub IsNarrowedIf : List Path → ProfileReport → ProfileReport → Type 0
IsNarrowedIf [] whole report = report ≡ whole
IsNarrowedIf (first ∷ rest) whole report = IsNarrowed (first ∷ rest) whole report

-- what is reported of a profile, as the task asks for it
abbrev pub IsWantedReport : EffectiveProfile → ProfileTask → ProfileReport → Type 0
IsWantedReport profile task report = (whole : ProfileReport) × IsReport profile task.all whole
    × IsNarrowedIf (map path_of task.keys.items) whole report

-- the answer is what is reported of the profile that is asked for
abbrev pub IsReported : EffectiveProfile → ProfileTask → AnswerView → Type 0
IsReported profile task answer = (report : ProfileReport) × IsWantedReport profile task report
    × IsReportWritten task.format report answer

-- ---- the answer

-- what is answered by layers: that the profile has no settings, or what it gets
pub data IsAnsweredBy (layers : List Layer) (task : ProfileTask)
    (answer : AnswerView) : Type 0 where
  without : (wrong : Wrong) → IsWrong (all_layers layers) (string_bytes task.name) wrong
      → IsRefusedFor layers (string_bytes task.name) wrong answer
      → IsAnsweredBy layers task answer
  reported : (profile : EffectiveProfile)
      → IsProfileOf layers (string_bytes task.name) profile → IsReported profile task answer
      → IsAnsweredBy layers task answer

-- what is answered about a profile by files, each of which is a document
abbrev pub IsProfileIn : List File → ProfileTask → AnswerView → Type 0
IsProfileIn files task answer = (layers : List Layer) × AreLayers files layers
    × IsAnsweredBy layers task answer

-- no file has an error
abbrev pub AreSound : Edition → FilesRead → Type 0
AreSound edition files = AllByRecursion (HasNoError edition) (all_files files)

-- the format of `lint` in which it is said what is wrong with files
abbrev pub lint_format : ShowFormat → Format
lint_format shows.Human = Human
lint_format shows.Json = Json

-- what is said of files with an error, and what is answered by others
pub data IsProfiled (edition : Edition) (files : FilesRead) (task : ProfileTask)
    (answer : AnswerView) : Type 0 where
  faulty : (found : List FileFound) → (AreSound edition files → ⊥)
      → AreFound (judging edition [] false) files found
      → answer
      ≡ says (in_show_format task.format (lint_text (lint_format task.format) found)) Refused
      → IsProfiled edition files task answer
  sound : AreSound edition files → IsProfileIn (all_files files) task answer
      → IsProfiled edition files task answer
