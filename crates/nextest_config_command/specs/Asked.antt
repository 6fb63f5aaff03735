-- Where a file asks the version that a verdict names.
use Rattle.std.specs.Prelude.{◌≡◌, ℕ, Bool, false, List, [], ◌∷◌, Any, if◌then◌else◌, is_some, IsSome, IsUtf8, map, option_and_then, Some}
use Rattle.std.specs.List.{AllByRecursion}
use Rattle.toml.specs.Data.{as_table, get_member, Members}
use Rattle.toml.specs.Parse.{parse_document}
use Rattle.nextest_config.specs.NextestVersion.{recommended_key, required_key, SourcePlace, version_key}
use Rattle.toml_spans.specs.Index.{IsIndexOf, IsSpanOf, ranges_in}
use Rattle.toml_spans.specs.Line.{found_in}
use Rattle.toml_spans.specs.Step.{key, PathStep, step_of}
use Rattle.toml_spans.specs.declared.index.Index.{Index}
use Rattle.toml_spans.specs.declared.place.Span.{Span}
use Rattle.nextest_config_lint.specs.File.{range_at}
use Rattle.nextest_config.specs.declared.nextest_version.verdict.VersionRole.{VersionRole}
use Rattle.nextest_config.specs.declared.nextest_version.verdict.VersionRole.TheVariants.{Recommended, Required}
use Rattle.nextest_config_command.specs.Files.{File}
use Rattle.nextest_config_command.specs.declared.asked.Asked.{Asked}

-- ---- the path of a version

-- the key of a role in a table of versions
abbrev pub role_key : VersionRole → List ℕ
role_key Required = required_key
role_key Recommended = recommended_key

-- the document has a table of versions
abbrev pub has_version_table : Members → Bool
has_version_table members = is_some (option_and_then as_table (get_member version_key members))

-- the path of the version that a document asks in a role: its key in the table of versions, where
-- there is one
abbrev pub version_path : VersionRole → Members → List PathStep
version_path role members = key version_key
    ∷ (if has_version_table members then key (role_key role) ∷ [] else [])

-- ---- where a version is asked

-- the path of a version, and the range of what stands there
pub record AskedView : Type 0 where
  pub path : List PathStep
  pub span : Span

-- where a version is asked, without where that lies in memory
abbrev pub asked_of : Asked → AskedView
asked_of asked = record { path = map step_of asked.path.items; span = asked.span }

-- the range in a text of what a path leads to: that of the value, or without one that of its key
pub record IsRangeAt (text : List ℕ) (path : List PathStep) (span : Span) : Type 0 where
  pub index : Index
  pub of_text : IsIndexOf text index
  pub is_range : IsSpanOf text (range_at false (ranges_in index) path) (Some span)

-- the file is at this place, and a document that asks a version in this role: the path of the
-- version leads to a value
pub record AsksAt (role : VersionRole) (place : SourcePlace) (file : File) : Type 0 where
  pub at_place : file.place ≡ place
  pub is_text : IsUtf8 file.contents
  pub members : Members
  pub reads : parse_document file.contents ≡ Some members
  pub leads : IsSome (found_in members (version_path role members))

-- the file is at this place and asks the version of this role at this path and range
pub record IsAskedBy (role : VersionRole) (place : SourcePlace) (asked : AskedView) (file : File)
    : Type 0 where
  pub asks : AsksAt role place file
  pub is_path : asked.path ≡ version_path role asks.members
  pub is_span : IsRangeAt file.contents asked.path asked.span

-- ---- files of a list

-- some file at this place asks a version in this role
abbrev pub SomeAsks : List File → VersionRole → SourcePlace → Type 0
SomeAsks files role place = Any (AsksAt role place) files

-- no file at this place asks a version in this role
abbrev pub NoneAsks : List File → VersionRole → SourcePlace → Type 0
NoneAsks files role place = AllByRecursion (λ file. ¬ AsksAt role place file) files

-- some file at this place asks the version of this role there
abbrev pub IsAskedIn : List File → VersionRole → SourcePlace → AskedView → Type 0
IsAskedIn files role place asked = Any (IsAskedBy role place asked) files
