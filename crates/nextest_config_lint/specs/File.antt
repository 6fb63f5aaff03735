-- All that is found in a file, and where each finding stands.
use Rattle.std.specs.Prelude.{◌≡◌, ◌⊎◌, ◌||◌, ℕ, Bool, true, false, List, [], ◌∷◌, ◌++◌, drop, IsSome, IsUtf8, map, nat_eq, Option, Some, None, take}
use Rattle.std.specs.Cmp.Lexicographic.{pointwise}
use Rattle.std.specs.List.{AllZip}
use Rattle.std.specs.List.Sorted.{IsPermutation, IsSortedByKey, IsStableByKey}
use Rattle.std.specs.Option.{option_or}
use Rattle.std.specs.Ordering.{nat_cmp, ordering_then}
use Rattle.std.specs.declared.cmp.Ordering.{Ordering}
use Rattle.std.specs.Str.Lossy.{utf8_valid_len}
use Rattle.toml.specs.Data.{Members}
use Rattle.toml.specs.Errors.{IsMemory, IsWithin, span_end, span_start}
use Rattle.toml.specs.Parse.{parse_document}
use Rattle.toml.specs.View.{table_view}
use Rattle.toml.specs.declared.de.error.Error.{Error}
use Rattle.nextest_config_values.specs.Read.{BrokenRule, count_zero, custom, delay_zero, jitter_without_delay, max_delay_below_delay, max_delay_zero, Reason, required_above_recommended}
use Rattle.nextest_config_values.specs.Read.Fault.{unknown_field}
use Rattle.nextest_config.specs.NextestVersion.{recommended_key}
use Rattle.nextest_config_elements.specs.RetryPolicy.{count_key, delay_key, jitter_key, max_delay_key}
use Rattle.nextest_config.specs.declared.nextest_version.edition.Edition.{Edition}
use Rattle.nextest_config.specs.declared.nextest_version.source.ConfigSourceKind.{ConfigSourceKind}
use Rattle.toml_spans.specs.Index.{IsIndexOf, IsSpanOf, ranges_in}
use Rattle.toml_spans.specs.Line.{found_in}
use Rattle.toml_spans.specs.Place.{IsPlace}
use Rattle.toml_spans.specs.Ranges.{Range, Ranges}
use Rattle.toml_spans.specs.Step.{key, PathStep}
use Rattle.nextest_config_lint.specs.Defined.{groups_key, ListFile, script_key, scripts_key}
use Rattle.nextest_config_lint.specs.Document.{AreFindings}
use Rattle.nextest_config_lint.specs.Found.{feature_not_enabled, Found, found_at, FoundKind, found_of, Mistaken, name_of_tool, no_name, not_toml, not_utf8, outside_tool, refused, reserved_profile, setup_script_too, unknown_key, unknown_name, wrong_text}
use Rattle.nextest_config_lint.specs.Mistake.{IsMistake}
use Rattle.nextest_config_lint.specs.TextRange.{plain_range}
use Rattle.toml_spans.specs.declared.index.Index.{Index}
use Rattle.toml_spans.specs.declared.place.Place.{Place}
use Rattle.toml_spans.specs.declared.place.Span.{Span}
use Rattle.nextest_config_lint.specs.declared.file.FileContents.{FileContents}
use Rattle.nextest_config_lint.specs.declared.file.FileContents.TheVariants as read
use Rattle.nextest_config_lint.specs.declared.file.LocatedFinding.{LocatedFinding}
use Rattle.nextest_config_lint.specs.declared.finding.Finding.{Finding}

-- ---- the bytes of a file, judged and read

-- the text is these bytes, which are UTF-8
abbrev pub IsTextOf : List ℕ → List ℕ → Type 0
IsTextOf contents text = IsUtf8 contents × (text ≡ contents)

-- what the bytes are found to be
abbrev pub IsReadOf : List ℕ → FileContents → Type 0
IsReadOf contents (read.NotUtf8 front) =
    (IsUtf8 contents → ⊥) × (front.now ≡ take (utf8_valid_len contents) contents)
IsReadOf contents (read.NotToml text error) =
    IsTextOf contents text.now × (parse_document contents ≡ None) × IsWithin contents error
    × (¬ IsMemory error)
IsReadOf contents (read.Document text document) =
    IsTextOf contents text.now × (parse_document contents ≡ Some (table_view document))

-- the document that the bytes are, if they are one
abbrev pub IsDocument : List ℕ → Option Members → Type 0
IsDocument contents None = IsUtf8 contents → parse_document contents ≡ None
IsDocument contents (Some members) = IsUtf8 contents × (parse_document contents ≡ Some members)

-- ---- a file that is no document

-- what a located finding reports: its range, and what is found
abbrev pub located_view : LocatedFinding → Span × Option Found
located_view located = (located.span, found_of located.finding)

-- one finding alone, of the whole file, from the end of one front of the text to that of another
pub record IsAlone (before front : List ℕ) (kind : FoundKind) (located : List LocatedFinding) :
    Type 0 where
  pub span : Span
  pub begins : IsPlace before span.begin
  pub ends : IsPlace front span.end
  pub reported : map located_view located ≡ (span, Some (found_at [] kind)) ∷ []

-- the file isn't UTF-8, where its longest front that is UTF-8 ends
abbrev pub IsNotUtf8 : List ℕ → List LocatedFinding → Type 0
IsNotUtf8 contents = let front = take (utf8_valid_len contents) contents in
    IsAlone front front not_utf8

-- what is reported of a text that an error of `toml` refuses, from where that begins to where it
-- ends: a message, and the mistake that is known there
pub record IsReportedBy (contents : List ℕ) (error : Error) (located : List LocatedFinding) : Type 0
  where
    pub message : List ℕ
    pub mistake : Option Mistaken
    pub known : IsMistake (take (span_start error) contents)
        (drop (span_start error) (take (span_end error) contents)) mistake
    pub alone : IsAlone (take (span_start error) contents) (take (span_end error) contents)
        (not_toml message mistake) located

-- the file isn't a TOML 1.1 document, as an error of `toml` says
pub record IsNotToml (contents : List ℕ) (located : List LocatedFinding) : Type 0 where
  pub error : Error
  pub within : IsWithin contents error
  pub of_text : ¬ IsMemory error
  pub reported : IsReportedBy contents error located

-- ---- the range of a finding

-- the key whose value breaks a rule between the keys of a table
abbrev pub rule_key : BrokenRule → Option (List ℕ)
rule_key (required_above_recommended required recommended) = Some recommended_key
rule_key jitter_without_delay = Some jitter_key
rule_key count_zero = Some count_key
rule_key delay_zero = Some delay_key
rule_key max_delay_zero = Some max_delay_key
rule_key max_delay_below_delay = Some max_delay_key
rule_key rule = None

-- the key of a table at which a reason of its refusal stands
abbrev pub reason_key : Reason → Option (List ℕ)
reason_key (unknown_field name expected) = Some name
reason_key (custom rule) = rule_key rule
reason_key reason = None

-- the key of a table at which what is found of the table stands
abbrev pub key_in : FoundKind → Option (List ℕ)
key_in (unknown_key name hint) = Some name
key_in (refused reason severity hint) = reason_key reason
key_in kind = None

-- the path that a finding is located by: where it stands at a key of a table, that of the key
abbrev pub path_after : List PathStep → Option (List ℕ) → List PathStep
path_after path (Some name) = path ++ (key name ∷ [])
path_after path None = path

-- the path that a finding is located by, which may end in a key of the table that it is found of
abbrev pub whole_path : Found → List PathStep
whole_path found = path_after found.path (key_in found.kind)

-- the path is that of a name that the file defines: of a test group or a script
abbrev pub is_definition : List PathStep → Bool
is_definition (key table ∷ key name ∷ []) =
    pointwise nat_eq table groups_key || pointwise nat_eq table script_key
is_definition (key table ∷ key kind ∷ key name ∷ []) = pointwise nat_eq table scripts_key
is_definition path = false

-- a key is wrong, and not its value
abbrev pub is_key_refused : Reason → Bool
is_key_refused (unknown_field name expected) = true
is_key_refused reason = false

-- what is found is that a key is wrong, and not its value
abbrev pub is_key_wrong : List PathStep → FoundKind → Bool
is_key_wrong path (refused reason severity hint) = is_key_refused reason
is_key_wrong path (unknown_name name hint) = true
is_key_wrong path (unknown_key name hint) = true
is_key_wrong path reserved_profile = true
is_key_wrong path (outside_tool kind mark) = true
is_key_wrong path (name_of_tool kind) = true
is_key_wrong path (setup_script_too name) = true
is_key_wrong path (feature_not_enabled script) = true
is_key_wrong path (no_name kind fault) = is_definition path
is_key_wrong path kind = false

-- the finding reports that a key is wrong, and not its value
abbrev pub is_of_key : Found → Bool
is_of_key found = is_key_wrong found.path found.kind

-- where a key is wrong, the range of the key, or without one that of the value; else the other way
-- round
abbrev pub range_at : Bool → Ranges → List PathStep → Option Range
range_at true ranges path = option_or (ranges.of_key path) (ranges.of_value path)
range_at false ranges path = option_or (ranges.of_value path) (ranges.of_key path)

-- the range of what a finding is of: by its path, that of the key where that is wrong, else that of
-- the value
abbrev pub range_of : Ranges → Found → Option Range
range_of ranges found = range_at (is_of_key found) ranges (whole_path found)

-- the range of the bytes of a text that a finding reports
abbrev pub reported_range : List ℕ → Ranges → List PathStep → FoundKind → Option Range
reported_range contents ranges path (wrong_text fault) = plain_range contents ranges path fault
reported_range contents ranges path kind = None

-- the range of a finding: that of the bytes that it reports, or else that of what it is of
abbrev pub range_for : List ℕ → Ranges → Found → Option Range
range_for contents ranges found =
    option_or (reported_range contents ranges found.path found.kind) (range_of ranges found)

-- ---- the findings of a document

-- what is found, at its range in the text
pub record IsAtRange (contents : List ℕ) (found : Found) (located : LocatedFinding) : Type 0 where
  pub reported : found_of located.finding ≡ Some found
  pub index : Index
  pub of_text : IsIndexOf contents index
  pub at_range : IsSpanOf contents (range_for contents (ranges_in index) found)
      (Some located.span)

-- the order of places in a text: by their lines, and in one line by their columns
abbrev pub place_cmp : Place → Place → Ordering
place_cmp a b = ordering_then (nat_cmp a.line b.line) (nat_cmp a.column b.column)

-- findings sorted by where they begin, those that begin at one place as they were
pub record AreSorted (before sorted : List LocatedFinding) : Type 0 where
  pub same : IsPermutation before sorted
  pub by_place : IsSortedByKey (λ located. located.span.begin) place_cmp sorted
  pub stable : IsStableByKey (λ located. located.span.begin) place_cmp before sorted

-- the findings of a document, by where they begin
pub record AreLocatedIn (edition : Edition) (kind : ConfigSourceKind) (files : List ListFile)
    (position : ℕ) (contents : List ℕ)
    (members : Members) (located : List LocatedFinding) : Type 0 where
  pub all_found : List Found
  pub are_findings : AreFindings edition kind files position members all_found
  pub before : List LocatedFinding
  pub at_ranges : AllZip (IsAtRange contents) all_found before
  pub sorted : AreSorted before located

-- what is found in a file, if it is a document
abbrev pub AreInText : Edition → ConfigSourceKind → List ListFile → ℕ → List ℕ → Option Members
    → List LocatedFinding → Type 0
AreInText edition kind files position contents None located = IsNotToml contents located
AreInText edition kind files position contents (Some members) located =
    AreLocatedIn edition kind files position contents members located

-- what is found in a file at this position of a list
abbrev pub AreLocated : Edition → ConfigSourceKind → List ListFile → ℕ → List ℕ
    → List LocatedFinding → Type 0
AreLocated edition kind files position contents located =
    (IsUtf8 contents
    × AreInText edition kind files position contents (parse_document contents) located)
    ⊎ ((IsUtf8 contents → ⊥) × IsNotUtf8 contents located)

-- ---- findings on the way

-- what the finding reports stands at a value of the document
abbrev pub IsIn : Members → Finding → Type 0
IsIn members finding = (found : Found) × (found_of finding ≡ Some found)
    × IsSome (found_in members (whole_path found))

-- what the finding reports has a range in this index
abbrev pub HasRange : Index → Finding → Type 0
HasRange index finding = (found : Found) × (found_of finding ≡ Some found)
    × IsSome (range_of (ranges_in index) found)

-- the finding is at the range of what it reports
abbrev pub IsLocated : List ℕ → Finding → LocatedFinding → Type 0
IsLocated contents finding located = (found : Found) → found_of finding ≡ Some found
    → IsAtRange contents found located
