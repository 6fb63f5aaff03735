-- What is found in files that were read.
use Rattle.std.specs.Prelude.{◌≡◌, ℕ, Bool, true, false, not, ◌&&◌, ◌||◌, List, [], ◌∷◌, ◌++◌, codes, filter, length, map, nat_eq, None}
use Rattle.std.specs.Cmp.Lexicographic.{pointwise}
use Rattle.std.specs.List.{AllZip, list_any}
use Rattle.nextest_config.specs.declared.nextest_version.edition.Edition.{Edition}
use Rattle.nextest_config.specs.declared.nextest_version.source.ConfigSourceKind.TheVariants.{DiscoveredRepository}
use Rattle.toml_spans.specs.Step.{index, key, PathStep, step_of}
use Rattle.nextest_config_lint.specs.Code.{code_word, reported_code}
use Rattle.nextest_config_lint.specs.Defined.{file_of, file_with, ListFile}
use Rattle.nextest_config_lint.specs.File.{AreLocated, IsDocument}
use Rattle.nextest_config_lint.specs.Finding.{finding_severity}
use Rattle.nextest_config_lint.specs.FindingsLaws.{IsFileWithoutError}
use Rattle.nextest_config_lint.specs.Found.{kind_view}
use Rattle.nextest_config_lint.specs.declared.code.FindingCode.{FindingCode}
use Rattle.nextest_config_lint.specs.declared.defined.ListedFile.{ListedFile}
use Rattle.nextest_config_lint.specs.declared.file.LocatedFinding.{LocatedFinding}
use Rattle.nextest_config_lint.specs.declared.finding.Finding.{Finding}
use Rattle.nextest_config_lint.specs.declared.finding.FindingKind.{FindingKind}
use Rattle.nextest_config_lint.specs.declared.finding.FindingSeverity.{FindingSeverity}
use Rattle.nextest_config_lint.specs.declared.finding.FindingSeverity.TheVariants.{Error, Note, Warning}
use Rattle.nextest_config_command.specs.Files.{File}
use Rattle.nextest_config_command.specs.Found.{all_files, FilesRead}
use Rattle.nextest_config_command.specs.Positions.{AllZipFrom}
use Rattle.nextest_config_command.specs.declared.file_findings.FileFindings.{FileFindings}
use Rattle.nextest_config_command.specs.declared.file_findings.LintRules.{LintRules}

-- ---- the files as a list

-- a file as one of a list: whose it is, and its document, if it is one
pub record IsListFile (file : File) (listed : ListFile) : Type 0 where
  pub kind : listed.kind ≡ file.place.kind
  pub document : IsDocument file.contents listed.document

-- the listed file is this file as one of a list
abbrev pub IsListed : File → ListedFile → Type 0
IsListed file listed = IsListFile file (file_of listed)

-- the listed files are these files as a list, in their order
abbrev pub AreListed : List File → List ListedFile → Type 0
AreListed files listed = AllZip IsListFile files (map file_of listed)

-- ---- which findings are reported

-- the word of the code of a kind of finding
abbrev pub code_text : FindingKind → List ℕ
code_text kind = code_word (reported_code (kind_view kind))

-- findings of this kind are left out, by their code
abbrev pub is_allowed : List FindingCode → FindingKind → Bool
is_allowed allowed kind =
    list_any (λ code. pointwise nat_eq (code_word code) (code_text kind)) allowed

-- the severity is that of an error
abbrev pub is_error : FindingSeverity → Bool
is_error Error = true
is_error Warning = false
is_error Note = false

-- a file asks for something by this key
abbrev pub is_source_key : List ℕ → Bool
is_source_key name = pointwise nat_eq name (codes "nextest-version")
    || pointwise nat_eq name (codes "experimental")

-- the path is that of the whole file, or it begins with a key by which a file asks for something
abbrev pub is_of_source : List PathStep → Bool
is_of_source [] = true
is_of_source (key name ∷ rest) = is_source_key name
is_of_source (index position ∷ rest) = false

-- a list is refused for the finding: an error of the whole file, or within `nextest-version` or
-- `experimental`
abbrev pub refuses : Finding → Bool
refuses finding = is_error (finding_severity finding.kind)
    && is_of_source (map step_of finding.path.items)

-- a finding is reported, unless its code is allowed; where refusals are reported in any case, so is
-- one for which the list is refused
abbrev pub is_reported : List FindingCode → Bool → Finding → Bool
is_reported allowed tells_refusals finding = not (is_allowed allowed finding.kind)
    || (tells_refusals && refuses finding)

-- how files are judged, and which of their findings are reported
pub record Judging : Type 0 where
  pub edition : Edition
  pub allowed : List FindingCode
  pub tells_refusals : Bool

-- how rules say that files are judged, without where they lie in memory
abbrev pub judging_of : LintRules → Judging
judging_of rules = record {
  edition = rules.edition;
  allowed = rules.allowed.now;
  tells_refusals = rules.tells_refusals;
}

-- a finding with its range is reported, as files are judged
abbrev pub tells : Judging → LocatedFinding → Bool
tells judging located = is_reported judging.allowed judging.tells_refusals located.finding

-- ---- what is found

-- what is found in the file at a path, of these contents
pub record FileFound : Type 0 where
  pub path : List ℕ
  pub contents : List ℕ
  pub located : List LocatedFinding

-- what is found and reported of a file at this position of a list
pub record IsFoundIn (judging : Judging) (list : List ListFile) (position : ℕ) (file : File)
    (found : FileFound) : Type 0 where
  pub all : List LocatedFinding
  pub are_located : AreLocated judging.edition file.place.kind list position file.contents all
  pub path : found.path ≡ file.place.path
  pub contents : found.contents ≡ file.contents
  pub located : found.located ≡ filter (tells judging) all

-- what is found in a file, without where it lies in memory
abbrev pub found_of : FileFindings → FileFound
found_of findings = record {
  path = findings.path.now;
  contents = findings.contents.now;
  located = findings.located.items;
}

-- a file that couldn't be read, which may define any name, if there is one
abbrev pub unread_files : Bool → List ListFile
unread_files false = []
unread_files true = file_with DiscoveredRepository None ∷ []

-- the files of a list, and behind them one that couldn't be read, if there is one
abbrev pub as_list : FilesRead → List ListFile → List ListFile
as_list files list = list ++ unread_files files.is_partial

-- what is found in the files of tools, each as one of the list that all files are
abbrev pub AreFoundInTools : Judging → FilesRead → List FileFound → Type 0
AreFoundInTools judging files found = (list : List ListFile)
    × AllZip IsListFile (all_files files) list
    × AllZipFrom (IsFoundIn judging (as_list files list)) 0 files.tools found

-- what is found in a file after those of tools, which are a list with it
abbrev pub IsFoundAfter : Judging → FilesRead → File → FileFound → Type 0
IsFoundAfter judging files file found = (list : List ListFile)
    × AllZip IsListFile (files.tools ++ (file ∷ [])) list
    × IsFoundIn judging (as_list files list) (length files.tools) file found

-- what is found in the files: those of tools, once, and then each of the repository's
pub record AreFound (judging : Judging) (files : FilesRead) (found : List FileFound) : Type 0 where
  pub of_tools : List FileFound
  pub of_repository : List FileFound
  pub in_tools : AreFoundInTools judging files of_tools
  pub in_repository : AllZip (IsFoundAfter judging files) files.repository of_repository
  pub whole : found ≡ of_tools ++ of_repository

-- the file is UTF-8, and a document without an error
abbrev pub HasNoError : Edition → File → Type 0
HasNoError edition file = IsFileWithoutError edition file.place.kind file.contents
