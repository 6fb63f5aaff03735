-- The file that is judged.
use Rattle.std.specs.Prelude.{ℕ, List, map, Option, Some, string_bytes}
use Rattle.toml.specs.Data.{Members}
use Rattle.nextest_config.specs.declared.nextest_version.edition.Edition.{Edition}
use Rattle.nextest_config_lint.specs.Defined.{AreNamesOf, file_with, HasNamed, IsDefinedBy, ListFile}
use Rattle.nextest_config_lint.specs.Found.{FoundKind, HoldsInView}
use Rattle.nextest_config_lint.specs.declared.finding.FindingKind.{FindingKind}
use Rattle.nextest_config_elements.specs.declared.named.NamedKind.TheVariants.{Script}
use Rattle.nextest_config_elements.specs.declared.named.ScriptKind.TheVariants.{Setup}
use Rattle.nextest_config_lint.specs.declared.references.judged_file.JudgedFile.{JudgedFile}
use Rattle.nextest_config_lint.specs.declared.defined.Defined.{Defined}

-- a file at a position of a list, judged under an edition
pub record FileInList : Type 0 where
  pub edition : Edition
  pub files : List ListFile
  pub file : ListFile
  pub position : ℕ

-- this file at this position of a list, under this edition
abbrev pub in_list : Edition → List ListFile → ListFile → ℕ → FileInList
in_list edition files file position =
    record { edition = edition; files = files; file = file; position = position }

-- the file of a source with a document, as it is judged
abbrev pub file_judged : JudgedFile → Members → ListFile
file_judged judged members = file_with judged.source.now (Some members)

-- what is kept of the list, and of the file with this document, is what they define
abbrev pub IsJudgedIn : List ListFile → Members → JudgedFile → Type 0
IsJudgedIn files members judged = IsDefinedBy files judged.defined.now
    × AreNamesOf (HasNamed (Script Setup) (file_judged judged members))
    (map string_bytes judged.setup_scripts.now.keys)

-- the file with this document in the list, as it is judged
abbrev pub judged_in : List ListFile → Members → JudgedFile → FileInList
judged_in files members judged =
    in_list judged.edition files (file_judged judged members) judged.position

-- this holds of what is found, in each list whose files define what is kept
abbrev pub HoldsInList : Defined → (List ListFile → Option FoundKind → Type 0) → Option FindingKind
    → Type 0
HoldsInList defined IsReported kind =
    (files : List ListFile) → IsDefinedBy files defined → HoldsInView (IsReported files) kind

-- this holds of what is found in the file that is judged, in each list and with each document that
-- fit what is kept
abbrev pub HoldsInFile : JudgedFile → (FileInList → Option FoundKind → Type 0) → Option FindingKind
    → Type 0
HoldsInFile judged IsReported kind = (files : List ListFile) (members : Members)
    → IsJudgedIn files members judged → HoldsInView (IsReported (judged_in files members judged))
    kind
