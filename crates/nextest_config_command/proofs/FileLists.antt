-- Lists of files that are refused.
use Rattle.std.proofs.Common.{◌≡◌, ◌⊎◌, Bool, true, false, List, [], ◌∷◌, inl, inr, None, Option, refl, rules, Some}
use Rattle.std.specs.Prelude.{ℕ, IsSome, IsUtf8}
use Rattle.std.specs.List.{AllZip}
use Rattle.std.specs.Str.{is_utf8}
use Rattle.std.proofs.lemmas.Str.{is_utf8-from_IsUtf8, IsUtf8-from_is_utf8}
use Rattle.toml.specs.Data.{Members}
use Rattle.toml.specs.Parse.{parse_document}
use Rattle.toml_spans.proofs.Elements.{all_weaker}
use Rattle.nextest_config.specs.declared.nextest_version.edition.Edition.{Edition}
use Rattle.nextest_config.proofs.OneRefusal.{reads_or_refused}
use Rattle.nextest_config.specs.NextestVersion.{Reads}
use Rattle.nextest_config_lint.specs.Defined.{file_with, ListFile}
use Rattle.nextest_config_lint.specs.File.{IsDocument}
use Rattle.nextest_config_command.specs.FileFindings.{IsListFile}
use Rattle.nextest_config_command.specs.FileList.{AreDocuments, AreTexts, IsDocumentFile, IsRefusedList, IsText, sources_of_files}
use Rattle.nextest_config_command.specs.Files.{File}

pub some_there : {X : Type 0} (found : Option X) (x : X) → found ≡ Some x → IsSome found
some_there found x is = search rules

utf8_or_not : (bytes : List ℕ) (is : Bool) → is_utf8 bytes ≡ is → IsUtf8 bytes ⊎ ¬ IsUtf8 bytes
utf8_or_not bytes true is = inl (IsUtf8-from_is_utf8 bytes is)
utf8_or_not bytes false is = inr (λ utf8. cc (is, is_utf8-from_IsUtf8 bytes utf8))

texts_or_not : (files : List File) → AreTexts files ⊎ ¬ AreTexts files
texts_or_not [] = inl tt
texts_or_not (file ∷ files) = elim (utf8_or_not file.contents (is_utf8 file.contents) refl) [
  | inl text ↦ elim (texts_or_not files) [
    | inl texts ↦ inl (text, texts)
    | inr no_texts ↦ inr (λ all. no_texts all.1)
  ]
  | inr no_text ↦ inr (λ all. no_text all.0)
]

-- texts that are read as sources are documents
read_documents : (edition : Edition) (files : List File) → AreTexts files → Reads (sources_of_files edition files) → AreDocuments files
read_documents edition [] texts reads = tt
read_documents edition (file ∷ files) texts ([], none) = absurd none
read_documents edition (file ∷ files) texts (asked ∷ rest, all) =
    ((texts.0, some_there _ _ all.0.read.1), read_documents edition files texts.1 (rest, all.1))

-- so files that aren't documents are refused
pub refused_documents : (edition : Edition) (files : List File) → ¬ AreDocuments files → IsRefusedList edition files
refused_documents edition files no_documents = elim (texts_or_not files) [
  | inl texts ↦ elim (reads_or_refused (sources_of_files edition files)) [
    | inl reads ↦ absurd (no_documents (read_documents edition files texts reads))
    | inr refused ↦ inr (texts, refused)
  ]
  | inr no_texts ↦ inl no_texts
]

-- documents are texts
pub document_texts : (files : List File) → AreDocuments files → AreTexts files
document_texts files documents = all_weaker IsDocumentFile IsText (λ file is. is.0) files documents

-- bytes are a document or not
document_or_none : (contents : List ℕ) → IsUtf8 contents ⊎ ¬ IsUtf8 contents → (parsed : Option Members) → parse_document contents ≡ parsed → (document : Option Members) × IsDocument contents document
document_or_none contents (inl text) (Some members) is = (Some members, (text, is))
document_or_none contents (inl text) None is = (None, λ _. is)
document_or_none contents (inr no_text) parsed is = (None, λ text. absurd (no_text text))

-- so files always are a list
pub as_a_list : (files : List File) → (list : List ListFile) × AllZip IsListFile files list
as_a_list [] = ([], tt)
as_a_list (file ∷ files) =
    let (document, is) = document_or_none file.contents (utf8_or_not file.contents (is_utf8 file.contents) refl) (parse_document file.contents) refl in
    let (list, listed) = as_a_list files in
    (file_with file.place.kind document ∷ list, (record { kind = refl; document = is }, listed))
