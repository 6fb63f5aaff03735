-- Documents that are at hand, and the sources whose contents they are.
use Rattle.std.specs.Prelude.{◌≡◌, ℕ, List, [], ◌∷◌, Option, Some, None}
use Rattle.std.specs.List.{AllZip}
use Rattle.toml.specs.Data.{Members}
use Rattle.toml.specs.Parse.{parse_document}
use Rattle.toml.specs.View.{table_view}
use Rattle.nextest_config.specs.NextestVersion.Source.{Given, SourcePlace, place_of}
use Rattle.nextest_config.specs.NextestVersion.VersionOnlyDeserialize.{Ask, IsWrongTable, TableAsks}
use Rattle.nextest_config.specs.declared.nextest_version.edition.Edition.{Edition}
use Rattle.nextest_config.specs.NextestVersion.Error.{Refusal}
use Rattle.nextest_config.specs.NextestVersion.VersionOnly.{Configuration, StandsForAsks}
use Rattle.nextest_config.specs.declared.nextest_version.document.SourceDocument.{SourceDocument}

-- where the source of the document is
abbrev pub document_place : SourceDocument → SourcePlace
document_place document = place_of document.source.now

-- the keys and values of the document's table
abbrev pub document_members : SourceDocument → Members
document_members document = table_view document.document.now

-- what is given is a text at the place of the document's source, which `toml` reads as the document
-- (TOML 1.1)
pub record IsDocumentOf (given : Given) (document : SourceDocument) : Type 0 where
  pub text : List ℕ
  pub place : given.place ≡ document_place document
  pub contents : given.contents ≡ Some text
  pub read : parse_document text ≡ Some (document_members document)

-- these are the documents of what is given, one each
abbrev pub AreDocumentsOf : List Given → List SourceDocument → Type 0
AreDocumentsOf givens documents = AllZip IsDocumentOf givens documents

-- ---- one document

-- the configuration stands for what the document asks under the edition
abbrev pub StandsForDocument : Edition → SourceDocument → Configuration → Type 0
StandsForDocument edition document configuration = (ask : Ask)
    × TableAsks edition (document_place document).kind (document_members document) ask
    × StandsForAsks (record { place = document_place document; ask = ask } ∷ []) configuration

-- the error tells what is wrong with the document under the edition
abbrev pub IsErrorOfDocument : Edition → SourceDocument → Option Refusal → Type 0
IsErrorOfDocument edition document (Some refusal) = (refusal.place ≡ document_place document)
    × IsWrongTable edition (document_place document).kind (document_members document) refusal.wrong
IsErrorOfDocument edition document None = ⊥
