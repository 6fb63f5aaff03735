-- Sources that are borrowed to be read: files, and documents that are at hand.
use Rattle.std.specs.Prelude.{◌≡◌, List, Option}
use Rattle.std.specs.List.{AllZip}
use Rattle.nextest_config.specs.NextestVersion.Source.{Given, under}
use Rattle.nextest_config.specs.declared.nextest_version.edition.Edition.{Edition}
use Rattle.nextest_config.specs.NextestVersion.Document.{IsDocumentOf, IsErrorOfDocument, StandsForDocument}
use Rattle.nextest_config.specs.NextestVersion.Error.{Refusal}
use Rattle.nextest_config.specs.NextestVersion.File.{file_given}
use Rattle.nextest_config.specs.NextestVersion.VersionOnly.{Configuration, IsErrorOf, StandsForOne}
use Rattle.nextest_config.specs.declared.nextest_version.borrowed_source.BorrowedSource.{BorrowedSource}
use Rattle.nextest_config.specs.declared.nextest_version.borrowed_source.BorrowedSource.TheVariants as sources

-- the source is what is given, or its document
abbrev pub IsGivenAs : Given → BorrowedSource → Type 0
IsGivenAs given (sources.File file) = given ≡ file_given file
IsGivenAs given (sources.Document document) = IsDocumentOf given document

-- the sources are what is given, one each
abbrev pub AreGivenAs : List Given → List BorrowedSource → Type 0
AreGivenAs givens borrowed = AllZip IsGivenAs givens borrowed

-- the configuration stands for the source under the edition
abbrev pub StandsForBorrowed : Edition → BorrowedSource → Configuration → Type 0
StandsForBorrowed edition (sources.File file) = StandsForOne (under edition (file_given file))
StandsForBorrowed edition (sources.Document document) = StandsForDocument edition document

-- the error tells what is wrong with the source under the edition
abbrev pub IsErrorOfBorrowed : Edition → BorrowedSource → Option Refusal → Type 0
IsErrorOfBorrowed edition (sources.File file) = IsErrorOf (under edition (file_given file))
IsErrorOfBorrowed edition (sources.Document document) = IsErrorOfDocument edition document
