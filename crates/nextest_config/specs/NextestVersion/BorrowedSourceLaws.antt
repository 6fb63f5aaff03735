-- The law of what is read of one borrowed source.
use Rattle.std.proofs.Common.{◌≡◌, [], ◌∷◌, Option, Some, None, sym, ap, ap₂, subst, ◌∙◌}
use Rattle.nextest_config.specs.Merge.{IsReadingOne}
use Rattle.nextest_config.specs.NextestVersion.ErrorKind.{Wrong}
use Rattle.nextest_config.specs.NextestVersion.Source.{SourcePlace, under}
use Rattle.nextest_config.specs.NextestVersion.VersionOnlyDeserialize.{Ask}
use Rattle.nextest_config.specs.NextestVersion.VersionOnlyDeserializeLaws.{asks_not_wrong, asks_once, one_table_error}
use Rattle.nextest_config.specs.declared.nextest_version.edition.Edition.{Edition}
use Rattle.nextest_config.specs.NextestVersion.BorrowedSource.{IsErrorOfBorrowed, StandsForBorrowed}
use Rattle.nextest_config.specs.NextestVersion.Document.{document_members, document_place, IsErrorOfDocument, StandsForDocument}
use Rattle.nextest_config.specs.NextestVersion.Error.{Refusal}
use Rattle.nextest_config.specs.NextestVersion.File.{file_given}
use Rattle.nextest_config.specs.NextestVersion.VersionOnly.{Configuration, seen_configuration, StandsForAsks}
use Rattle.nextest_config.specs.NextestVersion.VersionOnlyLaws.{alone_once, none_alone, one_alone, one_told}
use Rattle.nextest_config.specs.declared.nextest_version.borrowed_source.BorrowedSource.{BorrowedSource}
use Rattle.nextest_config.specs.declared.nextest_version.borrowed_source.BorrowedSource.TheVariants as sources
use Rattle.nextest_config.specs.declared.nextest_version.document.SourceDocument.{SourceDocument}

-- ---- a document

module _ (edition : Edition) (document : SourceDocument) where
  one_of_document : (c d : Configuration) → StandsForDocument edition document c
      → StandsForDocument edition document d → c ≡ d
  one_of_document c d (a, asks, stands) (b, also, other) =
      let same : b ≡ a = asks_once edition (document_place document).kind
      (document_members document) b a also asks in
      alone_once (record { place = document_place document; ask = a }) c d stands
      (subst (λ (ask : Ask). StandsForAsks
      (record { place = document_place document; ask = ask } ∷ []) d) same other)

  one_told_of_document : (a b : Option Refusal) → IsErrorOfDocument edition document a
      → IsErrorOfDocument edition document b → a ≡ b
  one_told_of_document None b h k = absurd h
  one_told_of_document (Some a) None h k = absurd k
  one_told_of_document (Some a) (Some b) h k =
      ap₂ (λ (place : SourcePlace) (wrong : Wrong). Some (record { place = place; wrong = wrong }))
      (h.0 ∙ sym k.0)
      (one_table_error edition (document_place document).kind (document_members document) a.wrong
      b.wrong h.1 k.1)

  none_of_document : (c : Configuration) (told : Option Refusal)
      → StandsForDocument edition document c → IsErrorOfDocument edition document told → ⊥
  none_of_document c None stands h = h
  none_of_document c (Some refusal) (a, asks, stands) h =
      asks_not_wrong edition (document_place document).kind (document_members document) a
      refusal.wrong asks h.1

-- ---- any borrowed source

module _ (edition : Edition) where
  one_of_borrowed : (source : BorrowedSource) (c d : Configuration)
      → StandsForBorrowed edition source c → StandsForBorrowed edition source d → c ≡ d
  one_of_borrowed (sources.File file) = one_alone (under edition (file_given file))
  one_of_borrowed (sources.Document document) = one_of_document edition document

  one_told_of_borrowed : (source : BorrowedSource) (a b : Option Refusal)
      → IsErrorOfBorrowed edition source a → IsErrorOfBorrowed edition source b → a ≡ b
  one_told_of_borrowed (sources.File file) = one_told (under edition (file_given file))
  one_told_of_borrowed (sources.Document document) = one_told_of_document edition document

  none_of_borrowed : (source : BorrowedSource) (c : Configuration) (told : Option Refusal)
      → StandsForBorrowed edition source c → IsErrorOfBorrowed edition source told → ⊥
  none_of_borrowed (sources.File file) = none_alone (under edition (file_given file))
  none_of_borrowed (sources.Document document) = none_of_document edition document

  -- one configuration stands for a borrowed source, or it has one error
  pub one_borrowed : {Y : Type 0} (configuration_of : Y → Configuration)
      → IsReadingOne (λ y. seen_configuration (configuration_of y))
      (λ source y. StandsForBorrowed edition source (configuration_of y))
      (λ source told. IsErrorOfBorrowed edition source told)
  one_borrowed configuration_of = record {
    one_piece = λ source a b h k. ap seen_configuration
        (one_of_borrowed source (configuration_of a) (configuration_of b) h k);
    one_error = λ source a b h k. one_told_of_borrowed source a b h k;
    never_both = λ source a told h k. none_of_borrowed source (configuration_of a) told h k;
  }
