-- What is read of borrowed sources, as what is read of what is given.
use Rattle.std.proofs.Common.{List, [], ◌∷◌, map, Option, rules}
use Rattle.nextest_config.specs.Merge.{IsJoinOfPieces, IsRefusalOfPieces}
use Rattle.nextest_config.specs.NextestVersion.{under, AreDocumentsOf, AreGivenAs, configuration_of, IsConfigurationOf, IsErrorOf, IsErrorOfBorrowed, IsGivenAs, IsRefusedReading, join_configurations, neutral_seen, Refusal, refusal_of, seen_configuration, StandsForBorrowed, StandsForOne}
use Rattle.nextest_config.specs.NextestVersion.Source.{Given}
use Rattle.nextest_config.proofs.Halves.{same_join, same_refusal}
use Rattle.nextest_config.proofs.Readings.{refusal_of_list, refused_reading}
use Rattle.nextest_config.proofs.Selection.{configured}
use Rattle.nextest_config.proofs.Standing.{stands_for_all}
use Rattle.nextest_config.specs.declared.merge.PieceRefusal.{PieceRefusal}
use Rattle.nextest_config.specs.declared.nextest_version.edition.Edition.{Edition}
use Rattle.nextest_config.specs.declared.nextest_version.borrowed_source.BorrowedSource.{BorrowedSource}
use Rattle.nextest_config.specs.declared.nextest_version.borrowed_source.BorrowedSource.TheVariants as sources
use Rattle.nextest_config.specs.declared.nextest_version.borrowed_source.SourcesConfig.{SourcesConfig}
use Rattle.nextest_config.specs.declared.nextest_version.document.SourceDocument.{SourceDocument}
use Rattle.nextest_config.specs.declared.nextest_version.error.ConfigParseError.{ConfigParseError}

-- ---- one source

module _ (edition : Edition) where
  given_stands : (given : Given) (source : BorrowedSource) (it : SourcesConfig) → IsGivenAs given source → StandsForBorrowed edition source (configuration_of it.config) → StandsForOne (under edition given) (configuration_of it.config)
  given_stands given source it is stands = search rules

  given_wrong : (given : Given) (source : BorrowedSource) (told : Option Refusal) → IsGivenAs given source → IsErrorOfBorrowed edition source told → IsErrorOf (under edition given) told
  given_wrong given source told is wrong = search rules

  -- ---- all of them

  pub reading_of : (givens : List Given) (borrowed : List BorrowedSource) (it : SourcesConfig) → AreGivenAs givens borrowed
      → IsJoinOfPieces join_configurations neutral_seen (λ (y : SourcesConfig). seen_configuration (configuration_of y.config)) (λ source (y : SourcesConfig). StandsForBorrowed edition source (configuration_of y.config)) borrowed (seen_configuration (configuration_of it.config))
      → IsConfigurationOf (map (under edition) givens) (configuration_of it.config)
  reading_of givens borrowed it are joined = configured _ _ (stands_for_all (under edition) (λ (y : SourcesConfig). configuration_of y.config) givens (configuration_of it.config) it.config.experimental.known_in_order
      (same_join IsGivenAs _ _ given_stands join_configurations neutral_seen (λ (y : SourcesConfig). seen_configuration (configuration_of y.config)) givens borrowed _ are joined))

  pub refusal_of_given : (givens : List Given) (borrowed : List BorrowedSource) (r : PieceRefusal ConfigParseError) → AreGivenAs givens borrowed
      → IsRefusalOfPieces refusal_of (λ source (y : SourcesConfig). StandsForBorrowed edition source (configuration_of y.config)) (IsErrorOfBorrowed edition) borrowed r
      → IsRefusedReading (map (under edition) givens) r
  refusal_of_given givens borrowed r are first = refused_reading _ r (refusal_of_list (under edition) (λ (y : SourcesConfig). configuration_of y.config) givens r
      (same_refusal IsGivenAs _ _ given_stands refusal_of (IsErrorOfBorrowed edition) _ given_wrong givens borrowed r are first))

-- documents, borrowed as sources
pub all_documents : (givens : List Given) (documents : List SourceDocument) → AreDocumentsOf givens documents → AreGivenAs givens (map sources.Document documents)
all_documents [] [] are = tt
all_documents [] (document ∷ documents) are = absurd are
all_documents (given ∷ givens) [] are = absurd are
all_documents (given ∷ givens) (document ∷ documents) are = (are.0, all_documents givens documents are.1)
