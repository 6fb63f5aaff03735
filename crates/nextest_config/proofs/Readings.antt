-- A list reads or is refused, and not both; and the refusal of a list, from those of its sources.
use Rattle.std.proofs.Common.{rules, ◌≡◌, ℕ, List, ◌∷◌, map, Option, Some, None, refl, ap, subst, ◌∙◌}
use Rattle.std.proofs.lemmas.List.{length-map, map-append}
use Rattle.nextest_config.specs.NextestVersion.Source.{Source}
use Rattle.nextest_config.specs.Merge.{IsFirstWrong, IsRefusalOfOne, IsRefusalOfPieces}
use Rattle.nextest_config.specs.NextestVersion.{IsWrong, IsWrongTable, RefusesSource, Wrong, wrong_of, AreRead, Configuration, document_members, document_place, IsErrorOf, IsErrorOfDocument, IsFirstRefused, IsKindOf, IsRefusalOf, IsRefusedReading, IsRefusedSo, Reads, Refusal, refusal_at, refusal_of, StandsForOne}
use Rattle.nextest_config.specs.declared.merge.PieceRefusal.{PieceRefusal}
use Rattle.nextest_config.specs.declared.merge.PieceRefusal.TheVariants as pieces
use Rattle.nextest_config.specs.declared.nextest_version.document.SourceDocument.{SourceDocument}
use Rattle.nextest_config.specs.declared.nextest_version.error.ConfigParseError.{ConfigParseError}
use Rattle.nextest_config.specs.declared.nextest_version.edition.Edition.{Edition}
use Rattle.nextest_config.specs.declared.nextest_version.error_kind.ConfigParseErrorKind.{ConfigParseErrorKind}
use Rattle.nextest_config.proofs.SourceRefusals.{told_twice}
use Rattle.nextest_config.proofs.Standing.{reads_all}
use Rattle.nextest_config.proofs.OneRefusal.{none_refused}

pub reads_not_refused : (sources : List Source) (position : ℕ) (refusal : Refusal) → Reads sources → IsFirstRefused sources position refusal → ⊥
reads_not_refused sources position refusal reads first =
    none_refused first.before first.source first.after reads.0 refusal (subst (λ (s : List Source). AreRead s reads.0) first.whole reads.1) first.refused

-- what is wrong with a source is its refusal
pub refusal_of_one : (source : Source) (kind : ConfigParseErrorKind) (r : PieceRefusal ConfigParseError) → RefusesSource (IsWrong source.edition source.place.kind source.contents) kind → IsKindOf source.place kind r → IsRefusalOfOne refusal_of IsErrorOf source r
refusal_of_one source kind r is_wrong refused =
    told_twice (wrong_of kind) is_wrong refused (λ memory of_memory. rw (of_memory memory) tt) (λ wrong wrong_so so. by_refusal wrong wrong_so r so)
  where
    by_refusal : (wrong : Wrong) → IsWrong source.edition source.place.kind source.contents wrong → (refusal : PieceRefusal ConfigParseError) → IsRefusedSo (refusal_at source.place wrong) refusal → IsRefusalOfOne refusal_of IsErrorOf source refusal
    by_refusal wrong wrong_so refusal so = search rules

-- what is wrong with a document is its refusal
pub refusal_of_document : (edition : Edition) (document : SourceDocument) (kind : ConfigParseErrorKind) (r : PieceRefusal ConfigParseError) → RefusesSource (IsWrongTable edition (document_place document).kind (document_members document)) kind → IsKindOf (document_place document) kind r
    → IsRefusalOfOne refusal_of (IsErrorOfDocument edition) document r
refusal_of_document edition document kind r is_wrong refused =
    told_twice (wrong_of kind) is_wrong refused (λ memory of_memory. rw (of_memory memory) tt) (λ wrong wrong_so so. by_refusal wrong wrong_so r so)
  where
    by_refusal : (wrong : Wrong) → IsWrongTable edition (document_place document).kind (document_members document) wrong → (refusal : PieceRefusal ConfigParseError) → IsRefusedSo (refusal_at (document_place document) wrong) refusal → IsRefusalOfOne refusal_of (IsErrorOfDocument edition) document refusal
    by_refusal wrong wrong_so refusal so = search rules

-- the first source that is refused of those that are read one by one is the first of their list
module _ {X Y : Type 0} (source_of : X → Source) (configuration_of : Y → Configuration) where
  first_refused : (xs : List X) (position : ℕ) (told : Option Refusal) → IsFirstWrong (λ x y. StandsForOne (source_of x) (configuration_of y)) (λ x error. IsErrorOf (source_of x) error) xs position told
      → (refusal : Refusal) × (told ≡ Some refusal) × IsFirstRefused (map source_of xs) position refusal
  first_refused xs position None first = absurd first.refused
  first_refused xs position (Some refusal) first = (
    refusal,
    refl,
    record {
      before = map source_of first.before;
      source = source_of first.source;
      after = map source_of first.after;
      whole = ap (map source_of) first.whole ∙ map-append source_of first.before (first.source ∷ first.after);
      place = length-map first.before source_of ∙ first.place;
      read = reads_all source_of configuration_of first.before first.read;
      refused = first.refused;
    },
  )

  pub refusal_of_list : (xs : List X) (r : PieceRefusal ConfigParseError) → IsRefusalOfPieces refusal_of (λ x y. StandsForOne (source_of x) (configuration_of y)) (λ x error. IsErrorOf (source_of x) error) xs r
      → IsRefusalOf (map source_of xs) r
  refusal_of_list xs r first = search (rules, first_refused)

-- a list that reads is refused only where memory runs out
pub refused_reading : (sources : List Source) (r : PieceRefusal ConfigParseError) → IsRefusalOf sources r → IsRefusedReading sources r
refused_reading sources (pieces.Refused position error) first = record { only = λ reads. absurd (reads_not_refused sources position first.0 reads first.2); refused = first }
refused_reading sources pieces.Memory first = record { only = λ reads. refl; refused = first }
