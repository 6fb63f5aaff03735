-- What is promised of the ranges of what all statements of a text made.
use Rattle.std.proofs.Common.{◌≡◌, ℕ, List, length, Some, sym, ◌∙◌}
use Rattle.std.proofs.lemmas.Option.{same_Some}
use Rattle.toml.specs.Data.{Members}
use Rattle.toml.specs.Parse.{parse_document}
use Rattle.toml.specs.Tables.{close, Nodes}
use Rattle.toml_spans.specs.Document.{IsWalked, Walk}
use Rattle.toml_spans.specs.Entry.{Branches}
use Rattle.toml_spans.specs.Index.{OfDocument}
use Rattle.toml_spans.specs.Ranges.{AreApartOrNested, AreWritten, ElementsStand, EmptyArraysEnd, HaveEntries, HaveKeys, KeysComeFirst, KeysRead, LieWithinValues, MembersStand, Ranges, ranges_of, StandInTurn, ValuesRead}
use Rattle.toml_spans.proofs.Between.Elements.{ElementsSpaced, spaced_kept}
use Rattle.toml_spans.proofs.Between.Members.{below_kept, BelowMarked, keys_marked, pair_value_marked}
use Rattle.toml_spans.proofs.Between.Ranges.{elements_stand, none_stands}
use Rattle.toml_spans.proofs.Between.Values.{pair_value_spaced}
use Rattle.toml_spans.proofs.Between.Walks.{walk_holds}
use Rattle.toml_spans.proofs.Order.Holds.{HoldsIn}
use Rattle.toml_spans.proofs.Order.Ranges.{elements_stand_in_turn, values_apart, values_enclose}
use Rattle.toml_spans.proofs.Order.Walks.{RootSettled, walks_settled}
use Rattle.toml_spans.proofs.Trees.Documents.{walk_reads}
use Rattle.toml_spans.proofs.Trees.Promises as promises
use Rattle.toml_spans.proofs.Trees.Stands.{AreBranches}

-- what is promised of the ranges that the index of a text tells
pub record ArePromised (text : List ℕ) (ranges : Ranges) : Type 0 where
  pub entries : OfDocument text (λ members. HaveEntries members ranges)
  pub keys : HaveKeys ranges
  pub keys_read : KeysRead text ranges
  pub values : AreWritten text ranges
  pub values_read : OfDocument text (λ members. ValuesRead text members ranges)
  pub keys_first : KeysComeFirst ranges
  pub within_values : LieWithinValues ranges
  pub elements : ElementsStand text ranges
  pub empty_arrays : EmptyArraysEnd text ranges
  pub members : MembersStand text ranges
  pub in_turn : StandInTurn ranges
  pub nested : AreApartOrNested ranges

module _ (text : List ℕ) (root : Branches) (walked : IsWalked text root) where
  abbrev walk : Walk
  walk = record { root = root; section = walked.section }

  -- the text is a document, of which this is so
  pub read : (nodes : Nodes) × (parse_document text ≡ Some (close nodes)) × AreBranches text root nodes
  read = walk_reads text walk walked.rest walked.walks walked.over

  closed : (members : Members) → parse_document text ≡ Some members → close read.0 ≡ members
  closed members reads = same_Some (close read.0) members (sym read.1 ∙ reads)

  settled : RootSettled (length walked.rest) root
  settled = walks_settled text walk walked.rest walked.walks

  spaced : HoldsIn (ElementsSpaced text) root
  spaced = walk_holds (ElementsSpaced text) (spaced_kept text) text (pair_value_spaced text) walk walked.rest walked.walks

  pub promised : (bytes : ℕ) → bytes ≡ length text → ArePromised text (ranges_of bytes root)
  promised bytes is = rw is (record {
    entries = λ members reads. rw (closed members reads) at (promises.entries text root read.0 read.2);
    keys = promises.ends_in_keys text root read.0 read.2;
    keys_read = promises.keys text root read.0 read.2;
    values = promises.written text root read.0 read.2;
    values_read = λ members reads. rw (closed members reads) at (promises.values text root read.0 read.2);
    keys_first = promises.first_keys text root read.0 read.2;
    within_values = values_enclose (length text) _ root settled;
    elements = elements_stand text root spaced;
    empty_arrays = none_stands text root spaced;
    members = keys_marked text root (walk_holds (BelowMarked text) (below_kept text) text (pair_value_marked text) walk walked.rest walked.walks);
    in_turn = elements_stand_in_turn (length text) _ root settled;
    nested = values_apart (length text) _ root settled;
  })
