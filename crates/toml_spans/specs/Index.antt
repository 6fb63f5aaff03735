-- The index of a document, and the ranges that it tells.
use Rattle.std.specs.Prelude.{◌≡◌, List, ℕ, Option, Some, None, Result, IfOk, IfSome}
use Rattle.std.specs.declared.alloc.AllocError.{AllocError}
use Rattle.toml.specs.Data.{Members}
use Rattle.toml.specs.Parse.{parse_document}
use Rattle.toml_spans.specs.Document.{IsWalked}
use Rattle.toml_spans.specs.EntryViews.{branches_of}
use Rattle.toml_spans.specs.Place.{ArePlacesOf, IsSpan}
use Rattle.toml_spans.specs.Ranges.{Range, Ranges, ranges_of}
use Rattle.toml_spans.specs.declared.index.Index.{Index}
use Rattle.toml_spans.specs.declared.place.Span.{Span}

-- the ranges that the index of a text of so many bytes tells
abbrev pub ranges_in : Index → Ranges
ranges_in index = ranges_of index.places.length (branches_of index.root)

-- the span is that of the range, and there is none where there is no range
abbrev pub IsSpanOf : List ℕ → Option Range → Option Span → Type 0
IsSpanOf text None span = span ≡ None
IsSpanOf text (Some range) span = (places : Span) × (span ≡ Some places)
    × IsSpan text range.0 range.1 places

-- the index is that of the text: of all its statements, and of its places
pub record IsIndexOf (text : List ℕ) (index : Index) : Type 0 where
  pub walked : IsWalked text (branches_of index.root)
  pub places : ArePlacesOf text index.places

-- what holds of the ranges that an index tells, where there is an index
abbrev pub IfIndexed : Result (Option Index) AllocError → (Ranges → Type 0) → Type 0
IfIndexed result holds = IfOk result (λ found. IfSome found (λ index. holds (ranges_in index)))

-- what holds of the document that a text is
abbrev pub OfDocument : List ℕ → (Members → Type 0) → Type 0
OfDocument text holds = (members : Members) → parse_document text ≡ Some members → holds members
