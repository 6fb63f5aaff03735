-- Places of a text: lines and columns, as people count them. A character is a Unicode scalar value.
use Rattle.std.specs.Prelude.{◌≡◌, ◌≢◌, ◌⊎◌, ℕ, suc, List, [], ◌++◌, count_by, take}
use Rattle.std.specs.List.{AllByRecursion}
use Rattle.toml_spans.specs.Characters.{line_feed}
use Rattle.toml_spans.specs.Line.{EndsLine, line_after}
use Rattle.toml_spans.specs.Offsets.{AreOffsetsOf, begins_character}
use Rattle.toml_spans.specs.declared.place.Place.{Place}
use Rattle.toml_spans.specs.declared.place.Places.{Places}
use Rattle.toml_spans.specs.declared.place.Span.{Span}

-- the byte ends no line
abbrev pub IsInLine : ℕ → Type 0
IsInLine byte = byte ≢ line_feed

-- the column, from 1, of what comes after this front of a text: in its last line, as many
-- characters further
pub record IsColumn (front : List ℕ) (column : ℕ) : Type 0 where
  pub before : List ℕ
  pub last : List ℕ
  pub whole : front ≡ before ++ last
  pub begins : EndsLine before ⊎ (before ≡ [])
  pub one_line : AllByRecursion IsInLine last
  pub column_is : column ≡ suc (count_by begins_character last)

-- the place of what comes after this front of a text
pub record IsPlace (front : List ℕ) (place : Place) : Type 0 where
  pub line_is : place.line ≡ line_after front
  pub column_is : IsColumn front place.column

-- the span goes from one byte of a text up to another
pub record IsSpan (text : List ℕ) (from to : ℕ) (span : Span) : Type 0 where
  pub begin : IsPlace (take from text) span.begin
  pub end : IsPlace (take to text) span.end

-- these are the places of the text: its length, where its lines begin, and where bytes stand that
-- begin no character
abbrev pub ArePlacesOf : List ℕ → Places → Type 0
ArePlacesOf text places = AreOffsetsOf text places.length places.line_begins.items
    places.continuations.items
