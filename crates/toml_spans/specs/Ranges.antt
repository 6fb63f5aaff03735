-- Where the keys and the values of a document stand, as ranges of its bytes: what is promised of
-- them.
use Rattle.std.specs.Prelude.{◌≡◌, ℕ, ◌-◌, ◌<◌, ◌≤◌, ◌⊎◌, ◌↔◌, suc, List, [], ◌∷◌, ◌++◌, drop, length, Option, Some, None, option_and_then, option_map, IsSome}
use Rattle.toml_parser.specs.Lexical.{comma, dot, equals, first, left_brace, left_bracket, right_bracket, skip_blank, skip_ws}
use Rattle.toml_parser.specs.Strings.{key as read_key}
use Rattle.toml.specs.Data.{Data, Members}
use Rattle.toml.specs.Parse.{after_byte, after_element, parse_value}
use Rattle.toml_spans.specs.Entry.{Branches, Piece, pieces_of, tree_at}
use Rattle.toml_spans.specs.Line.{found_in}
use Rattle.toml_spans.specs.Step.{index, key, PathStep}

-- the bytes from the first place up to the second, places being counted from the text's beginning
abbrev pub Range : Type 0
Range = ℕ × ℕ

-- these bytes stand at the range of the text
pub record IsAt (text : List ℕ) (range : Range) (between : List ℕ) : Type 0 where
  pub before : List ℕ
  pub behind : List ℕ
  pub whole : text ≡ before ++ (between ++ behind)
  pub begins : range.0 ≡ length before
  pub ends : range.1 ≡ length (before ++ between)

-- the ranges of the keys and of the values that paths lead to, where they have one
pub record Ranges : Type 0 where
  pub of_key : List PathStep → Option Range
  pub of_value : List PathStep → Option Range

-- the range of a piece of a text that has so many bytes
abbrev pub range_of : ℕ → Piece → Range
range_of bytes p = (bytes - p.0, bytes - p.1)

-- the ranges of the keys and of the values of a tree, of a text that has so many bytes
abbrev pub ranges_of : ℕ → Branches → Ranges
ranges_of bytes root = record {
  of_key = λ path. option_and_then (λ t. option_map (range_of bytes) (pieces_of t).of_key)
      (tree_at root path);
  of_value = λ path. option_and_then (λ t. option_map (range_of bytes) (pieces_of t).of_value)
      (tree_at root path);
}

-- the path has an entry: the range of a key, or that of a value
abbrev pub HasEntry : Ranges → List PathStep → Type 0
HasEntry ranges path = IsSome (ranges.of_key path) ⊎ IsSome (ranges.of_value path)

-- the range is one of the path's
abbrev pub IsRangeOf : Ranges → List PathStep → Range → Type 0
IsRangeOf ranges path range = (ranges.of_key path ≡ Some range)
    ⊎ (ranges.of_value path ≡ Some range)

-- each path that leads to a value has an entry, and no other path has one
abbrev pub HaveEntries : Members → Ranges → Type 0
HaveEntries members ranges = (path : List PathStep)
    → HasEntry ranges path ↔ IsSome (found_in members path)

-- the last key among these steps, or the text where there is none
abbrev pub last_key_from : List ℕ → List PathStep → List ℕ
last_key_from text [] = text
last_key_from text (key next ∷ rest) = last_key_from next rest
last_key_from text (index place ∷ rest) = last_key_from text rest

-- the last key among the steps of a path, or nothing where there is none
abbrev pub last_key : List PathStep → List ℕ
last_key path = last_key_from [] path

-- `toml_parser` reads a key's range as the path's last key (TOML 1.1, "Keys")
abbrev pub KeysRead : List ℕ → Ranges → Type 0
KeysRead text ranges = (path : List PathStep) (range : Range) → ranges.of_key path ≡ Some range
    → (written : List ℕ) × IsAt text range written
    × (read_key written ≡ Some (([], last_key path), []))

-- a path that ends in a key has the range of that
abbrev pub HaveKeys : Ranges → Type 0
HaveKeys ranges = (path : List PathStep) (text : List ℕ) → HasEntry ranges (path ++ (key text ∷ []))
    → IsSome (ranges.of_key (path ++ (key text ∷ [])))

-- `toml` reads a value's range alone as the value that the path leads to
abbrev pub ValuesRead : List ℕ → Members → Ranges → Type 0
ValuesRead text members ranges = (path : List PathStep) (range : Range)
    → ranges.of_value path ≡ Some range
    → (written : List ℕ) × (value : Data) × IsAt text range written
    × (parse_value written ≡ Some value) × (found_in members path ≡ Some value)

-- the text from this place on
pub record IsFrom (text : List ℕ) (place : ℕ) (behind : List ℕ) : Type 0 where
  pub before : List ℕ
  pub whole : text ≡ before ++ behind
  pub begins : place ≡ length before

-- a value is written after its key and `=`, and white space around that
pub record IsAfterKey (text : List ℕ) (of_key of_value : Range) : Type 0 where
  pub behind : List ℕ
  pub after_key : IsFrom text of_key.1 behind
  pub rest : List ℕ
  pub equals_sign : after_byte equals (skip_ws behind) ≡ Some rest
  pub begins : of_value.0 ≡ length text - length (skip_ws rest)

-- where `=` stands after a key there is the range of a value, and it is after that; where none
-- does, there is no such range (TOML 1.1, "Key/Value Pair")
abbrev pub AreWritten : List ℕ → Ranges → Type 0
AreWritten text ranges = (path : List PathStep) (of_key : Range) (behind : List ℕ)
    → ranges.of_key path ≡ Some of_key → IsFrom text of_key.1 behind
    → ((first (skip_ws behind) ≡ equals) ↔ IsSome (ranges.of_value path))
    × ((of_value : Range) → ranges.of_value path ≡ Some of_value
    → IsAfterKey text of_key of_value)

-- what stands below a value lies within it
abbrev pub LieWithinValues : Ranges → Type 0
LieWithinValues ranges = (path rest : List PathStep) (of_value range : Range)
    → ranges.of_value path ≡ Some of_value → IsRangeOf ranges (path ++ rest) range
    → rest ≡ [] ⊎ ((of_value.0 ≤ range.0) × (range.1 ≤ of_value.1))

-- elements stand in the order of their indexes, whether they are written as values or begin at
-- headers (TOML 1.1, "Array" and "Array of Tables")
pub record StandInTurn (ranges : Ranges) : Type 0 where
  pub values : (path : List PathStep) (i j : ℕ) (one other : Range) → i < j
      → ranges.of_value (path ++ (index i ∷ [])) ≡ Some one
      → ranges.of_value (path ++ (index j ∷ [])) ≡ Some other → one.1 ≤ other.0
  pub headers : (path : List PathStep) (i j : ℕ) (one other : Range) → i < j
      → ranges.of_key (path ++ (index i ∷ [])) ≡ Some one
      → ranges.of_key (path ++ (index j ∷ [])) ≡ Some other → one.1 ≤ other.0

-- one range ends before the other begins, or right there
abbrev pub Precedes : Range → Range → Type 0
Precedes one other = one.1 ≤ other.0

-- one range lies within the other
abbrev pub LiesWithin : Range → Range → Type 0
LiesWithin one other = (other.0 ≤ one.0) × (one.1 ≤ other.1)

-- the ranges of two values are apart or one within the other
abbrev pub AreApartOrNested : Ranges → Type 0
AreApartOrNested ranges = (path other_path : List PathStep) (one other : Range)
    → ranges.of_value path ≡ Some one → ranges.of_value other_path ≡ Some other
    → (Precedes one other ⊎ Precedes other one) ⊎ (LiesWithin one other ⊎ LiesWithin other one)

-- a key ends before its value begins
abbrev pub KeysComeFirst : Ranges → Type 0
KeysComeFirst ranges = (path : List PathStep) (of_key of_value : Range)
    → ranges.of_key path ≡ Some of_key → ranges.of_value path ≡ Some of_value
    → Precedes of_key of_value

-- the range of the element at an index
abbrev pub element : Ranges → List PathStep → ℕ → Option Range
element ranges path i = ranges.of_value (path ++ (index i ∷ []))

-- The first element begins after the array's bracket and each later one after a comma, and after
-- the last one, and a comma or none, the array ends with its bracket. Blanks and comments may stand
-- between (TOML 1.1, "Array").
pub record ElementsStand (text : List ℕ) (ranges : Ranges) : Type 0 where
  pub first_one : (path : List PathStep) (whole one : Range) (start : List ℕ)
      → ranges.of_value path ≡ Some whole → element ranges path 0 ≡ Some one
      → IsFrom text whole.0 start
      → (inside : List ℕ) × (start ≡ left_bracket ∷ inside) × IsFrom text one.0 (skip_blank inside)
  pub next_one : (path : List PathStep) (i : ℕ) (one other : Range) (behind : List ℕ)
      → element ranges path i ≡ Some one → element ranges path (suc i) ≡ Some other
      → IsFrom text one.1 behind
      → (rest : List ℕ) × (after_element right_bracket behind ≡ Some rest)
      × IsFrom text other.0 (skip_blank rest)
  pub last_one : (path : List PathStep) (i : ℕ) (whole one : Range) (behind : List ℕ)
      → ranges.of_value path ≡ Some whole → element ranges path i ≡ Some one
      → element ranges path (suc i) ≡ None → IsFrom text one.1 behind
      → (rest : List ℕ) × (after_element right_bracket behind ≡ Some rest)
      × (first (skip_blank rest) ≡ right_bracket)
      × IsFrom text whole.1 (drop 1 (skip_blank rest))

-- an array without elements ends with the bracket after its first one, and blanks and comments
-- (TOML 1.1, "Array")
abbrev pub EmptyArraysEnd : List ℕ → Ranges → Type 0
EmptyArraysEnd text ranges = (path : List PathStep) (whole : Range) (inside : List ℕ)
    → ranges.of_value path ≡ Some whole → element ranges path 0 ≡ None
    → IsFrom text whole.0 (left_bracket ∷ inside)
    → (first (skip_blank inside) ≡ right_bracket) × IsFrom text whole.1 (drop 1 (skip_blank inside))

-- what begins at this place comes after a brace, a comma or a dot, and blanks and comments
pub record IsAfterMark (text : List ℕ) (place : ℕ) : Type 0 where
  pub before : List ℕ
  pub mark : ℕ
  pub behind : List ℕ
  pub whole : text ≡ before ++ (mark ∷ behind)
  pub is_mark : (mark ≡ left_brace) ⊎ ((mark ≡ comma) ⊎ (mark ≡ dot))
  pub begins : IsFrom text place (skip_blank behind)

-- each key below a value begins after a brace, a comma or a dot, and blanks and comments (TOML 1.1,
-- "Inline Table")
abbrev pub MembersStand : List ℕ → Ranges → Type 0
MembersStand text ranges = (path rest : List PathStep) (step : PathStep) (whole one : Range)
    → ranges.of_value path ≡ Some whole → ranges.of_key (path ++ (step ∷ rest)) ≡ Some one
    → IsAfterMark text one.0
