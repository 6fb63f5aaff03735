-- Values that are joined in order, pieces that are read of sources, lists in parts, and lists in
-- another order.
use Rattle.std.specs.Prelude.{◌≡◌, ℕ, ◌+◌, ◌^◌, ◌<◌, List, [], ◌∷◌, ◌++◌, length, map}
use Rattle.std.specs.List.{AllZip, flat_map}
use Rattle.std.specs.List.Sorted.{IsPermutation}
use Rattle.nextest_config.specs.declared.merge.PieceRefusal.{PieceRefusal}
use Rattle.nextest_config.specs.declared.merge.PieceRefusal.TheVariants as refusals

-- the join is associative, and the neutral element changes nothing on either side
pub record IsMonoid {X : Type 0} (join : X → X → X) (neutral : X) : Type 0 where
  pub associative : (x y z : X) → join (join x y) z ≡ join x (join y z)
  pub neutral_first : (x : X) → join neutral x ≡ x
  pub neutral_last : (x : X) → join x neutral ≡ x

-- the join of all values of a list, in order
abbrev pub total : {X : Type 0} → (X → X → X) → X → List X → X
total join neutral [] = neutral
total join neutral (x ∷ xs) = join x (total join neutral xs)

-- ---- pieces that are read of sources

-- a source has at most one piece, as it is seen, and at most one error, as it is told, and never
-- both
pub record IsReadingOne {Source Piece Seen Told : Type 0} (seen : Piece → Seen)
    (piece : Source → Piece → Type 0) (wrong : Source → Told → Type 0) : Type 0 where
  pub one_piece : (source : Source) (a b : Piece) → piece source a → piece source b
      → seen a ≡ seen b
  pub one_error : (source : Source) (a b : Told) → wrong source a → wrong source b → a ≡ b
  pub never_both : (source : Source) (a : Piece) (b : Told) → piece source a → wrong source b → ⊥

-- every source has a piece
abbrev pub HavePieces : {Source Piece : Type 0} → (Source → Piece → Type 0) → List Source → Type 0
HavePieces {Source} {Piece} piece sources = (pieces : List Piece) × AllZip piece sources pieces

-- this is the join of the sources' pieces, as they are seen, in order
abbrev pub IsJoinOfPieces : {Source Piece Seen : Type 0} → (Seen → Seen → Seen) → Seen
    → (Piece → Seen) → (Source → Piece → Type 0) → List Source → Seen → Type 0
IsJoinOfPieces {Source} {Piece} join neutral seen piece sources joined = (pieces : List Piece)
    × AllZip piece sources pieces × (joined ≡ total join neutral (map seen pieces))

-- the first position whose source has no piece, and its error
pub record IsFirstWrong {Source Piece Told : Type 0} (piece : Source → Piece → Type 0)
    (wrong : Source → Told → Type 0) (sources : List Source) (position : ℕ) (error : Told) : Type 0
  where
    pub before : List Source
    pub source : Source
    pub after : List Source
    pub whole : sources ≡ before ++ (source ∷ after)
    pub place : length before ≡ position
    pub read : HavePieces piece before
    pub refused : wrong source error

-- the one source has this error, at position 0; or memory was refused
abbrev pub IsRefusalOfOne : {Source Error Told : Type 0} → (Error → Told) → (Source → Told → Type 0)
    → Source → PieceRefusal Error → Type 0
IsRefusalOfOne told wrong source (refusals.Refused position error) = (position ≡ 0)
    × wrong source (told error)
IsRefusalOfOne told wrong source refusals.Memory = Unit {0}

-- the first position whose source has no piece is refused, with its error; or memory was refused
abbrev pub IsRefusalOfPieces : {Source Piece Error Told : Type 0} → (Error → Told)
    → (Source → Piece → Type 0) → (Source → Told → Type 0) → List Source → PieceRefusal Error
    → Type 0
IsRefusalOfPieces told piece wrong sources (refusals.Refused position error) =
    IsFirstWrong piece wrong sources position (told error)
IsRefusalOfPieces told piece wrong sources refusals.Memory = Unit {0}

-- so many sources in front leave the position in the range of a `usize`
abbrev pub FitsShifted : {Error : Type 0} → ℕ → PieceRefusal Error → Type 0
FitsShifted front (refusals.Refused position error) = front + position < 2 ^ 64
FitsShifted front refusals.Memory = Unit {0}

-- the refusal as it is told where so many sources more stand in front of the list
abbrev pub shifted : {Error : Type 0} → ℕ → PieceRefusal Error → PieceRefusal Error
shifted front (refusals.Refused position error) = refusals.Refused (front + position) error
shifted front refusals.Memory = refusals.Memory

-- ---- lists

-- the elements of all lists, one list after the other
abbrev pub in_a_row : {X : Type 0} → List (List X) → List X
in_a_row lists = flat_map (λ list. list) lists

-- the parts, some of them perhaps empty, make up the list
abbrev pub IsCut : {X : Type 0} → List X → List (List X) → Type 0
IsCut list parts = in_a_row parts ≡ list

-- the second list has the same positions as the first, in another order
abbrev pub IsReordering : {X : Type 0} → List X → List X → Type 0
IsReordering list reordered = IsPermutation list reordered
