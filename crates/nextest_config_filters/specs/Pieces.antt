-- The pieces that texts and regular expressions are made of, up to where they end.
use Rattle.std.specs.Prelude.{◌≡◌, ℕ, ◌==◌, ◌<◌, ◌&&◌, ◌||◌, Bool, false, List, [], ◌∷◌, chars, length, if◌then◌else◌}
use Rattle.toml_spans.specs.Characters.{backslash, slash}
use Rattle.nextest_config_filters.specs.Escape.{is_unknown_escape}
use Rattle.nextest_config_filters.specs.Filter.Predicate.{behind_nots}
use Rattle.nextest_config_filters.specs.Front.{begins, behind_blanks, behind_run, closing, comma, in_run, opening, opening_brace}
use Rattle.nextest_config_filters.specs.declared.pieces.Piece.{Piece}
use Rattle.nextest_config_filters.specs.declared.pieces.Piece.TheVariants as kinds
use Rattle.nextest_config_filters.specs.declared.pieces.TextEnd.{TextEnd}

-- what stands from the end on: a character that ends it, or a backslash that does by what is behind
-- it; any other backslash and the character behind it are one
abbrev pub end_of : (ℕ → Bool) → (ℕ → List ℕ → Bool) → List ℕ → List ℕ
end_of ends ends_by [] = []
end_of ends ends_by (c ∷ []) = if ends c then c ∷ [] else []
end_of ends ends_by (c ∷ d ∷ cs) =
    if c == backslash then (if ends_by d cs then c ∷ d ∷ cs else end_of ends ends_by cs)
    else if ends c then c ∷ d ∷ cs
    else end_of ends ends_by (d ∷ cs)

-- ---- a text

-- it ends at a `)`, a `,`, or a backslash that escapes nothing there
abbrev pub ends_text : ℕ → Bool
ends_text c = c == closing || c == comma

abbrev pub text_end : List ℕ → List ℕ
text_end = end_of ends_text is_unknown_escape

-- before that stands a character of this kind, and not behind a backslash
abbrev pub has_before_end : (ℕ → Bool) → List ℕ → Bool
has_before_end kind [] = false
has_before_end kind (c ∷ []) = if ends_text c then false else kind c
has_before_end kind (c ∷ d ∷ cs) =
    if c == backslash then (if is_unknown_escape d cs then false else has_before_end kind cs)
    else if ends_text c then false
    else kind c || has_before_end kind (d ∷ cs)

abbrev pub is_opening : ℕ → Bool
is_opening c = c == opening

abbrev pub is_brace : ℕ → Bool
is_brace c = c == opening_brace

-- the text ends here
pub record IsEnd (cs : List ℕ) : Type 0 where
  pub ends : text_end cs ≡ cs
  pub nothing : (kind : ℕ → Bool) → has_before_end kind cs ≡ false

-- a piece of the text begins with this character, and the rest stands behind the piece
pub record IsPiece (cs : List ℕ) (c : ℕ) (rest : List ℕ) : Type 0 where
  pub shorter : length rest < length cs
  pub same_end : text_end cs ≡ text_end rest
  pub one_more : (kind : ℕ → Bool) → kind backslash ≡ false
      → has_before_end kind cs ≡ (kind c || has_before_end kind rest)

-- what is met of the end of a text
pub record IsTextEnd (cs : List ℕ) (end : TextEnd) : Type 0 where
  pub rest : chars end.rest.now ≡ text_end cs
  pub has_parenthesis : end.has_parenthesis ≡ has_before_end is_opening cs
  pub has_brace : end.has_brace ≡ has_before_end is_brace cs

-- ---- a regular expression

-- it ends at its second `/`, or at a pair of backslashes before a `/`
abbrev pub ends_regex : ℕ → Bool
ends_regex c = c == slash

abbrev pub is_pair_before_slash : ℕ → List ℕ → Bool
is_pair_before_slash c cs = c == backslash && begins slash cs

abbrev pub regex_end : List ℕ → List ℕ
regex_end = end_of ends_regex is_pair_before_slash

-- ---- pieces of a kind

-- what stands behind all of them at the front
abbrev pub behind_pieces : Piece → List ℕ → List ℕ
behind_pieces (kinds.Of run) = behind_run (in_run run)
behind_pieces kinds.Blank = behind_blanks
behind_pieces kinds.Not = behind_nots
behind_pieces kinds.Regex = regex_end

-- the rest stands behind a piece, and goes on to the same end
pub record IsBehindPiece (end : List ℕ → List ℕ) (cs rest : List ℕ) : Type 0 where
  pub shorter : length rest < length cs
  pub same_end : end cs ≡ end rest
