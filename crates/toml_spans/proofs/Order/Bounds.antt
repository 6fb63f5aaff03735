-- The pieces of a key that is read of a text lie between its beginning and the rest.
use Rattle.std.proofs.Common.{ℕ, zero, suc, ◌≤◌, ◌==◌, List, [], ◌∷◌, ◌++◌, length, drop, arith, rules}
use Rattle.std.specs.List.{AllByRecursion}
use Rattle.toml_parser.specs.Lexical.{first, skip_ws}
use Rattle.toml_spans.proofs.Elements.{all_joined, all_weaker}
use Rattle.toml_spans.specs.Document.{header_parts}
use Rattle.toml_spans.specs.Entry.{Piece, piece, pieces_of, Tree}
use Rattle.toml_spans.specs.Key.{Part, Parts, parts, parts_after}
use Rattle.toml_spans.specs.Value.{parts_equals}
use Rattle.toml_spans.proofs.Found.{Found, found_any, found_if, found_map, found_none, found_same, found_some, found_then, found_weaker}
use Rattle.toml_spans.proofs.Trees.Rests.{rest_byte, rest_dropped, rest_on, rest_part, rest_within, rest_ws}
use Rattle.toml.specs.Parse.{after_byte}

-- ---- within

-- a piece lies between two places, which are counted from the end
pub record Within (high low : ℕ) (p : Piece) : Type 0 where
  pub begins : p.0 ≤ high
  pub turns : p.1 ≤ p.0
  pub ends : low ≤ p.1

-- the pieces of a tree do
pub record PiecesWithin (high low : ℕ) (t : Tree) : Type 0 where
  pub of_key : Found (pieces_of t).of_key (Within high low)
  pub of_value : Found (pieces_of t).of_value (Within high low)

-- and so do those of a key
abbrev pub PartsWithin : ℕ → ℕ → Parts → Type 0
PartsWithin high low ps = AllByRecursion (λ part. Within high low part.1) ps.0 × Within high low ps.1.1

-- between places that are further apart
pub within_wider : (high low higher lower : ℕ) → high ≤ higher → lower ≤ low → (p : Piece) → Within high low p → Within higher lower p
within_wider high low higher lower up down p within = record { begins = omega (arith, up, within.begins); turns = within.turns; ends = omega (arith, down, within.ends) }

-- the pieces of a tree do
pub pieces_wider : (high low higher lower : ℕ) → high ≤ higher → lower ≤ low → (t : Tree) → PiecesWithin high low t → PiecesWithin higher lower t
pieces_wider high low higher lower up down t within = search rules

-- and those of a key
pub parts_wider : (high low higher lower : ℕ) → high ≤ higher → lower ≤ low → (ps : Parts) → PartsWithin high low ps → PartsWithin higher lower ps
parts_wider high low higher lower up down ps within = (all_weaker _ _ (λ part. within_wider high low higher lower up down part.1) ps.0 within.0, within_wider high low higher lower up down ps.1.1 within.1)

-- ---- keys

-- the rest of a key
parts_read : (n high : ℕ) (path : List Part) (text : List ℕ) → length text ≤ high → AllByRecursion (λ part. Within high (length text) part.1) path
    → Found (parts_after n path text) (λ r. PartsWithin high (length r.1) r.0 × (length r.1 ≤ length text))
unfolding parts_after
parts_read zero high path text within before = found_none
parts_read (suc n) high path text within before =
    found_same _ (λ read is.
    let part : Part = (read.0, piece text read.1) in
    let rest = skip_ws read.1 in
    let next = skip_ws (drop 1 rest) in
    let shorter : length read.1 ≤ length text = rest_within (rest_part text read.1 read.0 is) in
    let less : length rest ≤ length read.1 = rest_within (rest_ws read.1) in
    let still_less : length next ≤ length rest = rest_within (rest_on (rest_dropped 1 rest) (rest_ws (drop 1 rest))) in
    let here : (low : ℕ) → low ≤ length read.1 → Within high low part.1 =
    λ low down. record { begins = within; turns = shorter; ends = down } in
    let earlier : (low : ℕ) → low ≤ length text → AllByRecursion (λ part. Within high low part.1) path =
    λ low down. all_weaker _ _ (λ part. within_wider high (length text) high low (omega arith) down part.1) path before in
    found_if (first rest == 46)
    (found_weaker (parts_read n high (path ++ part ∷ []) next (omega (arith, within, shorter, less, still_less))
    (all_joined _ path (part ∷ []) (earlier (length next) (omega (arith, shorter, less, still_less))) (here (length next) (omega (arith, less, still_less)), tt)))
    (λ r more. (more.0, omega (arith, more.1, shorter, less, still_less))))
    (found_some ((path, part), rest) ((earlier (length rest) (omega (arith, shorter, less)), here (length rest) less), omega (arith, shorter, less))))

-- a key
key_read : (text : List ℕ) → Found (parts text) (λ r. PartsWithin (length text) (length r.1) r.0 × (length r.1 ≤ length text))
key_read text = parts_read 80 (length text) [] text (omega arith) tt

-- a key and `=`
pub key_equals_read : (text : List ℕ) → Found (parts_equals text) (λ r. PartsWithin (length text) (length r.1) r.0)
unfolding parts_equals
key_equals_read text =
    found_then _ (key_read text) (λ k read. found_map _ (found_any {o = after_byte 61 k.1} (λ rest is. is)) (λ rest is.
    parts_wider (length text) (length k.1) (length text) (length (skip_ws rest)) (omega arith)
    (rest_within (rest_on (rest_byte 61 k.1 rest is) (rest_ws rest))) k.0 read.0))

-- the last part of a header's key
pub header_read : (text : List ℕ) → Found (header_parts text) (λ r. Within (length text) (length r.1) r.0.1.1 × (length r.1 ≤ length text))
unfolding header_parts
header_read text =
    found_then _ (key_read (skip_ws text)) (λ k read. found_map _ (found_any {o = after_byte 93 k.1} (λ rest is. is)) (λ rest is.
    let blank = rest_within (rest_ws text) in
    let shorter = rest_within (rest_byte 93 k.1 rest is) in
    (within_wider (length (skip_ws text)) (length k.1) (length text) (length rest) blank shorter k.0.1.1 read.0.1, omega (arith, shorter, read.1, blank))))
