-- Keys of a text, part by part (TOML 1.1, "Keys"), each part with its piece.
use Rattle.std.specs.Prelude.{ℕ, zero, suc, ◌==◌, if◌then◌else◌, List, [], ◌∷◌, ◌++◌, map, drop, Some, None, option_and_then}
use Rattle.toml_parser.specs.Lexical.{dot, first, Read, skip_ws}
use Rattle.toml_parser.specs.Strings.{Key, recursion_limit, simple_key}
use Rattle.toml_spans.specs.Entry.{Piece, piece}

-- a part of a key, as it reads, and its piece
abbrev pub Part : Type 0
Part = List ℕ × Piece

-- the parts of a key before the last, and the last
abbrev pub Parts : Type 0
Parts = List Part × Part

-- how the parts read
abbrev pub texts_of : List Part → List (List ℕ)
texts_of parts = map (λ part. part.0) parts

-- how a key reads, without the pieces of its parts
abbrev pub key_of : Parts → Key
key_of parts = (texts_of parts.0, parts.1.0)

-- the rest of a key in at most n parts, and the white space after it
unfoldable pub parts_after : ℕ → List Part → List ℕ → Read Parts
parts_after zero path text = None
parts_after (suc n) path text = option_and_then
    (λ read.
    let part : Part = (read.0, piece text read.1) in
    let rest = skip_ws read.1 in
    if first rest == dot then parts_after n (path ++ part ∷ []) (skip_ws (drop 1 rest))
    else Some ((path, part), rest)) (simple_key text)

-- the key that a text begins with, part by part, and the white space after it
abbrev pub parts : List ℕ → Read Parts
parts text = parts_after recursion_limit [] text
