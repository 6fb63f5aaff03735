-- What is seen of parts of keys.
use Rattle.std.specs.Prelude.{List, map, string_bytes}
use Rattle.toml_spans.specs.EntryViews.{piece_of}
use Rattle.toml_spans.specs.Key as spec
use Rattle.toml_spans.specs.declared.key.Part.{Part}
use Rattle.toml_spans.specs.declared.key.KeyParts.{KeyParts}

-- what is seen of a part of a key: how it reads, and its piece
abbrev pub part_of : Part → spec.Part
part_of part = (string_bytes part.text, piece_of part.piece)

-- what is seen of the parts of a path, in their order
abbrev pub path_of : List Part → List spec.Part
path_of path = map part_of path

-- what is seen of a key: the parts before the last, and the last
abbrev pub parts_of : KeyParts → spec.Parts
parts_of parts = (path_of parts.path.items, part_of parts.last)
