-- What is seen of pieces that were found.
use Rattle.std.specs.Prelude.{option_map}
use Rattle.toml_spans.specs.Entry as spec
use Rattle.toml_spans.specs.EntryViews.{piece_of}
use Rattle.toml_spans.specs.declared.index.Pieces.{Pieces}

-- what is seen of the pieces of a key and of a value that were found
abbrev pub pieces_from : Pieces → spec.Pieces
pieces_from pieces = record {
  of_key = option_map piece_of pieces.key;
  of_value = option_map piece_of pieces.value;
}
