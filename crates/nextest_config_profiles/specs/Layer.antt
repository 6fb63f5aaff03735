-- The files of a list, as layers.
use Rattle.std.specs.Prelude.{ℕ, zero, suc, codes, List, ◌∷◌, false, map, Option, None, slice_get}
use Rattle.toml.specs.Data.{Data, get_member, Members}
use Rattle.toml.specs.View.{table_view}
use Rattle.toml_spans.specs.Index.{IsIndexOf, IsSpanOf, ranges_in}
use Rattle.toml_spans.specs.Step.{PathStep}
use Rattle.toml_spans.specs.declared.place.Span.{Span}
use Rattle.nextest_config_lint.specs.File.{range_at}
use Rattle.nextest_config_profiles.specs.Defaults.{default_values}
use Rattle.nextest_config_profiles.specs.Merged.{Layers}
use Rattle.nextest_config_profiles.specs.declared.layer.Layer.{Layer}

-- what a document has for profiles
abbrev pub profiles_at : Members → Option Data
profiles_at = get_member (codes "profile")

-- what each of the files has for profiles
abbrev pub profiles_in : List Layer → Layers
profiles_in layers = map (λ layer. profiles_at (table_view layer.document.now)) layers

-- the layers of a list: what nextest sets itself, and above that the files
-- (nextest's documentation)
abbrev pub all_layers : List Layer → Layers
all_layers layers = profiles_at default_values ∷ profiles_in layers

-- the file of a layer; the first layer is none
abbrev pub file_at : List Layer → ℕ → Option Layer
file_at files zero = None
file_at files (suc position) = slice_get files position

-- the range of a path from the top of a file: that of its value, or without one that of its key
abbrev pub IsSpanAt : Layer → List PathStep → Option Span → Type 0
IsSpanAt file path span = (text : List ℕ) → IsIndexOf text file.index.now
    → IsSpanOf text (range_at false (ranges_in file.index.now) path) span
