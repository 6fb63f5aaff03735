-- Files as the layers of which profiles are made.
use Rattle.std.specs.Prelude.{◌≡◌, ℕ, List, IsUtf8, Some}
use Rattle.std.specs.List.{AllZip}
use Rattle.toml.specs.Parse.{parse_document}
use Rattle.toml.specs.View.{table_view}
use Rattle.nextest_config.specs.NextestVersion.{place_of}
use Rattle.toml_spans.specs.Index.{IsIndexOf}
use Rattle.nextest_config_profiles.specs.Layer.{profiles_in}
use Rattle.nextest_config_profiles.specs.NameList.{AreInOrder, AreNamesOf}
use Rattle.nextest_config_profiles.specs.declared.layer.Layer.{Layer}
use Rattle.nextest_config_command.specs.Files.{File}
use Rattle.nextest_config_command.specs.declared.layers.IndexedFile.{IndexedFile}

-- a file as a layer: where it comes from, the document that its text is, and the index of the text
pub record IsLayer (file : File) (layer : Layer) : Type 0 where
  pub place_is : place_of layer.source.now ≡ file.place
  pub is_text : IsUtf8 file.contents
  pub document_is : parse_document file.contents ≡ Some (table_view layer.document.now)
  pub index_is : IsIndexOf file.contents layer.index.now

-- files as layers, in their order
abbrev pub AreLayers : List File → List Layer → Type 0
AreLayers files layers = AllZip IsLayer files layers

-- the names of the profiles that layers have, and of nextest's own, in order
pub record AreProfileNames (layers : List Layer) (names : List (List ℕ)) : Type 0 where
  pub are_names : AreNamesOf (profiles_in layers) names
  pub in_order : AreInOrder names

-- ---- on the way

-- a file with its index: where it comes from, the document that its text is, and its index
pub record IsIndexed (file : File) (indexed : IndexedFile) : Type 0 where
  pub place_is : place_of indexed.source.now ≡ file.place
  pub is_text : IsUtf8 file.contents
  pub document_is : parse_document file.contents ≡ Some (table_view indexed.document.now)
  pub index_is : IsIndexOf file.contents indexed.index

-- the layer is lent of a file with its index
pub record IsLent (indexed : IndexedFile) (layer : Layer) : Type 0 where
  pub source_is : layer.source.now ≡ indexed.source.now
  pub document_is : layer.document.now ≡ indexed.document.now
  pub index_is : layer.index.now ≡ indexed.index
