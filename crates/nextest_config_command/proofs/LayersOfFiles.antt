-- Files as layers.
use Rattle.std.proofs.Common.{◌<◌, ◌∙◌, ap, arith, get_or, length, List, [], ◌∷◌, ℕ, zero, suc, Some, sym, subst}
use Rattle.std.specs.List.{AllByRecursion, AllZip}
use Rattle.toml_spans.proofs.Elements.{all_weaker}
use Rattle.nextest_config.specs.NextestVersion.{place_of}
use Rattle.nextest_config.specs.declared.nextest_version.edition.Edition.{Edition}
use Rattle.toml_spans.specs.Index.{IsIndexOf}
use Rattle.nextest_config_profiles.specs.declared.layer.Layer.{Layer}
use Rattle.toml.specs.View.{table_view}
use Rattle.nextest_config_command.specs.FileFindings.{HasNoError}
use Rattle.nextest_config_command.specs.FileList.{AreDocuments, IsDocumentFile}
use Rattle.nextest_config_command.specs.Files.{File}
use Rattle.nextest_config_command.specs.Layers.{AreLayers, IsIndexed, IsLayer, IsLent}
use Rattle.nextest_config_command.specs.declared.layers.IndexedFile.{IndexedFile}
use Rattle.nextest_config_command.proofs.FileLists.{some_there}

-- what holds of all holds of one
pub one_of_all : {X : Type 0} (P : X → Type 0) (xs : List X) (i : ℕ) (other : X) → AllByRecursion P xs → i < length xs → P (get_or xs i other)
one_of_all P [] i other all within = absurd (omega arith)
one_of_all P (x ∷ xs) zero other all within = all.0
one_of_all P (x ∷ xs) (suc i) other all within = one_of_all P xs i other all.1 (omega arith)

-- a layer that is lent of a file with its index is that file
lent_layer : (file : File) (indexed : IndexedFile) (layer : Layer) → IsIndexed file indexed → IsLent indexed layer → IsLayer file layer
lent_layer file indexed layer is lent = record {
  place_is = ap place_of lent.source_is ∙ is.place_is;
  is_text = is.is_text;
  document_is = is.document_is ∙ ap (λ document. Some (table_view document)) (sym lent.document_is);
  index_is = subst (IsIndexOf file.contents) (sym lent.index_is) is.index_is;
}

pub lent_layers : (files : List File) (indexed : List IndexedFile) (layers : List Layer) → AllZip IsIndexed files indexed → AllZip IsLent indexed layers → AreLayers files layers
lent_layers [] [] [] is lent = tt
lent_layers [] [] (layer ∷ layers) is lent = absurd lent
lent_layers [] (one ∷ indexed) layers is lent = absurd is
lent_layers (file ∷ files) [] layers is lent = absurd is
lent_layers (file ∷ files) (one ∷ indexed) [] is lent = absurd lent
lent_layers (file ∷ files) (one ∷ indexed) (layer ∷ layers) is lent =
    (lent_layer file one layer is.0 lent.0, lent_layers files indexed layers is.1 lent.1)

-- files without an error are documents
pub sound_documents : (edition : Edition) (files : List File) → AllByRecursion (HasNoError edition) files → AreDocuments files
sound_documents edition files sound =
    all_weaker (HasNoError edition) IsDocumentFile (λ file passes. (passes.0, some_there _ _ passes.1.1)) files sound
