-- The file of a layer, and what it has for profiles.
use Rattle.std.proofs.Common.{◌≡◌, ◌<◌, ◌≤◌, ◌-◌, ℕ, zero, suc, List, ◌∷◌, Bor, Option, Some, None, arith, ap, get_or, length, option_and_then, option_map, refl, sym}
use Rattle.std.proofs.Math.Dec.{ltb}
use Rattle.std.proofs.lemmas.Bool.Decides.{nat_tests}
use Rattle.std.proofs.lemmas.Option.{slice_get-map, slice_get_past, slice_get_read}
use Rattle.std.specs.List.{slice_get}
use Rattle.std.specs.Option.{IfSome, is_some}
use Rattle.toml.specs.Data.{Data}
use Rattle.toml.specs.declared.value.Value.{Value}
use Rattle.nextest_config_profiles.specs.Layer.{file_at}
use Rattle.nextest_config_profiles.specs.Profile.{layer_at}
use Rattle.nextest_config_profiles.specs.Reach.{lent, lent_files}
use Rattle.nextest_config_profiles.specs.declared.layer.Layer.{Layer}

-- what a look-up by an index finds
pub looked_up : {A : Type 0} (files : List A) (i : ℕ) (found : Option (Bor A)) → is_some found ≡ ltb i (length files) → IfSome found (λ file. file.now ≡ get_or files i file.now)
    → option_map (λ file. file.now) found ≡ slice_get files i
looked_up files i (Some file) some is =
    let within : i < length files = grind (arith, nat_tests) in
    sym (slice_get_read files (length files) i file.now refl within is)
looked_up files i None some is =
    let past : length files ≤ i = grind (arith, nat_tests) in
    sym (slice_get_past files i past)

-- a layer above nextest's own is that of a file
pub file_above : (files : List Layer) (layer : ℕ) → 0 < layer → file_at files layer ≡ slice_get files (layer - 1)
file_above files zero above = absurd (omega (arith, above))
file_above files (suc layer) above = let less : suc layer - 1 ≡ layer = omega arith in rw less refl

-- and so is what it has
pub has_above : (defaults : Option Data) (files : List (Option (Bor Value))) (layer : ℕ) → 0 < layer
    → layer_at (defaults ∷ lent_files files) layer ≡ option_and_then (λ has. has) (option_map lent (slice_get files (layer - 1)))
has_above defaults files zero above = absurd (omega (arith, above))
has_above defaults files (suc layer) above =
    let less : suc layer - 1 ≡ layer = omega arith in
    rw less (ap (option_and_then (λ has. has)) (slice_get-map lent files layer))
