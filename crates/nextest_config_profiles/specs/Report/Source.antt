-- Where values stand.
use Rattle.std.specs.Prelude.{◌≡◌, ℕ, List, ◌∷◌, MatchOption, Option, Some, None, option_map, string_bytes}
use Rattle.toml_spans.specs.declared.place.Span.{Span}
use Rattle.nextest_config_profiles.specs.Profile.{file_in, IsSpanIn}
use Rattle.nextest_config_profiles.specs.Said.{Path}
use Rattle.nextest_config_profiles.specs.declared.layer.Layer.{Layer}
use Rattle.nextest_config_profiles.specs.declared.profile.EffectiveProfile.{EffectiveProfile}
use Rattle.nextest_config_profiles.specs.declared.report.parts.FilePlace.{FilePlace}
use Rattle.nextest_config_profiles.specs.declared.report.parts.Source.{Source}

-- the path of the file, and where a range of it begins
pub record IsFilePlace (file : Layer) (span : Option Span) (found : FilePlace) : Type 0 where
  pub path : found.path.now ≡ string_bytes file.source.now.path
  pub place : found.place ≡ option_map (λ span. span.begin) span

-- the file of a layer, and where a range of it begins, if the layer is a file
abbrev pub IsPlaceIn : Option Layer → Option Span → Option FilePlace → Type 0
IsPlaceIn None span found = found ≡ None
IsPlaceIn (Some file) span found = MatchOption found ⊥ (IsFilePlace file span)

-- where a value stands: a profile has it, in the file of a layer, where its index has the path
pub record IsSource (effective : EffectiveProfile) (layer : ℕ) (profile : List ℕ) (keys : Path)
    (source : Source) : Type 0 where
  pub of_profile : source.profile.now ≡ profile
  pub span : Option Span
  pub in_index : IsSpanIn effective layer (profile ∷ keys) span
  pub in_file : IsPlaceIn (file_in effective layer) span source.file
