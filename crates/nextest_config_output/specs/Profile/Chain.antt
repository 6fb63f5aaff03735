-- The profiles of a chain, as they print.
use Rattle.std.specs.Prelude.{ℕ, List, [], ◌∷◌, ◌++◌, codes, Option, Some, None}
use Rattle.std.specs.List.{join_by}
use Rattle.toml_spans.specs.Step.{key_text}
use Rattle.nextest_config_profiles.specs.declared.report.parts.ChainProfile.{ChainProfile}
use Rattle.nextest_config_profiles.specs.declared.report.parts.Source.{Source}
use Rattle.nextest_config_output.specs.Profile.Source.{file_text}

-- the name of the profile that is asked for, the first of a chain
abbrev pub name_of : List ChainProfile → List ℕ
name_of [] = []
name_of (profile ∷ chain) = profile.name.now

-- (PATH:LINE), where it stands what a profile inherits from; nothing where it stands nowhere
abbrev pub place_mark : Option Source → List ℕ
place_mark (Some source) = codes " (" ++ (file_text source.file ++ codes ")")
place_mark None = []

-- A (PATH:LINE), a profile of the chain and where it stands what it inherits from
abbrev pub profile_text : ChainProfile → List ℕ
profile_text profile = key_text profile.name.now ++ place_mark profile.inherits

-- A (PATH:LINE), B, .., all profiles of the chain
abbrev pub chain_text : List ChainProfile → List ℕ
chain_text chain = join_by profile_text (codes ", ") chain
