-- Where something stands, as it prints.
use Rattle.std.specs.Prelude.{ℕ, nat_eq, List, [], ◌++◌, codes, decimal, Option, Some, None, if◌then◌else◌}
use Rattle.std.specs.Cmp.Lexicographic.{pointwise}
use Rattle.std.specs.List.{join_by}
use Rattle.toml_spans.specs.Step.{key_text}
use Rattle.toml_spans.specs.declared.place.Place.{Place}
use Rattle.nextest_config_output.specs.Findings.Escapes.{escaped_text}
use Rattle.nextest_config_output.specs.declared.findings.escapes.Escapes.TheVariants.{InLine}
use Rattle.nextest_config_profiles.specs.declared.report.parts.FaultSource.{FaultSource}
use Rattle.nextest_config_profiles.specs.declared.report.parts.FilePlace.{FilePlace}
use Rattle.nextest_config_profiles.specs.declared.report.parts.Source.{Source}

-- what stands for a file where nextest sets a value itself
abbrev pub own_default : List ℕ
own_default = codes "nextest's default"

-- :LINE; nothing where no place is known
abbrev pub line_mark : Option Place → List ℕ
line_mark (Some place) = codes ":" ++ decimal place.line
line_mark None = []

-- PATH:LINE, with the path escaped as in a line; PATH alone where no place is known
abbrev pub place_text : FilePlace → List ℕ
place_text file = escaped_text InLine file.path.now ++ line_mark file.place

-- PATH:LINE, or that nextest sets a value itself
abbrev pub file_text : Option FilePlace → List ℕ
file_text (Some file) = place_text file
file_text None = own_default

-- [profile.Q]
abbrev pub in_brackets : List ℕ → List ℕ
in_brackets profile = codes "[profile." ++ (key_text profile ++ codes "]")

-- [profile.Q] behind a blank; nothing where it is the profile of this name
abbrev pub profile_mark : List ℕ → List ℕ → List ℕ
profile_mark name profile = if pointwise nat_eq name profile then [] else
    codes " " ++ in_brackets profile

-- where a value stands, for the profile of this name: PATH:LINE [profile.Q]
abbrev pub text_in : List ℕ → List ℕ → Option FilePlace → List ℕ
text_in name profile (Some file) = place_text file ++ profile_mark name profile
text_in name profile None = own_default

-- where a source is, for the profile of this name: PATH:LINE [profile.Q]
abbrev pub source_text : List ℕ → Source → List ℕ
source_text name source = text_in name source.profile.now source.file

-- where the parts of a value stand, for the profile of this name, with commas between
abbrev pub sources_text : List ℕ → List FaultSource → List ℕ
sources_text name sources = join_by (λ part. source_text name part.source) (codes ", ") sources

-- the files of the parts of a value, with their lines and with commas between
abbrev pub files_text : List FaultSource → List ℕ
files_text sources = join_by (λ part. file_text part.source.file) (codes ", ") sources
