-- What is shown of what a list asks.
use Rattle.std.specs.Prelude.{◌≡◌, ℕ, List, [], ◌∷◌, ◌++◌, map, codes, Option, Some, None}
use Rattle.std.proofs.Common.{rules}
use Rattle.semver.specs.Identifiers.{parts_text}
use Rattle.serde_json.specs.Data.{array, Data, member, no_members, null, object, string}
use Rattle.serde_json.specs.View.{items_of}
use Rattle.serde_json.specs.Written.{compact_text}
use Rattle.nextest_config_values.specs.Read.{value_of}
use Rattle.nextest_config.specs.NextestVersion.{place_text, SourcePlace, word_of, Configuration, Kept, Unknown}
use Rattle.nextest_config.specs.declared.nextest_version.experimental.ConfigExperimental.{ConfigExperimental}
use Rattle.nextest_config_report.specs.Lines.{features_text}
use Rattle.nextest_config_report.specs.Names.{names_text}
use Rattle.nextest_config_report.specs.Source.{source_text}
use Rattle.nextest_config_report.specs.declared.show.ShowFormat.{ShowFormat}
use Rattle.nextest_config_report.specs.declared.show.ShowFormat.TheVariants.{Human, Json}
use Rattle.nextest_config_report.specs.declared.source.SourceStyle.TheVariants.{InLine}

-- ---- the words of formats

-- the formats in which what a list asks is shown
abbrev pub formats : List ShowFormat
formats = Human ∷ Json ∷ []

-- the word that names a format
abbrev pub format_word : ShowFormat → List ℕ
format_word Human = codes "human"
format_word Json = codes "json"

pub format_reads_back : (format : ShowFormat)
    → value_of format_word formats (format_word format) ≡ Some format
format_reads_back format = search rules

-- ---- lines, for people

-- the line of a role: the version that is kept and its source, or that there is none
abbrev pub role_line : List ℕ → Option Kept → List ℕ
role_line role (Some kept) =
    role ++ (codes ": " ++ (parts_text kept.version
    ++ (codes " by " ++ (source_text InLine kept.place ++ codes "\n"))))
role_line role None = role ++ codes ": none\n"

-- the line of the names of profiles
abbrev pub profiles_line : List (List ℕ) → List ℕ
profiles_line profiles = codes "profiles: " ++ (names_text profiles ++ codes "\n")

-- what a list asks, for people: the lines of both roles, those of the features, and that of the
-- profiles
abbrev pub show_lines : Configuration → List (List ℕ) → List ℕ
show_lines configuration profiles =
    role_line (codes "required") configuration.roles.required
    ++ (role_line (codes "recommended") configuration.roles.recommended
    ++ (features_text InLine configuration.experimental ++ profiles_line profiles))

-- ---- JSON, for programs

-- an array of JSON, of what stands for each element, in order
abbrev pub array_of : {X : Type 0} → (X → Data) → List X → Data
array_of stands_for xs = array (items_of (map stands_for xs))

-- the text of a source, as it prints
abbrev pub place_data : SourcePlace → Data
place_data place = string (place_text place)

-- the word of a feature, as a text
abbrev pub feature_data : ConfigExperimental → Data
feature_data feature = string (word_of feature)

-- the version that is kept in a role and its source, or null
abbrev pub kept_data : Option Kept → Data
kept_data (Some kept) = object
    (member (codes "source") (place_data kept.place)
    (member (codes "version") (string (parts_text kept.version)) no_members))
kept_data None = null

-- a source that has unknown feature names, and these names
abbrev pub unknown_data : Unknown → Data
unknown_data unknown = object
    (member (codes "features") (array_of string unknown.names)
    (member (codes "source") (place_data unknown.place) no_members))

-- what a list asks, as an object of JSON (RFC 8259): both roles, the known features, the unknown
-- ones by their sources, the sources that name theirs in an array, and the names of the profiles
abbrev pub show_data : Configuration → List (List ℕ) → Data
show_data configuration profiles =
    let experimental = configuration.experimental in object
    (member (codes "deprecated_arrays") (array_of place_data experimental.arrays)
    (member (codes "known") (array_of feature_data experimental.known)
    (member (codes "profiles") (array_of string profiles)
    (member (codes "recommended") (kept_data configuration.roles.recommended)
    (member (codes "required") (kept_data configuration.roles.required)
    (member (codes "unknown") (array_of unknown_data experimental.unknown) no_members))))))

-- what a list asks, as the text of an object of JSON (RFC 8259) on a line of its own
abbrev pub show_json : Configuration → List (List ℕ) → List ℕ
show_json configuration profiles = compact_text (show_data configuration profiles) ++ codes "\n"

-- ---- what is shown

-- what a list asks, as a format shows it
abbrev pub show_text : ShowFormat → Configuration → List (List ℕ) → List ℕ
show_text Human = show_lines
show_text Json = show_json
