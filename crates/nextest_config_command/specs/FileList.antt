-- What files ask as a list of sources.
use Rattle.std.specs.Prelude.{◌⊎◌, ℕ, List, IsSome, IsUtf8, map, Some}
use Rattle.std.specs.List.{AllByRecursion}
use Rattle.toml.specs.Parse.{parse_document}
use Rattle.nextest_config.specs.NextestVersion.Source.{Given, Source, under}
use Rattle.nextest_config.specs.declared.nextest_version.edition.Edition.{Edition}
use Rattle.nextest_config.specs.NextestVersion.{Configuration, configuration_of, IsFirstRefused, Refusal, SelectsFor, StandsFor}
use Rattle.nextest_config.specs.declared.nextest_version.version_only.VersionOnlyConfig.{VersionOnlyConfig}
use Rattle.nextest_config_command.specs.Files.{File}

-- a file is UTF-8
abbrev pub IsText : File → Type 0
IsText file = IsUtf8 file.contents

-- a file is UTF-8 and a TOML document
abbrev pub IsDocumentFile : File → Type 0
IsDocumentFile file = IsText file × IsSome (parse_document file.contents)

-- each file is UTF-8
abbrev pub AreTexts : List File → Type 0
AreTexts files = AllByRecursion IsText files

-- each file is UTF-8 and a TOML document
abbrev pub AreDocuments : List File → Type 0
AreDocuments files = AllByRecursion IsDocumentFile files

-- the file as a source
abbrev pub given_file : File → Given
given_file file = record { place = file.place; contents = Some file.contents }

-- the files as sources, read under an edition
abbrev pub sources_of_files : Edition → List File → List Source
sources_of_files edition files = map (under edition) (map given_file files)

-- ---- lists of texts

-- one of these sources is refused, and none before it
abbrev pub IsRefusedBy : List Source → Type 0
IsRefusedBy sources = (position : ℕ) × (refusal : Refusal) × IsFirstRefused sources position refusal

-- the configuration stands for the sources, and its verdicts are selected from theirs
abbrev pub StandsAndSelects : List Source → Configuration → Type 0
StandsAndSelects sources configuration = StandsFor sources configuration
    × SelectsFor sources configuration.roles

-- ---- lists of files

-- a file isn't UTF-8; or all files are, and one of them is refused as a source
abbrev pub IsRefusedList : Edition → List File → Type 0
IsRefusedList edition files = ¬ AreTexts files
    ⊎ (AreTexts files × IsRefusedBy (sources_of_files edition files))

-- each file is UTF-8, and this configuration stands for all
abbrev pub IsListedAs : Edition → List File → Configuration → Type 0
IsListedAs edition files configuration = AreTexts files
    × StandsAndSelects (sources_of_files edition files) configuration

-- each file is UTF-8, and what this configuration says stands for all
abbrev pub IsListed : Edition → List File → VersionOnlyConfig → Type 0
IsListed edition files config = IsListedAs edition files (configuration_of config)
