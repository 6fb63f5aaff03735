-- Configuration sources without where they lie in memory.
use Rattle.std.specs.Prelude.{ℕ, Bool, List, ◌++◌, codes, Option, String, string_bytes, option_map, if◌then◌else◌}
use Rattle.std.specs.declared.alloc.Global.{Global}
use Rattle.nextest_config_values.specs.declared.tool_config.ToolConfigFile.{ToolConfigFile}
use Rattle.nextest_config.specs.declared.nextest_version.edition.Edition.{Edition}
use Rattle.nextest_config.specs.declared.nextest_version.edition.Edition.TheVariants.{ArrayAllowed}
use Rattle.nextest_config.specs.declared.nextest_version.source.ConfigSource.{ConfigSource}
use Rattle.nextest_config.specs.declared.nextest_version.source.ConfigSourceKind.{ConfigSourceKind}
use Rattle.nextest_config.specs.declared.nextest_version.source.ConfigSourceKind.TheVariants.{Tool, ExplicitRepository, DiscoveredRepository}
use Rattle.nextest_config.specs.declared.nextest_version.source.RepositoryText.{RepositoryText}
use Rattle.nextest_config.specs.declared.nextest_version.source.SourceText.{SourceText}
use Rattle.nextest_config.specs.declared.nextest_version.source.ToolText.{ToolText}

-- the place of a source: what kind of source it is, and its path
pub record SourcePlace : Type 0 where
  pub kind : ConfigSourceKind
  pub path : List ℕ

-- what is given: a place and the text that stands there, if any
pub record Given : Type 0 where
  pub place : SourcePlace
  pub contents : Option (List ℕ)

-- a source: a place and the text that stands there, if any, which is read under an edition
pub record Source : Type 0 where
  pub place : SourcePlace
  pub contents : Option (List ℕ)
  pub edition : Edition

-- what is given, read under this edition
abbrev pub under : Edition → Given → Source
under edition given = record { place = given.place; contents = given.contents; edition = edition }

-- where a source is
abbrev pub place_of : ConfigSource → SourcePlace
place_of source = record { kind = source.kind; path = string_bytes source.path }

-- these contents, at the place of this source
abbrev pub given_at : ConfigSource → Option (String Global) → Given
given_at source contents =
    record { place = place_of source; contents = option_map string_bytes contents }

-- a source and its contents
abbrev pub given_of : SourceText → Given
given_of text = given_at text.source text.contents

-- a source and its contents, read under this edition
abbrev pub source_under : Edition → SourceText → Source
source_under edition text = under edition (given_of text)

-- a source and its contents, read under the edition that allows arrays
abbrev pub source_of : SourceText → Source
source_of = source_under ArrayAllowed

-- where a tool's file is
abbrev pub tool_place : ToolConfigFile → SourcePlace
tool_place file = record { kind = Tool file.tool; path = string_bytes file.config_file }

-- where a repository's file is: at this path, which the user named or not
abbrev pub repository_place : Bool → List ℕ → SourcePlace
repository_place explicit path = record {
  kind = if explicit then ExplicitRepository else DiscoveredRepository;
  path = path;
}

-- what is given of a tool's file: its place, and its contents, if any
abbrev pub tool_given : ToolText → Given
tool_given text =
    record { place = tool_place text.file; contents = option_map string_bytes text.contents }

-- what is given of a repository's file: its place, and its contents, if any
abbrev pub repository_given : RepositoryText → Given
repository_given text = record {
  place = repository_place text.explicit (string_bytes text.path);
  contents = option_map string_bytes text.contents;
}

-- how a place prints
abbrev pub place_text : SourcePlace → List ℕ
place_text place = kind_text place.kind place.path
  where
    kind_text : ConfigSourceKind → List ℕ → List ℕ
    kind_text (Tool name) path = codes "tool " ++ (name ++ (codes " (" ++ (path ++ codes ")")))
    kind_text ExplicitRepository path = codes "explicit " ++ path
    kind_text DiscoveredRepository path = codes "repository " ++ path
