-- The files of tools and of a repository, as a list of sources.
use Rattle.std.specs.Prelude.{List, [], ◌∷◌, ◌++◌, map, reverse}
use Rattle.nextest_config.specs.NextestVersion.Source.{Given, repository_given, Source, tool_given, under}
use Rattle.nextest_config.specs.declared.nextest_version.edition.Edition.{Edition}
use Rattle.nextest_config.specs.declared.nextest_version.edition.Edition.TheVariants.{ArrayAllowed}
use Rattle.nextest_config.specs.declared.nextest_version.file.File.{File}
use Rattle.nextest_config.specs.declared.nextest_version.file.File.TheVariants as files
use Rattle.nextest_config.specs.declared.nextest_version.source.RepositoryText.{RepositoryText}
use Rattle.nextest_config.specs.declared.nextest_version.source.ToolText.{ToolText}

-- what is given of a tool's file or a repository's
abbrev pub file_given : File → Given
file_given (files.Tool tool) = tool_given tool.now
file_given (files.Repository repository) = repository_given repository.now

-- the files, lowest priority first: the tools' in reverse, and then the repository's
abbrev pub givens_of : RepositoryText → List ToolText → List Given
givens_of repository tools = map tool_given (reverse tools) ++ (repository_given repository ∷ [])

-- the files in this order, read under this edition
abbrev pub sources_under : Edition → RepositoryText → List ToolText → List Source
sources_under edition repository tools = map (under edition) (givens_of repository tools)

-- the files in this order, read under the edition that allows arrays
abbrev pub sources_of : RepositoryText → List ToolText → List Source
sources_of = sources_under ArrayAllowed
