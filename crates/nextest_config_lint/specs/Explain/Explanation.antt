-- How an explanation prints.
use Rattle.std.specs.Prelude.{ℕ, List, ◌++◌, codes, flat_map}
use Rattle.std.specs.Str.Lines.{lines}
use Rattle.nextest_config_lint.specs.declared.explain.explanation.ExampleFile.{ExampleFile}
use Rattle.nextest_config_lint.specs.declared.explain.explanation.ExampleFile.TheVariants as file
use Rattle.nextest_config_lint.specs.declared.explain.explanation.Explanation.{Explanation}

-- which file an example is, and how it is read
abbrev pub file_text : ExampleFile → List ℕ
file_text file.Repository = codes ".config/nextest.toml"
file_text file.RepositoryInLatin1 =
    codes ".config/nextest.toml, saved as Latin-1, and mended as UTF-8"
file_text file.RepositoryTableOnly = codes ".config/nextest.toml, with --table-only"
file_text file.RepositoryChecked = codes ".config/nextest.toml, with check --current 0.9.50"
file_text file.Tool = codes "/path/tool.toml of the tool my-tool"

-- a line behind four spaces, with its line feed
abbrev pub indented_line : List ℕ → List ℕ
indented_line line = codes "    " ++ (line ++ codes "\n")

-- a text with its lines indented
unfoldable pub indented_text : List ℕ → List ℕ
indented_text text = flat_map indented_line (lines text)

-- how an explanation prints: what the topic means, then which file the example is, the example, and
-- the example mended
abbrev pub explanation_text : Explanation → List ℕ
explanation_text explanation =
    explanation.meaning.now
    ++ (codes "\n\nExample: " ++ (file_text explanation.file
    ++ (codes "\n\n" ++ (indented_text explanation.example.now
    ++ (codes "\nMended:\n\n" ++ indented_text explanation.mended.now)))))
