-- The words of formats.
use Rattle.std.specs.Prelude.{◌≡◌, ℕ, List, [], ◌∷◌, codes, Some}
use Rattle.std.proofs.Common.{rules}
use Rattle.nextest_config_values.specs.Read.{value_of}
use Rattle.nextest_config_output.specs.declared.findings.format.Format.{Format}
use Rattle.nextest_config_output.specs.declared.findings.format.Format.TheVariants.{Full, Github, Human, Json}

-- all formats of findings, in the order in which their words are listed
abbrev pub formats : List Format
formats = Human ∷ Full ∷ Github ∷ Json ∷ []

-- the word of a format
abbrev pub format_word : Format → List ℕ
format_word Human = codes "human"
format_word Full = codes "full"
format_word Github = codes "github"
format_word Json = codes "json"

-- a word is read back as its format
pub format_reads_back : (format : Format)
    → value_of format_word formats (format_word format) ≡ Some format
format_reads_back format = search rules
