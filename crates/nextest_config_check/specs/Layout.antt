-- How the input is laid out: blocks, one after the other, each a source line and the contents of
-- that source.
use Rattle.std.specs.Prelude.{◌≡◌, ◌≢◌, ℕ, ◌<◌, ◌==◌, List, [], ◌∷◌, ◌++◌, length, codes, Option, Some, MatchOption, ◌⊎◌, if◌then◌else◌}
use Rattle.std.specs.List.{AllByRecursion}
pub use Rattle.toml_spans.specs.Characters.{carriage_return, line_feed}
use Rattle.nextest_config_values.specs.ToolConfig.{IsToolArgument}
use Rattle.toml_spans.specs.Line.{EndsLine, line_after}
use Rattle.nextest_config.specs.NextestVersion.Source.{Given}
use Rattle.nextest_config.specs.NextestVersion.{SourcePlace, place_of}
use Rattle.nextest_config.specs.declared.nextest_version.source.ConfigSource.{ConfigSource}
use Rattle.nextest_config.specs.declared.nextest_version.source.ConfigSourceKind.{ConfigSourceKind}
use Rattle.nextest_config.specs.declared.nextest_version.source.ConfigSourceKind.TheVariants.{Tool, ExplicitRepository, DiscoveredRepository}
use Rattle.nextest_config_check.specs.declared.layout.LayoutFault.{LayoutFault}
use Rattle.nextest_config_check.specs.declared.layout.LayoutFault.TheVariants as faults

-- what a source line begins with
abbrev pub mark : List ℕ
mark = codes "=== "

-- the byte doesn't end a line
abbrev pub IsInLine : ℕ → Type 0
IsInLine byte = byte ≢ line_feed

-- a line begins after the text: it is empty, or ends in a line feed
abbrev pub IsEmptyOrEndsLine : List ℕ → Type 0
IsEmptyOrEndsLine text = (text ≡ []) ⊎ EndsLine text

-- below its first line, no line of the text begins with the mark
abbrev pub HasNoMarkedLineBelow : List ℕ → Type 0
HasNoMarkedLineBelow text = (front rest : List ℕ) → text ≢ front ++ (line_feed ∷ (mark ++ rest))

-- no line of the text begins with the mark
abbrev pub HasNoMarkedLine : List ℕ → Type 0
HasNoMarkedLine text = (front rest : List ℕ) → text ≡ front ++ (mark ++ rest)
    → ¬ IsEmptyOrEndsLine front

-- the text without one carriage return at its end
abbrev pub trimmed : List ℕ → List ℕ
trimmed [] = []
trimmed (byte ∷ []) = if byte == carriage_return then [] else byte ∷ []
trimmed (byte ∷ next ∷ rest) = byte ∷ trimmed (next ∷ rest)

-- a line that a line feed ends, without its end, and what follows it
pub record IsEndedLine (text line rest : List ℕ) : Type 0 where
  pub bytes : List ℕ
  pub whole : text ≡ bytes ++ (line_feed ∷ rest)
  pub one_line : AllByRecursion IsInLine bytes
  pub line_is : line ≡ trimmed bytes

-- a line that nothing ends
pub record IsLastLine (text line rest : List ℕ) : Type 0 where
  pub one_line : AllByRecursion IsInLine text
  pub line_is : line ≡ text
  pub no_rest : rest ≡ []

-- the first line of the text, without its end, and what follows it
abbrev pub IsFirstLine : List ℕ → List ℕ → List ℕ → Type 0
IsFirstLine text line rest = IsEndedLine text line rest ⊎ IsLastLine text line rest

-- the text is the word and a path, which isn't empty
pub record IsWordAndPath (word text path : List ℕ) : Type 0 where
  pub whole : text ≡ word ++ path
  pub some : 0 < length path

-- the text is the word `tool ` and the argument that hands in the file of this tool at this path
pub record IsWordAndArgument (text tool path : List ℕ) : Type 0 where
  pub argument : List ℕ
  pub whole : text ≡ codes "tool " ++ argument
  pub names : IsToolArgument argument (record { tool = tool; path = path })

-- the text names a source of this kind with this path
abbrev pub NamesKindAndPath : List ℕ → ConfigSourceKind → List ℕ → Type 0
NamesKindAndPath text (Tool name) path = IsWordAndArgument text name path
NamesKindAndPath text ExplicitRepository path = IsWordAndPath (codes "explicit ") text path
NamesKindAndPath text DiscoveredRepository path = IsWordAndPath (codes "repository ") text path

-- a text after the mark names this place
abbrev pub NamesPlace : List ℕ → SourcePlace → Type 0
NamesPlace text place = NamesKindAndPath text place.kind place.path

-- the line is the mark and a text that names this place
pub record IsSourceLine (line : List ℕ) (place : SourcePlace) : Type 0 where
  pub named : List ℕ
  pub whole : line ≡ mark ++ named
  pub names : NamesPlace named place

-- the source is at such a place; or there is no source, and no such place
abbrev pub IsSourceIfAny : (SourcePlace → Type 0) → Option ConfigSource → Type 0
IsSourceIfAny IsSuch source =
    MatchOption source ((place : SourcePlace) → ¬ IsSuch place) (λ source. IsSuch (place_of source))

-- the text is a source line and the contents of that source, in which no line is marked
pub record IsBlock (text : List ℕ) (source : Given) : Type 0 where
  pub line : List ℕ
  pub contents : List ℕ
  pub first : IsFirstLine text line contents
  pub names : IsSourceLine line source.place
  pub unmarked : HasNoMarkedLine contents
  pub holds : source.contents ≡ Some contents

-- the text is a block for each of these sources, each from the beginning of a line
abbrev pub AreBlocks : List Given → List ℕ → Type 0
AreBlocks [] text = text ≡ []
AreBlocks (source ∷ sources) text =
    (block : List ℕ) × (rest : List ℕ) × (text ≡ block ++ rest) × IsBlock block source
    × ((rest ≡ []) ⊎ IsEmptyOrEndsLine block) × AreBlocks sources rest

-- a source line is owed where the rest begins: it begins with the mark, or is the whole input
abbrev pub OwesSourceLine : List ℕ → List ℕ → Type 0
OwesSourceLine front rest = (front ≡ []) ⊎ ((more : List ℕ) × (rest ≡ mark ++ more))

-- the line with this number, counted from 1, is the first that is no source line where one has to
-- be
pub record IsFaultyLine (input : List ℕ) (number : ℕ) : Type 0 where
  pub front : List ℕ
  pub rest : List ℕ
  pub line : List ℕ
  pub more : List ℕ
  pub sources : List Given
  pub whole : input ≡ front ++ rest
  pub some : 0 < length rest
  pub blocks : AreBlocks sources front
  pub ended : IsEmptyOrEndsLine front
  pub owed : OwesSourceLine front rest
  pub first : IsFirstLine rest line more
  pub faulty : (place : SourcePlace) → ¬ IsSourceLine line place
  pub counted : number ≡ line_after front

-- the input is refused for this: a faulty line, or memory ran out
abbrev pub IsFaultyInput : List ℕ → LayoutFault → Type 0
IsFaultyInput input (faults.Line number) = IsFaultyLine input number
IsFaultyInput input faults.Memory = Unit {0}

-- the text is cut before its next marked line, the first line aside, or at its end
pub record IsBlockCut (text block rest : List ℕ) : Type 0 where
  pub whole : text ≡ block ++ rest
  pub some : 0 < length text → 0 < length block
  pub ended : (rest ≡ []) ⊎ (IsEmptyOrEndsLine block × ((more : List ℕ) × (rest ≡ mark ++ more)))
  pub unmarked : HasNoMarkedLineBelow block

-- the first line of the text is no source line
abbrev pub IsFaultyBlock : List ℕ → Type 0
IsFaultyBlock text = (line : List ℕ) × (more : List ℕ) × IsFirstLine text line more
    × ((place : SourcePlace) → ¬ IsSourceLine line place)

-- the input up to the rest is blocks of these sources, and a source line is owed where the rest
-- begins, if it isn't empty
pub record AreSourcesBefore (input : List ℕ) (sources : List Given) (rest : List ℕ) : Type 0 where
  pub front : List ℕ
  pub whole : input ≡ front ++ rest
  pub blocks : AreBlocks sources front
  pub ended : IsEmptyOrEndsLine front ⊎ (rest ≡ [])
  pub owed : OwesSourceLine front rest ⊎ (rest ≡ [])
