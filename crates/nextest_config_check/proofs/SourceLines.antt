-- Source lines: one names one place, and what names none.
use Rattle.std.proofs.Common.{◌≡◌, ◌≢◌, ℕ, List, ◌++◌, get_or, codes, Option, Some, None, refl, sym, ap, ap₂, ◌∙◌, arith}
use Rattle.std.proofs.lemmas.List.{append_cancel_left}
use Rattle.nextest_config_values.specs.ToolConfig.{Argument, ArgumentFault, IsArgumentFault, IsToolArgument}
use Rattle.nextest_config_values.specs.Read.{FaultOrMemory}
use Rattle.nextest_config_values.specs.declared.tool_config.ToolConfigFileParseError.{ToolConfigFileParseError}
use Rattle.nextest_config_values.specs.declared.tool_config.ToolConfigFileParseError.TheVariants as errors
use Rattle.nextest_config_values.proofs.Arguments.{argument_not_refused, one_argument}
use Rattle.nextest_config.specs.NextestVersion.{SourcePlace}
use Rattle.nextest_config.specs.declared.nextest_version.source.ConfigSourceKind.{ConfigSourceKind}
use Rattle.nextest_config.specs.declared.nextest_version.source.ConfigSourceKind.TheVariants.{Tool, ExplicitRepository, DiscoveredRepository}
use Rattle.nextest_config_check.specs.Layout.{mark, IsSourceLine, NamesPlace, NamesKindAndPath}

abbrev first_byte : List ℕ → ℕ
first_byte text = get_or text 0 0

source_once : (text : List ℕ) (kind other : ConfigSourceKind) (path another : List ℕ) → NamesKindAndPath text kind path → NamesKindAndPath text other another → (kind ≡ other) × (path ≡ another)
source_once text (Tool tool) (Tool other) path another names others =
    let same = append_cancel_left (codes "tool ") names.argument others.argument (sym names.whole ∙ others.whole) in
    let argument = one_argument others.argument (record { tool = tool; path = path }) (record { tool = other; path = another }) (rw (← same) names.names) others.names in
    (ap (λ (a : Argument). Tool a.tool) argument, ap (λ (a : Argument). a.path) argument)
source_once text ExplicitRepository ExplicitRepository path another names others = (refl, append_cancel_left (codes "explicit ") path another (sym names.whole ∙ others.whole))
source_once text DiscoveredRepository DiscoveredRepository path another names others = (refl, append_cancel_left (codes "repository ") path another (sym names.whole ∙ others.whole))
source_once text kind other path another names others = absurd (omega (arith, ap first_byte (sym names.whole ∙ others.whole)))

pub place_once : (line : List ℕ) (place other : SourcePlace) → IsSourceLine line place → IsSourceLine line other → place ≡ other
place_once line place other names others =
    let behind = append_cancel_left mark names.named others.named (sym names.whole ∙ others.whole) in
    let same = source_once others.named place.kind other.kind place.path other.path (rw (← behind) names.names) others.names in
    let made : ConfigSourceKind → List ℕ → SourcePlace = λ (kind : ConfigSourceKind) (path : List ℕ). record { kind = kind; path = path } in
    ap₂ made same.0 same.1

-- after the word of tools, what is no argument names no source
tool_names_none : (text : List ℕ) → ((argument : Argument) → ¬ IsToolArgument text argument) → (kind : ConfigSourceKind) (path : List ℕ) → ¬ NamesKindAndPath (codes "tool " ++ text) kind path
tool_names_none text none (Tool tool) path names =
    none (record { tool = tool; path = path }) (rw (append_cancel_left (codes "tool ") names.argument text (sym names.whole)) at names.names)
tool_names_none text none ExplicitRepository path names = omega (arith, ap first_byte names.whole)
tool_names_none text none DiscoveredRepository path names = omega (arith, ap first_byte names.whole)

-- nor does a refused one, unless memory was wanted
pub refused_names_none : (text : List ℕ) (error : ToolConfigFileParseError) (told : Option ArgumentFault) → FaultOrMemory told (error ≡ errors.Memory) (IsArgumentFault text) → error ≢ errors.Memory → (place : SourcePlace) → ¬ NamesPlace (codes "tool " ++ text) place
refused_names_none text error (Some fault) faulty some place =
    tool_names_none text (λ argument is_argument. argument_not_refused text argument fault is_argument faulty) place.kind place.path
refused_names_none text error None memory some place = absurd (some memory)
