-- Why a source or a list of sources was refused, without where it lies in memory.
use Rattle.std.specs.Prelude.{◌≡◌, ℕ, List, [], ◌++◌, codes, Option, Some, None, option_map}
use Rattle.nextest_config_values.specs.Read.{FaultOrMemory}
use Rattle.nextest_config.specs.NextestVersion.ErrorKind.{Wrong, error_kind_text, wrong_of, wrong_text}
use Rattle.nextest_config.specs.NextestVersion.Source.{SourcePlace, place_of, place_text}
use Rattle.nextest_config.specs.declared.merge.PieceRefusal.{PieceRefusal}
use Rattle.nextest_config.specs.declared.merge.PieceRefusal.TheVariants as pieces
use Rattle.nextest_config.specs.declared.nextest_version.error.ConfigParseError.{ConfigParseError}
use Rattle.nextest_config.specs.declared.nextest_version.error_kind.ConfigParseErrorKind.{ConfigParseErrorKind}
use Rattle.nextest_config.specs.declared.nextest_version.error_kind.ConfigParseErrorKind.TheVariants as kinds

-- what is wrong, and with which source
pub record Refusal : Type 0 where
  pub place : SourcePlace
  pub wrong : Wrong

-- this is wrong with the source of that place
abbrev pub refusal_at : SourcePlace → Wrong → Refusal
refusal_at place wrong = record { place = place; wrong = wrong }

-- what `kind()` tells
abbrev pub kind_of : ConfigParseError → ConfigParseErrorKind
kind_of error = error.kind

-- where the source is that `source()` tells
abbrev pub source_place : ConfigParseError → Option SourcePlace
source_place error = option_map place_of error.source

-- the refusal of a place and what is wrong there, where both are told
abbrev pub told_refusal : Option SourcePlace → Option Wrong → Option Refusal
told_refusal (Some place) wrong = option_map (refusal_at place) wrong
told_refusal None wrong = None

-- the refusal that an error tells: its source, and what is wrong with it, where it tells both
abbrev pub refusal_of : ConfigParseError → Option Refusal
refusal_of error = told_refusal (source_place error) (wrong_of error.kind)

-- the error tells a refusal of which this holds; or memory was refused
abbrev pub RefusesBy : (Refusal → Type 0) → ConfigParseError → Type 0
RefusesBy IsSuch error = FaultOrMemory (refusal_of error) (kind_of error ≡ kinds.Memory) IsSuch

-- the one source is refused so, at position 0; or there was no memory
abbrev pub IsRefusedSo : Refusal → PieceRefusal ConfigParseError → Type 0
IsRefusedSo refusal (pieces.Refused position error) = (position ≡ 0)
    × (refusal_of error ≡ Some refusal)
IsRefusedSo refusal pieces.Memory = Unit {0}

-- the one source, of that place, is refused for this kind of error, at position 0; or there was no
-- memory
abbrev pub IsKindOf : SourcePlace → ConfigParseErrorKind → PieceRefusal ConfigParseError → Type 0
IsKindOf place kind refusal =
    FaultOrMemory (wrong_of kind) (kind ≡ kinds.Memory → refusal ≡ pieces.Memory)
    (λ wrong. IsRefusedSo (refusal_at place wrong) refusal)

-- ---- how they print

-- how a source prints in front of what is wrong with it: its place and `: `, if it is told
abbrev pub source_text : Option SourcePlace → List ℕ
source_text None = []
source_text (Some place) = place_text place ++ codes ": "

-- how a refusal prints
abbrev pub refusal_text : Refusal → List ℕ
refusal_text refusal = source_text (Some refusal.place) ++ wrong_text refusal.wrong

-- how an error prints
abbrev pub error_text : ConfigParseError → List ℕ
error_text error = source_text (source_place error) ++ error_kind_text error.kind
