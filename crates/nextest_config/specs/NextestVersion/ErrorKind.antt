-- What is wrong with a source, without where it lies in memory.
use Rattle.std.specs.Prelude.{◌≡◌, ℕ, Bool, true, false, List, ◌++◌, Option, Some, None, option_map, map, codes, string_bytes}
use Rattle.nextest_config_values.specs.Read.{fault_text, FaultOrMemory, kind_text, path_text, quoted_texts, read_fault_view, ReadFaultView}
use Rattle.nextest_config_values.specs.declared.read.fault.ReadFault.{ReadFault}
use Rattle.nextest_config.specs.declared.nextest_version.error_kind.ConfigParseErrorKind.{ConfigParseErrorKind}
use Rattle.nextest_config.specs.declared.nextest_version.error_kind.ConfigParseErrorKind.TheVariants as kinds

-- what is wrong with a source: its contents are no TOML document, or a setting is refused, or it is
-- a tool's and names these features
pub data Wrong : Type 0 where
  not_toml : Wrong
  setting : ReadFaultView → Wrong
  tool_features : List (List ℕ) → Wrong

-- what a kind of error says, unless memory was refused
abbrev pub wrong_of : ConfigParseErrorKind → Option Wrong
wrong_of kinds.TomlParseError = Some not_toml
wrong_of (kinds.VersionOnlyDeserializeError fault) = option_map setting (read_fault_view fault)
wrong_of (kinds.ExperimentalFeaturesInToolConfig features) =
    Some (tool_features (map string_bytes features.keys))
wrong_of kinds.Memory = None

-- whether memory was refused
abbrev pub is_memory : ConfigParseErrorKind → Bool
is_memory kinds.TomlParseError = false
is_memory (kinds.VersionOnlyDeserializeError fault) = false
is_memory (kinds.ExperimentalFeaturesInToolConfig features) = false
is_memory kinds.Memory = true

-- the kind tells what is wrong, of which this holds; or memory was refused
abbrev pub RefusesSource : (Wrong → Type 0) → ConfigParseErrorKind → Type 0
RefusesSource IsSuch kind = FaultOrMemory (wrong_of kind) (kind ≡ kinds.Memory) IsSuch

-- the kind is what the refusal of a setting makes of its source: the setting's fault, or that
-- memory was refused
abbrev pub IsSettingKind : ReadFault → ConfigParseErrorKind → Type 0
IsSettingKind refused kind =
    FaultOrMemory (read_fault_view refused) (kind ≡ kinds.Memory)
    (λ told. wrong_of kind ≡ Some (setting told))

-- how what is wrong with a source prints
abbrev pub wrong_text : Wrong → List ℕ
wrong_text not_toml = codes "not a TOML document"
wrong_text (setting told) = fault_text told
wrong_text (tool_features names) = codes "experimental features in a tool configuration: "
    ++ quoted_texts names

-- how a kind of error prints
abbrev pub error_kind_text : ConfigParseErrorKind → List ℕ
error_kind_text (kinds.VersionOnlyDeserializeError fault) = path_text (string_bytes fault.path)
    ++ kind_text fault.kind
error_kind_text kinds.TomlParseError = wrong_text not_toml
error_kind_text (kinds.ExperimentalFeaturesInToolConfig features) =
    wrong_text (tool_features (map string_bytes features.keys))
error_kind_text kinds.Memory = codes "out of memory"
