-- An error prints as the refusal that it tells.
use Rattle.std.proofs.Common.{rules, ◌≡◌, ◌++◌, ℕ, List, Option, Some, option_map}
use Rattle.nextest_config_values.specs.Read.{path_text, Reason, reason_text, text_or_memory, read_fault_with}
use Rattle.nextest_config.specs.NextestVersion.{error_kind_text, SourcePlace, setting, wrong_of, error_text, kind_of, Refusal, refusal_at, refusal_of, refusal_text, source_place, source_text, told_refusal}
use Rattle.nextest_config.specs.declared.nextest_version.error.ConfigParseError.{ConfigParseError}
use Rattle.nextest_config.specs.declared.nextest_version.error_kind.ConfigParseErrorKind.{ConfigParseErrorKind}

setting_text : (place : SourcePlace) (path : List ℕ) (reason : Option Reason) (refusal : Refusal) → option_map (refusal_at place) (option_map setting (option_map (read_fault_with path) reason)) ≡ Some refusal
    → source_text (Some place) ++ (path_text path ++ text_or_memory reason_text reason) ≡ refusal_text refusal
setting_text place path reason refusal told = search rules

text_of_kind : (place : SourcePlace) (kind : ConfigParseErrorKind) (refusal : Refusal) → option_map (refusal_at place) (wrong_of kind) ≡ Some refusal → source_text (Some place) ++ error_kind_text kind ≡ refusal_text refusal
text_of_kind place kind refusal told = search (rules, setting_text)

text_by_place : (place : Option SourcePlace) (kind : ConfigParseErrorKind) (refusal : Refusal) → told_refusal place (wrong_of kind) ≡ Some refusal → source_text place ++ error_kind_text kind ≡ refusal_text refusal
text_by_place place kind refusal told = search (rules, text_of_kind)

pub text_of_told : (error : ConfigParseError) (refusal : Refusal) → refusal_of error ≡ Some refusal → error_text error ≡ refusal_text refusal
text_of_told error refusal told = text_by_place (source_place error) (kind_of error) refusal told
