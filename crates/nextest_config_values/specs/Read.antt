-- What readings of TOML values mean and say.
pub mod Step
pub mod Fault
pub mod Text
pub mod FromToml
pub mod Plain
pub mod Word
pub mod Field
pub mod Readings
pub use Rattle.toml_spans.specs.Step.{index, key, PathStep, step_of}
pub use Step.{path_along, path_by, path_of}
pub use Fault.{Always, array_form, for_reason, broken_rule, BrokenRule, build_metadata, Cause, cause_of, count_zero, custom, delay_zero, duration_expected, fault_below, fault_here, fault_of, fault_text, fault_with, identifier, IsMemory, IsNameKind, jitter_without_delay, kind_text, max_delay_below_delay, max_delay_zero, mismatch_text, missing, missing_key, no_duration, not_version, path_text, pre_release, Reason, reason_at, reason_of, reason_text, Refuses, RefusesAs, RefusesKind, RefusesOne, required_above_recommended, rule_text, styled_kind_text, styled_rule_text, TellsAs, TellsMemory, read_fault_at, read_fault_view, read_fault_with, ReadFaultView, tool_name, unknown_key, unknown_text, unknown_word, wrong_type, wrong_value}
pub use Text.{backquoted_word, backquoted_words, comma_list, FaultOrMemory, found_text, quoted_texts, text_or_memory, words_of, words_text}
pub use FromToml.{faults_at, IsReading, IsRefusal, Reading, RefusesAt, RefusesBy, WantsMemory}
pub use Plain.{bool_reading, count_reading, in_range, IsCount, IsU32, MeansNumber, number_reading, text_expected, text_reading, u32_reading}
pub use Word.{value_of, with_word, word_reading}
pub use Field.{at_key, optional, or_default, required}
pub use Readings.{after_check, both, broken_by, Check, either, in_memory, inner, inner_at, kind, made_of, meaning, no_data, no_value, NoData, one_that, one_then, only, outside, rule, rule_check, Then, then, wrong_kind}
