-- The fail limit: its text, and the setting `fail-fast`.
pub mod Limit
pub mod NumberText
pub mod NumberTextLaws
pub mod LimitText
pub mod FailFast
pub use Limit.{fail_fast_limit, IsReached, limit_text, mode_word, styled_limit_text}
pub use NumberText.{IsNumberText, minus, plus, Sign, sign_text, signed_number, unsigned}
pub use NumberTextLaws.{number_from_parts, number_or_none, number_parts, one_number}
pub use LimitText.{bad_count, bad_mode, HasCount, IsAllText, IsBadCount, IsBadMode, IsCountFault, IsCountLimit, IsCountText, IsLimitFault, IsLimitText, IsNoMode, IsNotPositive, IsParted, limit_fault, limit_fault_text, LimitFault, MeansMode, not_positive, RefusesLimit}
pub use FailFast.{fail_fast_expected, fail_fast_fields, fail_fast_reading, fail_fast_table, HasInteger, IsExpected, limit_of, max_fail_expected, max_fail_in, max_fail_key, max_fail_reading, terminate_key, terminate_reading}
