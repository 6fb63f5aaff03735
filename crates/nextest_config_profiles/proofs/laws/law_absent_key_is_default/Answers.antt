use Rattle.nextest_config_profiles.proofs.DefaultReads.{fail_fast_told, leak_timeout_told, retries_told, slow_timeout_told}
use Rattle.nextest_config_profiles.proofs.laws.law_absent_key_is_default.Goals as goal

pub returns : goal.returns
returns c = record { retries = retries_told; fail_fast = fail_fast_told; slow_timeout = slow_timeout_told; leak_timeout = leak_timeout_told }
