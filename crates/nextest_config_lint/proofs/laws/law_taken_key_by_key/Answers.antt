use Rattle.std.proofs.Common.{refl}
use Rattle.nextest_config_lint.proofs.SettingsRead.{fail_fast_taken, features_taken, junit_taken, leak_timeout_taken, retries_taken, slow_timeout_taken, versions_taken}
use Rattle.nextest_config_lint.proofs.laws.law_taken_key_by_key.Goals as goal

pub returns : goal.returns
returns c =
    record { versions = λ edition path value none. versions_taken edition path value; features = λ edition path value none. features_taken edition path value; retries = λ edition path value none. retries_taken edition path value; slow_timeout = λ edition path value none. slow_timeout_taken edition path value (rw none refl); leak_timeout = λ edition path value none. leak_timeout_taken edition path value (rw none refl); fail_fast = λ edition path value none. fail_fast_taken edition path value; junit = λ edition path value none. junit_taken edition path value }
