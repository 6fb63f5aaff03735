use Rattle.std.proofs.Common.{refl}
use Rattle.nextest_config_lint.proofs.ReadersFaults.{fail_fast_found, features_found, junit_found, leak_timeout_found, retries_found, slow_timeout_found, versions_found}
use Rattle.nextest_config_lint.proofs.laws.law_reader_fault_found.Goals as goal

pub returns : goal.returns
returns c =
    record { versions = λ edition path value none. versions_found edition path value; features = λ edition path value none. features_found edition path value; retries = λ edition path value none. retries_found edition path value; slow_timeout = λ edition path value none. slow_timeout_found edition path value (rw none refl); leak_timeout = λ edition path value none. leak_timeout_found edition path value (rw none refl); fail_fast = λ edition path value none. fail_fast_found edition path value; junit = λ edition path value none. junit_found edition path value }
