-- The setting `global-timeout`: how long a whole run may take, as a duration text.
use Rattle.std.specs.Prelude.{ℕ}
use Rattle.std.specs.Duration.{as_nanos}
use Rattle.nextest_config_elements.specs.declared.global_timeout.GlobalTimeout.{GlobalTimeout}

-- what a timeout says: its period in nanoseconds
abbrev pub global_timeout_of : GlobalTimeout → ℕ
global_timeout_of timeout = as_nanos timeout.period
