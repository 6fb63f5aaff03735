use Rattle.std.proofs.Common.{inr, length}
use Rattle.toml.specs.View.{view}
use Rattle.nextest_config_profiles.specs.Said.{barred, said_here}
use Rattle.nextest_config_profiles.proofs.LastSaid.{last_still, new_last}
use Rattle.nextest_config_profiles.proofs.last_value.later.Goals as goal

pub returns-in-Nothing : goal.returns-in-Nothing
returns-in-Nothing c all long last = rw c.in-Nothing.is (last_still all c.args.last last)

pub returns-in-Barred : goal.returns-in-Barred
returns-in-Barred c all long last = rw c.in-Barred.is (inr (length all, new_last all barred))

pub returns-in-Value : goal.returns-in-Value
returns-in-Value c all long last = rw (c.in-Value.is, ← long) (new_last all (said_here (view c.in-Value.value.now)))
