use Rattle.std.proofs.Common.{◌∷◌, map}
use Rattle.std.specs.Map.Iter.{deref}
use Rattle.nextest_config_elements.proofs.UnknownKeys.{AreKnown}
use Rattle.nextest_config_elements.specs.RetryPolicy.{backoff_key, keys_beside}
use Rattle.nextest_config_elements.proofs.retry_policy.Backoff.check_keys.Given as goal

abbrev pub invariant-loop-key : goal.invariant-loop-key
invariant-loop-key l = AreKnown (backoff_key ∷ keys_beside l.self) (map deref l.yielded)
