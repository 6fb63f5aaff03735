use Rattle.std.proofs.Common.{◌++◌, map, string_bytes}
use Rattle.nextest_config.specs.NextestVersion.{TextsInOrder}
use Rattle.nextest_config.proofs.Members.{AreThoseOf}
use Rattle.nextest_config.proofs.Naming.{seen_key}
use Rattle.nextest_config.proofs.nextest_version.experimental_deserialize.ExperimentalDeserialize.feature_names.Given as goal

-- the words that stood there before and the names so far, in order
abbrev pub invariant-loop-name : goal.invariant-loop-name
invariant-loop-name l = TextsInOrder (map string_bytes l.names.keys) × AreThoseOf (λ text. Unit {0}) (map string_bytes l.initial.names.keys ++ map seen_key l.yielded) (map string_bytes l.names.keys)
