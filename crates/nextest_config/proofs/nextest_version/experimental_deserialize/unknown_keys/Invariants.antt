use Rattle.std.proofs.Common.{map, string_bytes}
use Rattle.nextest_config.specs.NextestVersion.{IsUnknown, TextsInOrder}
use Rattle.nextest_config.proofs.Members.{AreThoseOf}
use Rattle.nextest_config.proofs.Naming.{seen_key}
use Rattle.nextest_config.proofs.nextest_version.experimental_deserialize.unknown_keys.Given as goal

abbrev pub invariant-loop-key : goal.invariant-loop-key
invariant-loop-key l = TextsInOrder (map string_bytes l.unknown.keys) × AreThoseOf IsUnknown (map seen_key l.yielded) (map string_bytes l.unknown.keys)
