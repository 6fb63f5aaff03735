use Rattle.std.proofs.Common.{map, string_bytes}
use Rattle.nextest_config.specs.NextestVersion.{TextsInOrder}
use Rattle.nextest_config.proofs.Members.{AreThoseOf}
use Rattle.nextest_config.proofs.Naming.{seen_word}
use Rattle.nextest_config.proofs.nextest_version.experimental_deserialize.known_words.Given as goal

abbrev pub invariant-loop-feature : goal.invariant-loop-feature
invariant-loop-feature l = TextsInOrder (map string_bytes l.words.keys) × AreThoseOf (λ text. Unit {0}) (map seen_word l.yielded) (map string_bytes l.words.keys)
