use Rattle.std.proofs.Common.{[], map, string_bytes}
use Rattle.std.proofs.lemmas.Map.Iter.{iter_end}
use Rattle.std.specs.Cmp.Lexicographic.{slice_cmp}
use Rattle.std.specs.Map.Iter.{deref}
use Rattle.std.specs.Ordering.{nat_cmp}
use Rattle.nextest_config.proofs.Members.{none_in_order, none_of_none, seen_holds}
use Rattle.nextest_config.proofs.Naming.{all_words, seen_word}
use Rattle.nextest_config.proofs.nextest_version.experimental_deserialize.known_words.Goals as goal

pub loop-feature-init : goal.loop-feature-init
loop-feature-init c = rw c.new-words.ensures.empty (none_in_order (slice_cmp nat_cmp), none_of_none (λ text. Unit {0}))

pub loop-feature-preserved : goal.loop-feature-preserved
loop-feature-preserved c = (
  c.in_ok-add_text.ensures.in_order,
  seen_holds seen_word (λ text. Unit {0}) [] c.loop-feature.yielded c.in-Some.feature (map string_bytes c.loop-feature.words.keys) (map string_bytes c.add_text.new.texts.keys)
      c.as_word.result.now c.loop-feature.invariant.1 c.in_ok-add_text.ensures.added c.as_word.ensures tt,
)

pub returns-clause-words : goal.returns-clause-words
returns-clause-words c =
    let ended = iter_end deref c.args.known.now.keys c.loop-feature.yielded _ _ _ _ c.into_iter-feature-iterator.ensures.into_iter_gives.0 c.loop-feature.yielded_by c.in-None.is c.next.ensures.steps in
    all_words c.args.known.now.keys c.loop-feature.yielded (map string_bytes c.loop-feature.words.keys) ended.0 c.loop-feature.invariant.1
