use Rattle.std.proofs.Common.{map, refl, string_bytes}
use Rattle.std.proofs.lemmas.Map.Iter.{iter_end}
use Rattle.std.specs.Map.Iter.{deref}
use Rattle.nextest_config.specs.NextestVersion.{features_of}
use Rattle.nextest_config.proofs.Members.{none_after, seen_holds}
use Rattle.nextest_config.proofs.Naming.{all_names, seen_key}
use Rattle.nextest_config.proofs.nextest_version.experimental_deserialize.ExperimentalDeserialize.feature_names.Goals as goal

pub loop-name-init : goal.loop-name-init
loop-name-init c = (c.in_ok-names.ensures.in_order, none_after (map string_bytes c.in_ok-names.names.keys))

pub loop-name-preserved : goal.loop-name-preserved
loop-name-preserved c = (
  c.in_ok-add_text.ensures.in_order,
  seen_holds seen_key (λ text. Unit {0}) (map string_bytes c.in_ok-names.names.keys) c.loop-name.yielded c.in-Some.name (map string_bytes c.loop-name.names.keys)
      (map string_bytes c.add_text.new.texts.keys) c.as_str.result.now c.loop-name.invariant.1 c.in_ok-add_text.ensures.added c.as_str.ensures.value tt,
)

pub returns : goal.returns
returns c =
    let unknown = c.args.self.now.unknown.keys in
    let ended = iter_end deref unknown c.loop-name.yielded _ _ _ _ c.into_iter-name-iterator.ensures.into_iter_gives.0 c.loop-name.yielded_by c.in-None.is c.next.ensures.steps in
    all_names (features_of c.args.self.now) (map string_bytes c.in_ok-names.names.keys) (map string_bytes c.loop-name.names.keys) c.loop-name.yielded unknown ended.0 refl c.in_ok-names.ensures.words c.loop-name.invariant.0 c.loop-name.invariant.1
