use Rattle.std.proofs.Common.{◌∙◌, [], map, string_bytes, subst}
use Rattle.std.proofs.lemmas.Map.Iter.{iter_end}
use Rattle.std.specs.BTreeMap.{keys}
use Rattle.std.specs.Cmp.Lexicographic.{slice_cmp}
use Rattle.std.specs.Map.Iter.{deref}
use Rattle.std.specs.Ordering.{nat_cmp}
use Rattle.nextest_config.specs.NextestVersion.{IsUnknown}
use Rattle.nextest_config.proofs.Members.{none_in_order, none_of_none, seen_holds}
use Rattle.nextest_config.proofs.Naming.{all_keys, key_known, seen_key}
use Rattle.nextest_config.proofs.nextest_version.experimental_deserialize.unknown_keys.Goals as goal

pub loop-key-init : goal.loop-key-init
loop-key-init c = rw c.new-unknown.ensures.empty (none_in_order (slice_cmp nat_cmp), none_of_none IsUnknown)

pub loop-key-preserved-in-Ok : goal.loop-key-preserved-in-Ok
loop-key-preserved-in-Ok c =
    (c.loop-key.invariant.0, key_known c.loop-key.yielded c.in-Some.key (map string_bytes c.loop-key.unknown.keys) c.in-Ok.field-0 c.loop-key.invariant.1 (c.in-Ok.ensures.known ∙ c.as_str.ensures.value))

pub loop-key-preserved : goal.loop-key-preserved
loop-key-preserved c = (
  c.in_ok-add_text-in-Err.ensures.in_order,
  seen_holds seen_key IsUnknown [] c.loop-key.yielded c.in-Some.key (map string_bytes c.loop-key.unknown.keys) (map string_bytes c.add_text.new.texts.keys) c.as_str-in-Err.result.now
      c.loop-key.invariant.1 c.in_ok-add_text-in-Err.ensures.added c.as_str-in-Err.ensures.value (subst IsUnknown c.as_str.ensures.value c.in-Err.ensures.refused),
)

pub returns-clause-unknown : goal.returns-clause-unknown
returns-clause-unknown c =
    let ended = iter_end deref (keys c.args.table.now) c.loop-key.yielded _ _ _ _ (c.into_iter-key-iterator.ensures.into_iter_gives ∙ c.keys-key-items.ensures.rest) c.loop-key.yielded_by c.in-None.is c.next.ensures.steps in
    all_keys c.args.table.now.entries c.loop-key.yielded (map string_bytes c.loop-key.unknown.keys) ended.0 c.loop-key.invariant.1
