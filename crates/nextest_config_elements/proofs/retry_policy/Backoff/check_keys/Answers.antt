use Rattle.std.proofs.Common.{◌≡◌, ◌∙◌, ◌++◌, ◌∷◌, ap, map, string_bytes, subst, sym, true}
use Rattle.std.proofs.lemmas.Map.Iter.{iter_end, rest_more, rest_so_far}
use Rattle.std.specs.BTreeMap.{keys}
use Rattle.std.specs.Map.Iter.{deref}
use Rattle.toml.specs.View.{table_view}
use Rattle.nextest_config_values.proofs.Faults.{refused_as_one}
use Rattle.nextest_config_values.specs.Read.{unknown_key, words_of}
use Rattle.nextest_config_elements.proofs.UnknownKeys.{AreKnown, first_unknown, has_only}
use Rattle.nextest_config_elements.specs.RetryPolicy.{backoff_key, keys_beside, other_keys}
use Rattle.nextest_config_elements.specs.UnknownKeys.{IsOneOf}
use Rattle.nextest_config_elements.proofs.retry_policy.Backoff.check_keys.Goals as goal

pub returns-then-not-has_key-clause-refused : goal.returns-then-not-has_key-clause-refused
returns-then-not-has_key-clause-refused c =
    let known = backoff_key ∷ keys_beside c.args.self in
    let start = c.into_iter-key-iterator.ensures.into_iter_gives ∙ c.keys-key-items.ensures.rest in
    let so_far = rest_so_far deref c.loop-key.yielded _ _ c.loop-key.yielded_by in
    let next = rest_more deref c.loop-key.key-iterator c.next.new.self c.next.result c.in-Some.key c.in-Some.is c.next.ensures.steps in
    let whole = sym start ∙ so_far ∙ ap (λ rest. map deref c.loop-key.yielded ++ rest) next in
    let not_known : ¬ IsOneOf known (string_bytes c.in-Some.key.now) =
    λ one. let has : c.has_key.result ≡ true = c.has_key.ensures.1 (subst (IsOneOf known) (sym c.as_str.ensures.value) one) in cc (has, c.if-not-has_key.true) in
    let first = first_unknown known c.args.table.now.entries (map deref c.loop-key.yielded) c.next.new.self c.in-Some.key.now whole c.keys-key-items.ensures.ordered c.loop-key.invariant not_known in
    let is_named = ap (λ key. unknown_key key (words_of c.keys.result.now)) c.as_str-then-not-has_key.ensures.value ∙ ap (unknown_key (string_bytes c.in-Some.key.now)) c.keys.ensures in
    refused_as_one ((other_keys c.args.self).faults (table_view c.args.table.now)) _ c.unknown_field.result (string_bytes c.in-Some.key.now, first, is_named) c.unknown_field.ensures

pub returns-clause-kept : goal.returns-clause-kept
returns-clause-kept c =
    let ended = iter_end deref (keys c.args.table.now) c.loop-key.yielded _ _ _ _ (c.into_iter-key-iterator.ensures.into_iter_gives ∙ c.keys-key-items.ensures.rest) c.loop-key.yielded_by c.in-None.is c.next.ensures.steps in
    let known = backoff_key ∷ keys_beside c.args.self in
    has_only known c.args.table.now.entries (subst (AreKnown known) ended.0 c.loop-key.invariant)
