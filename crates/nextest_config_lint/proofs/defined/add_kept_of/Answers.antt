use Rattle.std.proofs.Common.{ℕ, List, map, string_bytes, subst, ◌∙◌}
use Rattle.std.proofs.lemmas.List.{map-id, map_push}
use Rattle.std.proofs.lemmas.Map.Iter.{iter_end}
use Rattle.std.specs.BTreeMap.{keys}
use Rattle.std.specs.Map.Iter.{deref}
use Rattle.nextest_config_values.specs.Identifier.{IsIdentifier}
use Rattle.nextest_config_lint.specs.Defined.{AddsNames, SomeOf}
use Rattle.nextest_config_lint.proofs.DefinedNames.{adds_next}
use Rattle.nextest_config_lint.proofs.Keys.{all_names}
use Rattle.nextest_config_lint.proofs.defined.add_kept_of.Goals as goal

pub loop-key-preserved : goal.loop-key-preserved
loop-key-preserved c =
    rw (map_push (λ key. string_bytes key.now) c.loop-key.yielded c.in-Some.key)
    (adds_next (λ (key name : List ℕ). IsIdentifier key name) (map (λ key. string_bytes key.now) c.loop-key.yielded) (string_bytes c.in-Some.key.now) _ _ _ c.loop-key.invariant
    (rw c.as_str.ensures.value at c.in_ok-add_kept_key.ensures))

pub returns : goal.returns
returns c =
    let ended = iter_end deref (keys c.args.table.now) c.loop-key.yielded _ _ _ _ (c.into_iter-key-iterator.ensures.into_iter_gives ∙ c.keys-key-items.ensures.rest) c.loop-key.yielded_by c.in-None.is c.next.ensures.steps in
    subst (λ (l : List (List ℕ)). AddsNames (λ name. SomeOf (λ key. IsIdentifier key name) l) (map string_bytes c.args.names.now.keys) (map string_bytes c.loop-key.names.keys))
    (all_names c.args.table.now.entries c.loop-key.yielded (λ name. name) ended.0 ∙ map-id _) c.loop-key.invariant
