use Rattle.std.proofs.Common.{◌≡◌, ◌∷◌, ◌++◌, [], ap, map, rules, subst, sym, ◌∙◌}
use Rattle.std.proofs.lemmas.List.{map_push}
use Rattle.std.specs.List.{AllByRecursion}
use Rattle.toml_spans.proofs.Elements.{all_joined}
use Rattle.nextest_config_profiles.specs.Leaves.{IsLeafBelow, IsOfLayers, placed, placed_leaf}
use Rattle.nextest_config_profiles.specs.Reach.{layers_of, words_of}
use Rattle.nextest_config_profiles.specs.declared.leaves.Leaf.{Leaf}
use Rattle.nextest_config_profiles.proofs.leaves.with_layers.Goals as goal

pub layer_of-requires : goal.layer_of-requires
layer_of-requires c =
    let left = c.loop-leaf.invariant.2 in
    (subst (AllByRecursion (λ leaf. IsOfLayers (layers_of c.args.layers) (words_of c.args.path.now) (placed_leaf leaf))) c.in-Some.ensures.steps.0 left).0

pub loop-leaf-preserved : goal.loop-leaf-preserved
loop-leaf-preserved c =
    let P = IsLeafBelow (layers_of c.args.layers) (words_of c.args.path.now) in
    let one : Leaf = record { keys = c.in-Some.leaf.keys; layer = c.in_ok-layer.layer; value = c.in-Some.leaf.value } in
    let pushed : c.push.new.self.items ≡ c.loop-leaf.found.items ++ (one ∷ []) = search rules in
    let left = c.loop-leaf.invariant.2 in (
      subst (AllByRecursion P) (sym pushed) (all_joined P c.loop-leaf.found.items (one ∷ []) c.loop-leaf.invariant.0 (c.in_ok-layer.ensures, tt)),
      ap (map placed) pushed ∙ map_push placed c.loop-leaf.found.items one ∙ ap (λ xs. xs ++ (placed_leaf c.in-Some.leaf ∷ [])) c.loop-leaf.invariant.1
          ∙ sym (map_push placed_leaf c.loop-leaf.yielded c.in-Some.leaf),
      (subst (AllByRecursion (λ leaf. IsOfLayers (layers_of c.args.layers) (words_of c.args.path.now) (placed_leaf leaf))) c.in-Some.ensures.steps.0 left).1,
    )
