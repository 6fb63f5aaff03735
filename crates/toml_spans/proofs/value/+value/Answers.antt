use Rattle.std.proofs.Common.{◌≡◌, ◌==◌, ◌<◌, ◌||◌, true, false, length, le_refl, ◌∙◌, rules, arith}
use Rattle.std.proofs.lemmas.Grind.{common_steps}
use Rattle.toml_parser.specs.Lexical.{first, skip_blank}
use Rattle.toml_spans.specs.Value.{element_trees, member_trees, value_tree}
use Rattle.toml_spans.proofs.Turns.{elements_turn, gives_err, goes_on, goes_to, goes_wrong, members_turn, value_array, value_deep, value_inline, value_scalar}
use Rattle.toml_spans.proofs.Views.{trees_from-push, tree_of-Array, tree_of-Inline}
use Rattle.toml_spans.proofs.value.+value.Goals as goal

-- ---- the elements of an array, and the members of an inline table

pub elements-elements-init : goal.elements-elements-init
elements-elements-init c c' = (search rules, le_refl _, λ n h. (n, h, rw c'.new-found.ensures.items))

pub members-members-init : goal.members-members-init
members-members-init c c' = (search rules, le_refl _, λ n h. (n, h, rw c'.new-found.ensures.empty))

pub elements-returns-then-first-eq93-clause-value : goal.elements-returns-then-first-eq93-clause-value
elements-returns-then-first-eq93-clause-value c c' =
    let closing : (first (skip_blank c'.elements.rest.now) == 93) ≡ true = grind (arith, common_steps) in
    goes_to (element_trees (value_tree c'.args.depth)) c'.elements.invariant.2 (λ m. elements_turn _ m _ _ ∙ rw (closing, c'.skip.ensures.rest, c'.skip_blank-start.ensures.rest))

pub members-returns-then-first-eq125-clause-value : goal.members-returns-then-first-eq125-clause-value
members-returns-then-first-eq125-clause-value c c' =
    let closing : (first (skip_blank c'.members.rest.now) == 125) ≡ true = grind (arith, common_steps) in
    goes_to (member_trees (value_tree c'.args.depth)) c'.members.invariant.2 (λ m. members_turn _ m _ _ ∙ rw (closing, c'.skip.ensures.rest, c'.skip_blank-start.ensures.rest))

pub elements-elements-preserved : goal.elements-elements-preserved
elements-elements-preserved c c' =
    let other : (first (skip_blank c'.elements.rest.now) == 93) ≡ false = grind (arith, common_steps) in
    let shorter : length c'.in_ok-rest.rest.now < length c'.elements.rest.now =
    omega (arith, c'.in_ok-element.ensures.shorter, c'.in_ok-rest.ensures.within, c'.skip_blank-start.ensures.within) in (
      search rules,
      omega (arith, c'.elements.invariant.1, shorter),
      goes_on (element_trees (value_tree c'.args.depth)) c'.elements.invariant.2 shorter (λ m. elements_turn _ m _ _
          ∙ rw (other, ← c'.skip_blank-start.ensures.rest, c'.in_ok-element.ensures.value, c'.in_ok-rest.ensures.value, c'.in_ok-push.ensures.items, trees_from-push)),
    )

pub members-members-preserved : goal.members-members-preserved
members-members-preserved c c' =
    let other : (first (skip_blank c'.members.rest.now) == 125) ≡ false = grind (arith, common_steps) in
    let shorter : length c'.in_ok-rest.rest.now < length c'.members.rest.now =
    omega (arith, c'.in_ok-key.ensures.shorter, c'.in_ok-rest.ensures.within, c'.skip_blank-start.ensures.within) in (
      search rules,
      omega (arith, c'.members.invariant.1, shorter),
      goes_on (member_trees (value_tree c'.args.depth)) c'.members.invariant.2 shorter (λ m. members_turn _ m _ _
          ∙ rw (other, ← c'.skip_blank-start.ensures.rest, c'.in_ok-key.ensures.value, c'.in_ok-put.ensures, c'.in_ok-rest.ensures.value)),
    )

pub elements-returns-in_err-element-clause-value : goal.elements-returns-in_err-element-clause-value
elements-returns-in_err-element-clause-value c c' =
    goes_wrong (element_trees (value_tree c'.args.depth)) _ _ (first (skip_blank c'.elements.rest.now) == 93) _ _ c'.elements.invariant.2 c'.from_residual.ensures.1 (λ m. elements_turn _ m _ _) (grind (arith, common_steps)) (λ refused m. rw (← c'.skip_blank-start.ensures.rest, c'.in_err-element.ensures.value refused))

pub elements-returns-in_err-rest-clause-value : goal.elements-returns-in_err-rest-clause-value
elements-returns-in_err-rest-clause-value c c' =
    goes_wrong (element_trees (value_tree c'.args.depth)) _ _ (first (skip_blank c'.elements.rest.now) == 93) _ _ c'.elements.invariant.2 c'.from_residual-in_err-rest.ensures.1 (λ m. elements_turn _ m _ _) (grind (arith, common_steps)) (λ refused m. rw (← c'.skip_blank-start.ensures.rest, c'.in_ok-element.ensures.value, c'.in_err-rest.ensures.value refused))

pub members-returns-in_err-key-clause-value : goal.members-returns-in_err-key-clause-value
members-returns-in_err-key-clause-value c c' =
    goes_wrong (member_trees (value_tree c'.args.depth)) _ _ (first (skip_blank c'.members.rest.now) == 125) _ _ c'.members.invariant.2 c'.from_residual.ensures.1 (λ m. members_turn _ m _ _) (grind (arith, common_steps)) (λ refused m. rw (← c'.skip_blank-start.ensures.rest, c'.in_err-key.ensures.value refused))

pub members-returns-in_err-put-clause-value : goal.members-returns-in_err-put-clause-value
members-returns-in_err-put-clause-value c c' =
    goes_wrong (member_trees (value_tree c'.args.depth)) _ _ (first (skip_blank c'.members.rest.now) == 125) _ _ c'.members.invariant.2 c'.from_residual-in_err-put.ensures.1 (λ m. members_turn _ m _ _) (grind (arith, common_steps)) (λ refused m. rw (← c'.skip_blank-start.ensures.rest, c'.in_ok-key.ensures.value, c'.in_err-put.ensures refused))

pub members-returns-in_err-rest-clause-value : goal.members-returns-in_err-rest-clause-value
members-returns-in_err-rest-clause-value c c' =
    goes_wrong (member_trees (value_tree c'.args.depth)) _ _ (first (skip_blank c'.members.rest.now) == 125) _ _ c'.members.invariant.2 c'.from_residual-in_err-rest.ensures.1 (λ m. members_turn _ m _ _) (grind (arith, common_steps)) (λ refused m. rw (← c'.skip_blank-start.ensures.rest, c'.in_ok-key.ensures.value, c'.in_ok-put.ensures, c'.in_err-rest.ensures.value refused))

-- ---- values

pub value-returns-then-byte-ne123-clause-value : goal.value-returns-then-byte-ne123-clause-value
value-returns-then-byte-ne123-clause-value c c' =
    let square : (first c'.args.text.now == 91) ≡ false = grind (arith, common_steps) in
    let brace : (first c'.args.text.now == 123) ≡ false = grind (arith, common_steps) in
    rw (value_scalar c'.args.depth _ square brace) c'.scalar.ensures.value

pub value-returns-then-depth-eq0-clause-value : goal.value-returns-then-depth-eq0-clause-value
value-returns-then-depth-eq0-clause-value c c' refused =
    let bracket : ((first c'.args.text.now == 91) || (first c'.args.text.now == 123)) ≡ true = grind (arith, common_steps) in
    let zero : c'.args.depth ≡ 0 = omega arith in
    rw zero (value_deep _ bracket)

pub value-returns-in_err-elements-clause-value : goal.value-returns-in_err-elements-clause-value
value-returns-in_err-elements-clause-value c c' =
    let square : (first c'.args.text.now == 91) ≡ true = grind (arith, common_steps) in
    gives_err _ _ c'.from_residual.ensures.1 λ refused. value_array c'.args.depth _ (omega arith) square ∙ rw (← c'.skip.ensures.rest, c'.in_err-elements.ensures.value _ c'.skip.ensures.shorter refused)

pub value-returns-in_err-members-clause-value : goal.value-returns-in_err-members-clause-value
value-returns-in_err-members-clause-value c c' =
    let square : (first c'.args.text.now == 91) ≡ false = grind (arith, common_steps) in
    let brace : (first c'.args.text.now == 123) ≡ true = grind (arith, common_steps) in
    gives_err _ _ c'.from_residual-in_err-members.ensures.1 λ refused. value_inline c'.args.depth _ (omega arith) square brace ∙ rw (← c'.skip-else-byte-eq91.ensures.rest, c'.in_err-members.ensures.value _ c'.skip-else-byte-eq91.ensures.shorter refused)

pub value-returns-in_ok-elements-clause-value : goal.value-returns-in_ok-elements-clause-value
value-returns-in_ok-elements-clause-value c c' =
    let square : (first c'.args.text.now == 91) ≡ true = grind (arith, common_steps) in
    value_array c'.args.depth _ (omega arith) square ∙ rw (← c'.skip.ensures.rest, c'.in_ok-elements.ensures.value _ c'.skip.ensures.shorter, tree_of-Array, c'.between-piece.ensures)

pub value-returns-in_ok-members-clause-value : goal.value-returns-in_ok-members-clause-value
value-returns-in_ok-members-clause-value c c' =
    let square : (first c'.args.text.now == 91) ≡ false = grind (arith, common_steps) in
    let brace : (first c'.args.text.now == 123) ≡ true = grind (arith, common_steps) in
    value_inline c'.args.depth _ (omega arith) square brace ∙ rw (← c'.skip-else-byte-eq91.ensures.rest, c'.in_ok-members.ensures.value _ c'.skip-else-byte-eq91.ensures.shorter, tree_of-Inline, c'.between-piece-else-byte-eq91.ensures)
