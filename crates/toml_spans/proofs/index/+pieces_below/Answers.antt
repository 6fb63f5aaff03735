use Rattle.std.proofs.Common.{◌≡◌, ◌<◌, ◌≤◌, ◌-◌, List, drop, get_or, length, map, take, Option, Some, None, option_and_then, option_map, ap, ◌∙◌, arith}
use Rattle.std.proofs.lemmas.Bool.Decides.{nat_tests}
use Rattle.std.proofs.lemmas.Grind.{common_steps}
use Rattle.toml.specs.Tables.{header}
use Rattle.toml_spans.specs.Entry.{get_branch, pieces_of, table, Tree, tree_below, tree_from}
use Rattle.toml_spans.specs.EntryViews.{branches_of, piece_of, tree_of}
use Rattle.toml_spans.specs.IndexViews.{pieces_from}
use Rattle.toml_spans.specs.Step.{PathStep, step_of}
use Rattle.toml_spans.specs.declared.entry.Entry.{Entry}
use Rattle.toml_spans.specs.declared.index.Pieces.{Pieces as Found}
use Rattle.toml_spans.specs.declared.step.Step.{Step}
use Rattle.toml_spans.proofs.Lookups.{element_at, element_past, entry_get, pushed_at, pushed_else, steps_front}
use Rattle.toml_spans.proofs.Views.{tree_of-Array, tree_of-Inline, tree_of-Table, tree_of-Tables}
use Rattle.toml_spans.proofs.index.+pieces_below.Goals as goal

pub pieces_at_key-returns-in-Some : goal.pieces_at_key-returns-in-Some
pieces_at_key-returns-in-Some c c' =
    let found = entry_get c'.get.result c'.args.key.now c'.args.members.now.entries c'.get.ensures.value in
    let at_key : Some (tree_of c'.in-Some.entry.now) ≡ get_branch c'.args.key.now (branches_of c'.args.members.now) = rw c'.in-Some.is at found in
    rw (← at_key) c'.pieces_below.ensures

pub pieces_at_key-returns-in-None : goal.pieces_at_key-returns-in-None
pieces_at_key-returns-in-None c c' =
    let found = entry_get c'.get.result c'.args.key.now c'.args.members.now.entries c'.get.ensures.value in
    let at_key : None ≡ get_branch c'.args.key.now (branches_of c'.args.members.now) = rw c'.in-None.is at found in
    rw (← at_key)

-- the pieces of what steps lead to, by the first of them
below_first : (steps : List Step) (step d : Step) (entry : Entry) (found : Option Found) {t : Tree} {first : PathStep} → 1 ≤ length steps → step ≡ get_or steps 0 d
    → tree_of entry ≡ t → step_of step ≡ first
    → option_map pieces_from found ≡ option_map pieces_of (option_and_then (tree_below (map step_of (take (length steps - 1) (drop 1 steps)))) (tree_from t first))
    → option_map pieces_from found ≡ option_map pieces_of (tree_below (map step_of steps) (tree_of entry))
below_first steps step d entry found some is seen leads pieces = rw (steps_front steps step d some is, seen, leads) pieces

pub pieces_below-returns-in-Inline-Key : goal.pieces_below-returns-in-Inline-Key
pieces_below-returns-in-Inline-Key c c' =
    below_first c'.args.steps.now _ _ _ _ c'.in-len1-up.len_at_least c'.step-item.is (ap tree_of c'.in-Inline-Key.is-0 ∙ tree_of-Inline _ _ _) (ap step_of c'.in-Inline-Key.is-1) (rw c'.as_str.ensures.value at c'.pieces_at_key.ensures)

pub pieces_below-returns-in-Table-Key : goal.pieces_below-returns-in-Table-Key
pieces_below-returns-in-Table-Key c c' =
    below_first c'.args.steps.now _ _ _ _ c'.in-len1-up.len_at_least c'.step-item.is (ap tree_of c'.in-Table-Key.is-0 ∙ tree_of-Table _ _ _) (ap step_of c'.in-Table-Key.is-1) (rw c'.as_str-in-Table-Key.ensures.value at c'.pieces_at_key-in-Table-Key.ensures)

pub pieces_below-returns-in-Array-Index : goal.pieces_below-returns-in-Array-Index
pieces_below-returns-in-Array-Index c c' =
    below_first c'.args.steps.now _ _ _ _ c'.in-len1-up.len_at_least c'.step-item.is (ap tree_of c'.in-Array-Index.is-0 ∙ tree_of-Array _ _ _) (ap step_of c'.in-Array-Index.is-1) (rw c'.deref.ensures.value at c'.pieces_at_index.ensures)

pub pieces_below-returns-then-index-len : goal.pieces_below-returns-then-index-len
pieces_below-returns-then-index-len c c' =
    let is : c'.in-Tables-Index.index ≡ length c'.in-Tables-Index.done.items = grind (arith, nat_tests, common_steps) in
    let last = pushed_at c'.in-Tables-Index.done.items (table (piece_of c'.in-Tables-Index.last) header (branches_of c'.in-Tables-Index.members)) in
    below_first c'.args.steps.now _ _ _ _ c'.in-len1-up.len_at_least c'.step-item.is (ap tree_of c'.in-Tables-Index.is-0 ∙ tree_of-Tables _ _ _ _) (ap step_of c'.in-Tables-Index.is-1)
    (rw (is, last) c'.pieces_of_table.ensures)

pub pieces_below-returns-else-index-len : goal.pieces_below-returns-else-index-len
pieces_below-returns-else-index-len c c' =
    let before = pushed_else c'.in-Tables-Index.done.items (table (piece_of c'.in-Tables-Index.last) header (branches_of c'.in-Tables-Index.members)) c'.in-Tables-Index.index (λ is. grind (arith, nat_tests, common_steps)) in
    below_first c'.args.steps.now _ _ _ _ c'.in-len1-up.len_at_least c'.step-item.is (ap tree_of c'.in-Tables-Index.is-0 ∙ tree_of-Tables _ _ _ _) (ap step_of c'.in-Tables-Index.is-1)
    (rw before (rw c'.deref-else-index-len.ensures.value at c'.pieces_at_index-else-index-len.ensures))

pub pieces_at_index-returns-then-index-elements : goal.pieces_at_index-returns-then-index-elements
pieces_at_index-returns-then-index-elements c c' =
    let within : c'.args.index < length c'.args.elements.now = grind (arith, nat_tests, common_steps) in
    rw (element_at c'.args.elements.now c'.args.index c'.index-elements-index.result _ within c'.index-elements-index.is) c'.pieces_below.ensures

pub pieces_at_index-returns-else-index-elements : goal.pieces_at_index-returns-else-index-elements
pieces_at_index-returns-else-index-elements c c' =
    let past : length c'.args.elements.now ≤ c'.args.index = grind (arith, nat_tests, common_steps) in
    rw (element_past c'.args.elements.now c'.args.index past)
