-- A path leads to a tree where it leads to a value, and to the tree of that value.
use Rattle.std.proofs.Common.{◌≡◌, ℕ, zero, suc, true, cond, List, [], ◌∷◌, Option, Some, None, Ordering, is_eq, nat_cmp, option_map, refl, inl, inr, rules}
use Rattle.std.proofs.lemmas.Bool.{cases_Bool}
use Rattle.std.proofs.lemmas.Map.Lookups.{exact_bytes}
use Rattle.std.specs.Cmp.{Equal-is}
use Rattle.std.specs.Cmp.Lexicographic.{slice_cmp}
use Rattle.std.specs.Ordering.{match_ordering}
use Rattle.toml.specs.Data.{array as array_data, Data, get_item, get_member, item, Items, no_items, push_item, same_key, table as table_data}
use Rattle.toml.specs.Tables.{close, close_node, get_node, header, no_nodes, Node, node, Nodes, open_array, open_table, value}
use Rattle.toml_spans.specs.Entry.{array, branch, Branches, elements, get_branch, get_tree, inline, no_branches, no_trees, push_tree, scalar, table, tables, Tree, tree, tree_at, tree_below, tree_from, Trees}
use Rattle.toml_spans.specs.Line.{found_below, found_in, step_from}
use Rattle.toml_spans.specs.Ranges.{last_key_from}
use Rattle.toml_spans.specs.Step.{index, key, PathStep}
use Rattle.toml_spans.proofs.Trees.Alike.{Alike, alike_then, either, neither}
use Rattle.toml_spans.proofs.Trees.Stands.{AreBranches, AreTrees, IsBranch, IsPlain, IsTree, IsTreeOf}

-- ---- keys

-- keys that compare as equal are one
pub one_key : (k l : List ℕ) → same_key k l ≡ true → k ≡ l
one_key k l same = exact_bytes k l ((Equal-is (slice_cmp nat_cmp k l)).0 same)

-- the tree at a key, beside the node there
pub branch_found : (text : List ℕ) (k : List ℕ) (bs : Branches) (ns : Nodes) → AreBranches text bs ns → Alike (IsBranch text k) (get_branch k bs) (get_node k ns)
branch_found text k no_branches no_nodes are = neither refl refl
branch_found text k no_branches (node m x ns) are = absurd are
branch_found text k (branch l t bs) no_nodes are = absurd are
branch_found text k (branch l t bs) (node m x ns) (same, here, keyed, more) =
    rw (← same) (elim (cases_Bool (same_key k l)) [
      | inl is ↦ rw is (either t x refl refl (rw (one_key k l is) (here, keyed)))
      | inr other ↦ rw other (branch_found text k bs ns more)
    ])

-- what a look-up in a map and one by a test find at one key
closed_at : (o : Ordering) (x : Node) (p : Option Node) (d : Option Data) → d ≡ option_map close_node p
    → match_ordering o d (Some (close_node x)) d ≡ option_map close_node (cond (is_eq o) (Some x) p)
closed_at o x p d is = search rules

-- a value at a key is what the node there stands for
pub get_closed : (k : List ℕ) (ns : Nodes) → get_member k (close ns) ≡ option_map close_node (get_node k ns)
get_closed k no_nodes = refl
get_closed k (node l x ns) = closed_at (slice_cmp nat_cmp k l) x (get_node k ns) _ (get_closed k ns)

-- the tree at a key, beside the value there
pub member_found : (text : List ℕ) (k : List ℕ) (bs : Branches) (ns : Nodes) → AreBranches text bs ns → Alike (IsTreeOf text k) (get_branch k bs) (get_member k (close ns))
member_found text k bs ns are =
    rw (get_closed k ns) (elim (branch_found text k bs ns are) [
      | neither none none_too ↦ neither none (rw none_too refl)
      | either t x is is_too holds ↦ either t (close_node x) is (rw is_too refl) (x, refl, holds.0)
    ])

-- ---- elements

-- the tree at an index, beside the item there
item_found : (text k : List ℕ) (i : ℕ) (ts : Trees) (ds : Items) → AreTrees text k ts ds → Alike (IsTreeOf text k) (get_tree i ts) (get_item i ds)
item_found text k i no_trees no_items are = neither refl refl
item_found text k i no_trees (item d ds) are = absurd are
item_found text k i (tree t ts) no_items are = absurd are
item_found text k zero (tree t ts) (item d ds) are = either t d refl refl are.0
item_found text k (suc i) (tree t ts) (item d ds) are = item_found text k i ts ds are.1

-- one tree more
pub trees_pushed : (text k : List ℕ) (ts : Trees) (ds : Items) (t : Tree) (d : Data) → AreTrees text k ts ds → IsTreeOf text k t d → AreTrees text k (push_tree ts t) (push_item ds d)
trees_pushed text k no_trees no_items t d are is = (is, tt)
trees_pushed text k no_trees (item e ds) t d are is = absurd are
trees_pushed text k (tree u ts) no_items t d are is = absurd are
trees_pushed text k (tree u ts) (item e ds) t d are is = (are.0, trees_pushed text k ts ds t d are.1 is)

-- ---- steps

-- a value that is neither an array nor a table has nothing below it
plain_ends : (d : Data) → IsPlain d → (step : PathStep) → step_from d step ≡ None
plain_ends d plain step = search rules

-- one step on
pub step_found : (text k : List ℕ) (t : Tree) (x : Node) → IsTree text k t x → (step : PathStep) → Alike (IsTreeOf text (last_key_from k (step ∷ []))) (tree_from t step) (step_from (close_node x) step)
step_found text k (scalar p v) (value d) is (key l) = neither refl (plain_ends d is.2 (key l))
step_found text k (scalar p v) (value d) is (index i) = neither refl (plain_ends d is.2 (index i))
step_found text k (array p v ts) (value (array_data ds)) is (key l) = neither refl refl
step_found text k (array p v ts) (value (array_data ds)) is (index i) = item_found text k i ts ds is.2
step_found text k (inline p v bs) (value (table_data ms)) is (key l) = rw is.2.1 (member_found text l bs is.2.0 is.2.2)
step_found text k (inline p v bs) (value (table_data ms)) is (index i) = neither refl refl
step_found text k (table p origin bs) (open_table made ns) is (key l) = member_found text l bs ns is.2
step_found text k (table p origin bs) (open_table made ns) is (index i) = neither refl refl
step_found text k (tables p done last bs) (open_array ds ns) is (key l) = neither refl refl
step_found text k (tables p done last bs) (open_array ds ns) is (index i) =
    item_found text k i (elements done last bs) (push_item ds (table_data (close ns)))
    (trees_pushed text k done ds (table last header bs) (table_data (close ns)) is.2 (open_table header ns, refl, (is.1, refl, is.3)))
step_found text k t x is step = absurd is

-- any steps
pub below_found : (text k : List ℕ) (t : Tree) (d : Data) → IsTreeOf text k t d → (path : List PathStep) → Alike (IsTreeOf text (last_key_from k path)) (tree_below path t) (found_below path d)
below_found text k t d is [] = either t d refl refl is
below_found text k t d (x, same, is) (step ∷ path) =
    rw same (alike_then (tree_below path) (found_below path) (step_found text k t x is step)
    (λ u e _ _ holds. rw (after_step k step path) (below_found text (last_key_from k (step ∷ [])) u e holds path)))
  where
    -- one step, and those after it
    after_step : (k : List ℕ) (step : PathStep) (path : List PathStep) → last_key_from k (step ∷ path) ≡ last_key_from (last_key_from k (step ∷ [])) path
    after_step k step path = search rules

-- a path from the keys of a document
pub path_found : (text : List ℕ) (bs : Branches) (ns : Nodes) → AreBranches text bs ns → (path : List PathStep) → Alike (IsTreeOf text (last_key_from [] path)) (tree_at bs path) (found_in (close ns) path)
path_found text bs ns are [] = neither refl refl
path_found text bs ns are (key l ∷ path) =
    alike_then (tree_below path) (found_below path) (member_found text l bs ns are) (λ t d _ _ holds. below_found text l t d holds path)
path_found text bs ns are (index i ∷ path) = neither refl refl
