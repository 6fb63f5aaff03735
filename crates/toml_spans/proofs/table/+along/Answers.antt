use Rattle.std.proofs.Common.{rules, ◌≡◌, ◌<◌, ◌≤◌, ◌-◌, ◌∙◌, ℕ, List, drop, get_or, length, take, Option, option_map, String, BTreeMap, Global, MutBor, string_bytes, refl, arith}
use Rattle.std.proofs.lemmas.Bool.Decides.{nat_tests}
use Rattle.std.proofs.lemmas.Grind.{common_steps}
use Rattle.std.specs.BTreeMap.{get_by}
use Rattle.std.specs.Option.{option_copied_mut}
use Rattle.toml.proofs.Turns.{tail_shorter}
use Rattle.toml.specs.Tables.{Origin}
use Rattle.toml_spans.specs.EntryViews.{branches_of, origin_of, tree_of}
use Rattle.toml_spans.specs.KeyViews.{part_of, path_of}
use Rattle.toml_spans.specs.Table.{along, by_part, Growth}
use Rattle.toml_spans.specs.declared.entry.Entry.{Entry}
use Rattle.toml_spans.specs.declared.key.Part.{Part}
use Rattle.toml_spans.proofs.Turns.{along_turn, gives_err, path_front, path_none}
use Rattle.toml_spans.proofs.Views.{at_text, looked_up, tree_of-Table, written_at}
use Rattle.toml_spans.proofs.table.+along.Goals as goal

pub along-returns-in_default : goal.along-returns-in_default
unfolding along
along-returns-in_default c c' = rw (path_none c'.args.path.now c'.in_default.len_below) c'.along_dots.ensures

pub along-through-requires : goal.along-through-requires
along-through-requires c c' = (omega (arith, tail_shorter c'.args.path.now c'.in-len1-up.len_at_least, c'.decreases), tt)

pub along-along-requires : goal.along-along-requires
along-along-requires c c' = (omega (arith, tail_shorter c'.args.path.now c'.in-len1-up.len_at_least, c'.decreases), tt)

-- a path, by what `get_mut` finds at its first part
along_front : (by : Origin) (path : List Part) (part d : Part) (grow : Growth) (m : BTreeMap (String Global) Entry) (r : Option (MutBor Entry)) {s : List ℕ} → 1 ≤ length path
    → part ≡ get_or path 0 d → s ≡ string_bytes part.text → option_copied_mut r ≡ get_by (at_text s) m
    → along by (path_of path) grow (branches_of m)
    ≡ by_part by (part_of part) (along by (path_of (take (length path - 1) (drop 1 path))) grow) (branches_of m) (option_map tree_of (option_copied_mut r))
along_front by path part d grow m r some is text found =
    rw (path_front path part d some is) (along_turn by (part_of part) _ grow (branches_of m) ∙ rw (looked_up _ _ m r text found) refl)

pub along-returns-in_err-slot-in-Some : goal.along-returns-in_err-slot-in-Some
along-returns-in_err-slot-in-Some c c' =
    gives_err _ _ c'.from_residual.ensures.1 λ refused. along_front _ c'.args.path.now c'.part-item.result _ _ c'.args.members.now c'.get_mut.result c'.in-len1-up.len_at_least c'.part-item.is c'.as_str.ensures.value c'.get_mut.ensures.value
    ∙ rw (c'.in-Some.is, rw c'.take-entry.ensures at (c'.in_err-slot-in-Some.ensures refused))

pub along-returns-in_err-along-in-None : goal.along-returns-in_err-along-in-None
along-returns-in_err-along-in-None c c' =
    gives_err _ _ c'.from_residual-in_err-along-in-None.ensures.1 λ refused. along_front _ c'.args.path.now c'.part-item.result _ _ c'.args.members.now c'.get_mut.result c'.in-len1-up.len_at_least c'.part-item.is c'.as_str.ensures.value c'.get_mut.ensures.value
    ∙ rw (c'.in-None.is, rw c'.new-inner.ensures.empty at (c'.in_err-along-in-None.ensures refused))

pub along-returns-in_ok-slot-in-Some : goal.along-returns-in_ok-slot-in-Some
along-returns-in_ok-slot-in-Some c c' =
    let w = c'.in_ok-slot-in-Some.field-0 in
    let written = written_at _ _ c'.args.members.now (c'.get_mut.follows.lender w) w c'.as_str.ensures.value (c'.get_mut.follows.holds w).0 in
    along_front _ c'.args.path.now c'.part-item.result _ _ c'.args.members.now c'.get_mut.result c'.in-len1-up.len_at_least c'.part-item.is c'.as_str.ensures.value c'.get_mut.ensures.value ∙ rw (c'.in-Some.is, rw c'.take-entry.ensures at c'.in_ok-slot-in-Some.ensures, written)

pub along-returns-in_ok-clone-in-None : goal.along-returns-in_ok-clone-in-None
along-returns-in_ok-clone-in-None c c' =
    let inner = rw c'.new-inner.ensures.empty at c'.in_ok-along-in-None.ensures in
    let same : string_bytes c'.in_ok-clone-in-None.field-0 ≡ string_bytes c'.part-item.result.text = grind (arith, common_steps) in
    rw (along_front (origin_of c'.args.by) c'.args.path.now c'.part-item.result _ _ c'.args.members.now c'.get_mut.result c'.in-len1-up.len_at_least c'.part-item.is c'.as_str.ensures.value c'.get_mut.ensures.value, c'.in-None.is, inner)
    (rw (same, tree_of-Table c'.part-item.result.piece c'.args.by c'.along.new.members, c'.get_mut.follows.holds-at-none) at c'.insert.ensures)

pub through-along-requires : goal.through-along-requires
through-along-requires c c' = (omega (arith, c'.decreases), tt)

pub through-along-requires-in-Tables : goal.through-along-requires-in-Tables
through-along-requires-in-Tables c c' = (omega (arith, c'.decreases), tt)

pub along_dots-returns-then-is_empty : goal.along_dots-returns-then-is_empty
unfolding along
along_dots-returns-then-is_empty c c' =
    let none : length c'.args.dots.now < 1 = grind (arith, nat_tests, common_steps) in
    rw (path_none c'.args.dots.now none) c'.at_part.ensures

pub along_dots-returns-else-is_empty : goal.along_dots-returns-else-is_empty
unfolding along
along_dots-returns-else-is_empty c c' = search rules
