-- How the pieces of a document stand to one another.
use Rattle.std.proofs.Common.{◌≡◌, ℕ, ◌≤◌, List, length, drop, Some, refl, sym, ◌∙◌, inl, inr, arith}
use Rattle.toml_spans.proofs.Elements.{all_always}
use Rattle.toml.proofs.Blanks.{skip_within}
use Rattle.toml.specs.Parse.{after_byte, ends_line}
use Rattle.toml_parser.specs.Lexical.{skip_blank, skip_ws}
use Rattle.toml.specs.Tables.{implicit}
use Rattle.toml_spans.specs.Document.{begin, go_on, header_parts, Statement, statement, statement_line, Walk, walk_on, Walks}
use Rattle.toml_spans.specs.Entry.{after_key, Branches, Piece, Tree}
use Rattle.toml_spans.specs.Key.{Parts}
use Rattle.toml_spans.specs.Table.{along, array_table, at_part, Definition, pair, put, std_table}
use Rattle.toml_spans.specs.Value.{pair_tree, value_tree}
use Rattle.toml_spans.proofs.Order.Bounds.{header_read, key_equals_read, Within, within_wider}
use Rattle.toml_spans.proofs.Found.{Found, found_any, found_if, found_map, found_none, found_same, found_some, found_then}
use Rattle.toml_spans.proofs.Trees.Holding.{pair_value_holds}
use Rattle.toml_spans.proofs.Trees.Rests.{rest_byte, rest_dropped, rest_itself, rest_within}
use Rattle.toml_spans.proofs.Trees.Stands.{IsRest}
use Rattle.toml_spans.proofs.Order.Changes.{along_keeps, at_part_keeps, IsKept, of_pair, put_keeps}
use Rattle.toml_spans.proofs.Order.Holds.{holds_nowhere, HoldsBelow, HoldsIn}
use Rattle.toml_spans.proofs.Order.Settled.{Apart, IsSettled, IsSound, settled_wider, value_lies, ValueBelow, ValueIn}
use Rattle.toml_spans.proofs.Order.Values.{apart_grown, IsOf, nowhere, settled_held, sound_after, sound_kept, value_of_either, values_kept, values_new, values_old}

-- ---- statements

-- headers are no pairs
header_no_pair : (t : Tree) → std_table ≡ pair t → ⊥
header_no_pair t is = cc

brackets_no_pair : (t : Tree) → array_table ≡ pair t → ⊥
brackets_no_pair t is = cc

-- what holds of a pair holds of the statement that it is
module _ (Q : Parts → List ℕ → Tree → Type 0) (s : List ℕ) (reads : Found (pair_tree (value_tree 80) s) (λ p. Q p.0.0 p.1 p.0.1)) where
  statement_pair : Found (statement s) (λ r. (t : Tree) → r.0.1 ≡ pair t → Q r.0.0 r.1 t)
  unfolding statement
  statement_pair =
      found_if _
      (found_same {o = header_parts (drop 2 s)} _ (λ k _. found_map _ (found_any {o = after_byte 93 k.1} (λ rest is. is)) (λ rest _ t is. absurd (brackets_no_pair t is))))
      (found_if _
      (found_map _ (found_any {o = header_parts (drop 1 s)} (λ k is. is)) (λ k _ t is. absurd (header_no_pair t is)))
      (found_map _ reads (λ p holds t is. of_pair (Q p.0.0 p.1) p.0.1 t is holds)))

  -- so it does of one that has its line to itself
  pub line_pair : Found (statement_line s) (λ r. (t : Tree) → r.0.1 ≡ pair t → Q r.0.0 r.1 t)
  unfolding statement_line
  line_pair = found_then _ statement_pair (λ e value. found_if _ (found_some _ value) found_none)

-- the last part of a statement's key, and its value, lie where it was read
pub record ReadsStatement (s : List ℕ) (e : Statement) (rest : List ℕ) : Type 0 where
  pub last : Within (length s) (length rest) e.0.1.1
  pub value : (t : Tree) → e.1 ≡ pair t → IsSettled (length s) (length rest) t
  pub left : length rest ≤ length s

-- a header does after its brackets
header_settled : (n : ℕ) (s : List ℕ) (k : Parts) (what : Definition) (behind rest : List ℕ) → ((t : Tree) → what ≡ pair t → ⊥)
    → Within (length (drop n s)) (length behind) k.1.1 × (length behind ≤ length (drop n s)) → IsRest behind rest → ReadsStatement s (k, what) rest
header_settled n s k what behind rest no_pair read left =
    let after = rest_within left in
    let inside = rest_within (rest_dropped n s) in
    record {
      last = within_wider (length (drop n s)) (length behind) (length s) (length rest) inside after k.1.1 read.0;
      value = λ t is. absurd (no_pair t is);
      left = omega (arith, after, read.1, inside);
    }

statement_settled : (s : List ℕ) → Found (statement s) (λ r. ReadsStatement s r.0 r.1)
unfolding statement
statement_settled s =
    found_if _
    (found_then _ (header_read (drop 2 s)) (λ k read. found_map _ (found_any {o = after_byte 93 k.1} (λ rest is. is))
    (λ rest is. header_settled 2 s k.0 array_table k.1 rest brackets_no_pair read (rest_byte 93 k.1 rest is))))
    (found_if _
    (found_map _ (header_read (drop 1 s)) (λ k read. header_settled 1 s k.0 std_table k.1 k.1 header_no_pair read (rest_itself k.1)))
    (found_map _ (pair_value_holds s _ _ _ (settled_held s) s (rest_itself s)) (λ p reads.
    let key_left = rest_within reads.key_left in
    let value_left = rest_within reads.value.left in
    record {
      last = within_wider (length s) (length reads.at) (length s) (length p.1) (omega arith) value_left p.0.0.1.1
          ((key_equals_read s).each (p.0.0, reads.at) reads.key).1;
      value = λ t is. of_pair (IsSettled (length s) (length p.1)) p.0.1 t is
          (settled_wider (length reads.at) (length p.1) (length s) (length p.1) p.0.1 key_left (omega arith) reads.holds);
      left = omega (arith, key_left, value_left);
    })))

line_settled : (s : List ℕ) (e : Statement) (rest : List ℕ) → statement_line s ≡ Some (e, rest) → ReadsStatement s e rest
unfolding statement_line
line_settled s e rest is = (found_then _ (statement_settled s) (λ r reads. found_if (ends_line (skip_ws r.1)) (found_some r reads) found_none)).each (e, rest) is

-- ---- walks

module _ (P Q : Tree → Type 0) (N F : Piece → Type 0) (kept : IsKept P Q N F) (always : (k : Piece) → N k) where
  header_keeps : (walk : Walk) (k : Parts) (what : Definition) → F k.1.1 → ((t : Tree) → what ≡ pair t → HoldsBelow Q (after_key k.1.1 t)) → HoldsIn P walk.root
      → Found (along implicit k.0 (at_part k.1 what) walk.root) (HoldsIn Q)
  header_keeps walk k what fresh value holds =
      (along_keeps P Q N F kept implicit k.0 (at_part k.1 what) (all_always (λ part. always part.1) k.0)
      (at_part_keeps P Q N F kept (λ l _. always l) k.1 what fresh value)).each walk.root holds

  -- what holds of a walk's trees holds after a statement
  pub walk_on_keeps : (walk : Walk) (k : Parts) (what : Definition) → F k.1.1 → ((t : Tree) → what ≡ pair t → HoldsBelow Q (after_key k.1.1 t)) → HoldsIn P walk.root
      → Found (walk_on walk k what) (λ next. HoldsIn Q next.root)
  walk_on_keeps walk k (pair t) fresh value holds =
      found_map _ ((along_keeps P Q N F kept implicit walk.section (put k t) (all_always (λ part. always part.1) walk.section)
      (put_keeps P Q N F kept (λ l _. always l) k t (all_always (λ part. always part.1) k.0) fresh (value t refl))).each walk.root holds) (λ new on. on)
  walk_on_keeps walk k std_table fresh value holds = found_map _ (header_keeps walk k std_table fresh value holds) (λ new on. on)
  walk_on_keeps walk k array_table fresh value holds = found_map _ (header_keeps walk k array_table fresh value holds) (λ new on. on)

-- all that a walk holds up to this place, counted from the text's end
pub record RootSettled (n : ℕ) (root : Branches) : Type 0 where
  pub sound : HoldsIn (IsSound n) root
  pub ended : (v : Piece) → ValueIn root v → n ≤ v.1
  pub apart : (v w : Piece) → ValueIn root v → ValueIn root w → Apart v w

-- the value is one of what is defined
record ValueOf (what : Definition) (v : Piece) : Type 0 where
  tree : Tree
  is : what ≡ pair tree
  below : ValueBelow tree v

-- two such values are of one tree
values_of_one : (what : Definition) (v w : Piece) → ((t : Tree) → what ≡ pair t → (x y : Piece) → ValueBelow t x → ValueBelow t y → Apart x y) → ValueOf what v → ValueOf what w → Apart v w
values_of_one what v w apart one other =
    let same : pair other.tree ≡ pair one.tree = sym other.is ∙ one.is in
    apart one.tree one.is v w one.below (of_pair (λ t. ValueBelow t w) other.tree one.tree same other.below)

-- a statement that begins after all of a walk
walk_settled : (walk next : Walk) (n : ℕ) (start rest : List ℕ) (s : Statement) → RootSettled n walk.root → ReadsStatement start s rest → length start ≤ n → walk_on walk s.0 s.1 ≡ Some next → RootSettled (length rest) next.root
walk_settled walk next n start rest s root reads later on =
    let a = length start in
    let b = length rest in
    let earlier : b ≤ n = omega (arith, reads.left, later) in
    let New = ValueOf s.1 in
    let sound : Found (walk_on walk s.0 s.1) (λ more. HoldsIn (IsSound b) more.root) =
    walk_on_keeps _ _ _ _ (sound_kept n b earlier) (λ k. tt) walk s.0 s.1 (within_wider (length start) b n b later (omega arith) s.0.1.1 reads.last) (λ t is. sound_after b s.0.1.1 t (reads.value t is).sound) root.sound in
    let of_either : Found (walk_on walk s.0 s.1) (λ more. HoldsIn (IsOf (ValueIn walk.root) New) more.root) =
    walk_on_keeps _ _ _ _ (values_kept (ValueIn walk.root) New) (λ k. tt) walk s.0 s.1 tt
    (λ t is. values_new (ValueIn walk.root) New s.0.1.1 t (λ v below. record { tree = t; is = is; below = below })) (values_old New walk.root) in
    let either = value_of_either (ValueIn walk.root) New next.root (of_either.each next on) in
    record {
      sound = sound.each next on;
      ended = λ v at. elim (either v at) [
        | inl old ↦ omega (arith, root.ended v old, earlier)
        | inr new ↦ (value_lies a b new.tree v (reads.value new.tree new.is).lie new.below).ends
      ];
      apart = apart_grown n a (ValueIn walk.root) New (ValueIn next.root) root.ended root.apart (λ v new. (value_lies a b new.tree v (reads.value new.tree new.is).lie new.below).begins)
          (λ v w. values_of_one s.1 v w (λ t is. (reads.value t is).apart)) later either;
    }

-- all walks
pub walks_settled : (text : List ℕ) (walk : Walk) (rest : List ℕ) → Walks text walk rest → RootSettled (length rest) walk.root
walks_settled text walk rest begin = record { sound = holds_nowhere; ended = λ v at. absurd (nowhere at.path at.value at.leads); apart = λ v w one. absurd (nowhere one.path one.value one.leads) }
walks_settled text walk rest (go_on before next behind after s walks read on) =
    walk_settled before next (length behind) (skip_blank behind) after s (walks_settled text before behind walks) (line_settled (skip_blank behind) s after read) (skip_within behind) on
