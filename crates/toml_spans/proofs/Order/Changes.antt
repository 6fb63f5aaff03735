-- What holds of each tree of a document still holds after a statement.
use Rattle.std.proofs.Common.{◌≡◌, List, [], ◌∷◌, Option, Some, None, refl, subst, rules}
use Rattle.std.specs.List.{AllByRecursion}
use Rattle.toml.specs.Tables.{dotted, header, implicit, Origin}
use Rattle.toml_spans.specs.Entry.{after_key, Branches, get_branch, no_branches, no_trees, Piece, pieces_of, push_tree, table, tables, Tree, Trees}
use Rattle.toml_spans.specs.Key.{Part, Parts}
use Rattle.toml_spans.specs.Table.{along, array_table, at_found, at_part, by_part, Definition, Growth, new_tree, pair, put, redefined, std_table, through}
use Rattle.toml_spans.proofs.Found.{Found, found_map, found_none, found_same, found_some}
use Rattle.toml_spans.proofs.Order.Holds.{holds_before, holds_here, holds_inserted, holds_last, holds_nowhere, holds_of_none, holds_pushed, holds_replaced, holds_tree, holds_under, holds_weaker_in, holds_weaker_among, HoldsBelow, HoldsIn}

-- what held of each tree, and holds once tables whose keys stand at such pieces are passed through, and one at such a piece defines something
pub record IsKept (P Q : Tree → Type 0) (N F : Piece → Type 0) : Type 0 where
  pub weaker : (t : Tree) → P t → Q t
  pub new_table : (k : Piece) (o : Origin) (bs : Branches) → N k → Q (table k o bs)
  pub new_tables : (k : Piece) → F k → Q (tables k no_trees k no_branches)
  pub other_table : (k : Piece) (o p : Origin) (bs cs : Branches) → P (table k o bs) → Q (table k p cs)
  pub other_tables : (k : Piece) (done : Trees) (last : Piece) (bs cs : Branches) → P (tables k done last bs) → Q (tables k done last cs)
  pub one_more : (k l : Piece) (done : Trees) (last : Piece) (bs : Branches) → F k → P (tables l done last bs)
      → Q (tables l (push_tree done (table last header bs)) k no_branches)

-- what holds of each tree without a value of its own
pub valueless_kept : (P : Tree → Type 0) → ((t : Tree) → (pieces_of t).of_value ≡ None → P t) → IsKept P P (λ k. Unit {0}) (λ k. Unit {0})
valueless_kept P always = search rules

-- what holds of a pair's value holds of what is that
pub of_pair : (P : Tree → Type 0) (t u : Tree) → pair t ≡ pair u → P t → P u
of_pair P t u is holds = let e : t ≡ u = cc in subst P e holds

module _ (P Q : Tree → Type 0) (N F : Piece → Type 0) (kept : IsKept P Q N F) where
  -- the change of branches keeps what holds of them
  pub record Keeps (grow : Growth) : Type 0 where
    pub each : (bs : Branches) → HoldsIn P bs → Found (grow bs) (HoldsIn Q)

  -- a new table that is empty
  fresh_table : (k : Piece) (o : Origin) → N k → HoldsBelow Q (table k o no_branches)
  fresh_table k o fresh = holds_tree (table k o no_branches) (kept.new_table k o no_branches fresh) holds_nowhere

  -- so it does in a table that a key passes through
  through_keeps : (by : Origin) (grow : Growth) → Keeps grow → (t : Tree) → HoldsBelow P t → Found (through by grow t) (HoldsBelow Q)
  through_keeps by grow keeps (table k o bs) holds =
      found_same _ (λ p _. found_map (table k p) (keeps.each bs (holds_under (table k o bs) holds))
      (λ new inside. holds_tree (table k p new) (kept.other_table k o p bs new (holds_here holds)) inside))
  through_keeps by grow keeps (tables k done last bs) holds =
      let among = holds_under (tables k done last bs) holds in
      let at_last : HoldsBelow P (table last header bs) = holds_last done (table last header bs) among in
      let before = holds_weaker_among kept.weaker (holds_before done (table last header bs) among) in
      found_same _ (λ p _. found_map (tables k done last) (keeps.each bs (holds_under (table last header bs) at_last))
      (λ new inside.
      let here = kept.other_table last header header bs new (holds_here at_last) in
      holds_tree (tables k done last new) (kept.other_tables k done last bs new (holds_here holds))
      (holds_pushed done (table last header new) before (holds_tree (table last header new) here inside))))
  through_keeps by grow keeps t holds = found_none

  -- the table of a part keeps it
  by_part_keeps : (by : Origin) (part : Part) (grow : Growth) → N part.1 → Keeps grow → (bs : Branches) → HoldsIn P bs
      → (o : Option Tree) → get_branch part.0 bs ≡ o → Found (by_part by part grow bs o) (HoldsIn Q)
  by_part_keeps by part grow fresh keeps bs holds None is =
      found_map _ (keeps.each no_branches holds_nowhere) (λ new inside.
      holds_inserted part.0 (table part.1 by new) bs (holds_weaker_in kept.weaker holds)
      (holds_tree (table part.1 by new) (kept.new_table part.1 by new fresh) inside))
  by_part_keeps by part grow fresh keeps bs holds (Some t) is =
      found_map _ (through_keeps by grow keeps t (holds.each part.0 t is))
      (λ new. holds_replaced part.0 new bs (holds_weaker_in kept.weaker holds))

  -- so does the table at the end of a path
  pub along_keeps : (by : Origin) (path : List Part) (grow : Growth) → AllByRecursion (λ part. N part.1) path → Keeps grow → Keeps (along by path grow)
  unfolding along
  along_keeps by [] grow fresh keeps = keeps
  along_keeps by (part ∷ path) grow fresh keeps = record {
    each = λ bs holds. by_part_keeps by part (along by path grow) fresh.0 (along_keeps by path grow fresh.1 keeps) bs holds _ refl;
  }

  module _ (named : (k : Piece) → F k → N k) where
    -- what is defined holds it, where a value does
    new_holds : (k : Piece) (what : Definition) → F k → ((t : Tree) → what ≡ pair t → HoldsBelow Q (after_key k t)) → HoldsBelow Q (new_tree k what)
    new_holds k (pair t) fresh value = value t refl
    new_holds k std_table fresh value = fresh_table k header (named k fresh)
    new_holds k array_table fresh value = holds_tree (tables k no_trees k no_branches) (kept.new_tables k fresh)
        (holds_pushed no_trees (table k header no_branches) holds_of_none (fresh_table k header (named k fresh)))

    -- and what is defined once more
    redefined_holds : (k : Piece) (what : Definition) → F k → (t : Tree) → HoldsBelow P t → Found (redefined k what t) (HoldsBelow Q)
    redefined_holds k std_table fresh (table l implicit bs) holds =
        found_some _ (holds_tree (table l header bs) (kept.other_table l implicit header bs bs (holds_here holds))
        (holds_weaker_in kept.weaker (holds_under (table l implicit bs) holds)))
    redefined_holds k array_table fresh (tables l done last bs) holds =
        let done_too = push_tree done (table last header bs) in
        found_some _ (holds_tree (tables l done_too k no_branches) (kept.one_more k l done last bs fresh (holds_here holds))
        (holds_pushed done_too (table k header no_branches)
        (holds_weaker_among kept.weaker (holds_under (tables l done last bs) holds)) (fresh_table k header (named k fresh))))
    redefined_holds k what fresh t holds = found_none

    at_found_keeps : (part : Part) (what : Definition) → F part.1 → ((t : Tree) → what ≡ pair t → HoldsBelow Q (after_key part.1 t)) → (bs : Branches) → HoldsIn P bs
        → (o : Option Tree) → get_branch part.0 bs ≡ o → Found (at_found part what bs o) (HoldsIn Q)
    at_found_keeps part what fresh value bs holds None is =
        found_some _ (holds_inserted part.0 (new_tree part.1 what) bs (holds_weaker_in kept.weaker holds) (new_holds part.1 what fresh value))
    at_found_keeps part what fresh value bs holds (Some t) is =
        found_map _ (redefined_holds part.1 what fresh t (holds.each part.0 t is))
        (λ new. holds_replaced part.0 new bs (holds_weaker_in kept.weaker holds))

    -- a definition keeps it
    pub at_part_keeps : (part : Part) (what : Definition) → F part.1 → ((t : Tree) → what ≡ pair t → HoldsBelow Q (after_key part.1 t)) → Keeps (at_part part what)
    unfolding at_part
    at_part_keeps part what fresh value = record { each = λ bs holds. at_found_keeps part what fresh value bs holds _ refl }

    -- so does a pair
    pub put_keeps : (k : Parts) (t : Tree) → AllByRecursion (λ part. N part.1) k.0 → F k.1.1 → HoldsBelow Q (after_key k.1.1 t) → Keeps (put k t)
    put_keeps k t before fresh value =
        along_keeps dotted k.0 (at_part k.1 (pair t)) before (at_part_keeps k.1 (pair t) fresh (λ u is. of_pair (λ w. HoldsBelow Q (after_key k.1.1 w)) t u is value))
