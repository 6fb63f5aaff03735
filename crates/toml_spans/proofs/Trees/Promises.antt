-- What is promised of the ranges of a document, entry by entry.
use Rattle.std.proofs.Common.{◌≡◌, ℕ, ◌-◌, List, [], ◌∷◌, ◌++◌, length, Option, Some, None, IsSome, option_and_then, option_map, refl, sym, ap, ◌∙◌, inl, inr, ◌⊎◌, arith, length-append, eqb-true, ◌↔◌, rules}
use Rattle.std.proofs.lemmas.Bool.{false≢true}
use Rattle.std.proofs.lemmas.Option.{none-some}
use Rattle.toml_parser.specs.Lexical.{equals, first, skip_ws}
use Rattle.toml.specs.Data.{Data, table as table_data}
use Rattle.toml.specs.Tables.{close, close_node, Node, Nodes, open_table, value}
use Rattle.toml_spans.specs.Entry.{Branches, get_branch, inline, Piece, pieces_of, table, Tree, tree_at, tree_from}
use Rattle.toml_spans.specs.Line.{found_in}
use Rattle.toml_spans.specs.Ranges.{AreWritten, HasEntry, HaveEntries, HaveKeys, IsAt, IsFrom, last_key_from, KeysComeFirst, KeysRead, Range, range_of, Ranges, ranges_of, ValuesRead}
use Rattle.toml_spans.specs.Step.{index, key, PathStep}
use Rattle.toml_spans.proofs.Pieces.{from_last, IsOfPiece, itself, of_key, of_value}
use Rattle.toml_spans.proofs.Trees.Alike.{alike_first, either, neither}
use Rattle.toml_spans.proofs.Trees.Found.{branch_found, path_found}
use Rattle.toml_spans.proofs.Trees.Rests.{begins_byte, place_rest, rest_byte, rest_on, rest_within, rest_ws}
use Rattle.toml_spans.proofs.Trees.Stands.{AreBranches, IsCutOut, IsKeyed, IsTree, IsTreeOf, KeyStands, LeadsTo, NoEquals, ValueStands}

-- ---- trees

-- a tree has a piece
has_piece : (bytes : ℕ) (t : Tree) → IsSome (option_map (range_of bytes) (pieces_of t).of_key) ⊎ IsSome (option_map (range_of bytes) (pieces_of t).of_value)
has_piece bytes t = search rules

-- what follows a key: its value, or no `=`
abbrev FollowedBy : Option Piece → List ℕ → Type 0
FollowedBy None = NoEquals
FollowedBy (Some v) = LeadsTo v

-- the key of any tree stands before its value, or it has none
key_of_tree : (text k : List ℕ) (t : Tree) (x : Node) (p : Piece) → IsTree text k t x → (pieces_of t).of_key ≡ Some p → KeyStands text k p (FollowedBy (pieces_of t).of_value)
key_of_tree text k t x p is has = search rules

-- a value of a tree stands
value_of_tree : (text k : List ℕ) (t : Tree) (x : Node) (v : Piece) → IsTree text k t x → (pieces_of t).of_value ≡ Some v → ValueStands text v (close_node x)
value_of_tree text k t x v is has = search rules

-- what stands at a key has a key
step_keyed : (text k l : List ℕ) (t u : Tree) (x : Node) → IsTree text k t x → tree_from t (key l) ≡ Some u → IsKeyed u
step_keyed text k l (inline q v bs) u (value (table_data ms)) is leads = (alike_first (branch_found text l bs is.2.0 is.2.2) u leads).2.1
step_keyed text k l (table q origin bs) u (open_table made ns) is leads = (alike_first (branch_found text l bs ns is.2) u leads).2.1
step_keyed text k l t u x is leads = search rules

-- ---- ranges

-- what is cut out of a text is what stands in the range of its piece
cut_at : (text : List ℕ) (p : Piece) (front behind : List ℕ) → IsCutOut text p front behind → IsAt text (range_of (length text) p) front
cut_at text p front behind cut =
    let whole : length text ≡ length (cut.from.front ++ (front ++ behind)) = ap length cut.from.cut in
    record {
      before = cut.from.front;
      behind = behind;
      whole = cut.from.cut;
      begins = omega (arith, whole, cut.begins, length-append cut.from.front (front ++ behind));
      ends = omega (arith, whole, cut.ends, length-append cut.from.front (front ++ behind), length-append front behind, length-append cut.from.front front);
    }

-- after a piece of a text there stands one thing
one_after : (text : List ℕ) (p : Piece) (front behind other : List ℕ) → IsCutOut text p front behind → IsFrom text (range_of (length text) p).1 other → other ≡ behind
one_after text p front behind other cut is =
    place_rest text behind other (length text - p.1) (rest_on cut.from (record { front = front; cut = refl })) (ap (λ n. length text - n) cut.ends) is

-- a mapped option
mapped_some : {A B : Type 0} (f : A → B) (o : Option A) → IsSome o → IsSome (option_map f o)
mapped_some f o some = search rules

module _ (text : List ℕ) (bs : Branches) (ns : Nodes) (are : AreBranches text bs ns) where
  -- the ranges of what stands there
  abbrev ranges : Ranges
  ranges = ranges_of (length text) bs

  -- an entry is of a tree
  entry_leads : (path : List PathStep) → HasEntry ranges path → (t : Tree) × (tree_at bs path ≡ Some t)
  entry_leads path entry = go (tree_at bs path) entry
    where
      -- by whether there is one
      go : (o : Option Tree) → IsSome (option_and_then (λ t. option_map (range_of (length text)) (pieces_of t).of_key) o) ⊎ IsSome (option_and_then (λ t. option_map (range_of (length text)) (pieces_of t).of_value) o)
          → (t : Tree) × (o ≡ Some t)
      go None (inl some) = absurd (false≢true some)
      go None (inr some) = absurd (false≢true some)
      go (Some t) some = (t, refl)

  -- a path that leads to a value has an entry, and no other one has
  pub entries : HaveEntries (close ns) ranges
  entries path = elim (path_found text bs ns are path) [
    | neither none none_too ↦ (λ entry. let (t, leads) = entry_leads path entry in absurd (none-some t (sym none ∙ leads)), λ some. absurd (false≢true (rw none_too at some)))
    | either t d leads found holds ↦ (λ _. rw found refl, λ _. rw leads (has_piece (length text) t))
  ]

  -- what a path leads to stands there
  stands_there : (path : List PathStep) (t : Tree) → tree_at bs path ≡ Some t → (d : Data) × (found_in (close ns) path ≡ Some d) × IsTreeOf text (last_key_from [] path) t d
  stands_there path t leads = alike_first (path_found text bs ns are path) t leads

  -- what a path leads to that ends in a key has a key
  path_keyed : (path : List PathStep) (l : List ℕ) (u : Tree) → tree_at bs (path ++ (key l ∷ [])) ≡ Some u → IsKeyed u
  path_keyed [] l u leads = (alike_first (branch_found text l bs ns are) u (sym (itself (get_branch l bs)) ∙ leads)).2.1
  path_keyed (key m ∷ path) l u leads =
      let last = from_last bs m path (key l) u leads in
      let stands = (stands_there (key m ∷ path) last.before last.leads).2 in
      step_keyed text _ l last.before u stands.0 stands.2 last.from
  path_keyed (index i ∷ path) l u leads = absurd (none-some u leads)

  -- a key with a range does
  record OfKey (path : List PathStep) (range : Range) : Type 0 where
    of : IsOfPiece (length text) bs (λ p. p.of_key) path range
    stands : KeyStands text (last_key_from [] path) of.spot (FollowedBy (pieces_of of.tree).of_value)

  key_at : (path : List PathStep) (range : Range) → ranges.of_key path ≡ Some range → OfKey path range
  key_at path range is =
      let it = of_key (length text) bs path range is in
      let (d, found, holds) = stands_there path it.tree it.leads in
      record { of = it; stands = key_of_tree text (last_key_from [] path) it.tree holds.0 it.spot holds.2 it.has }

  -- of two ranges of one path
  value_too : (path : List PathStep) (of_k of_v : Range) (it : OfKey path of_k) (that : IsOfPiece (length text) bs (λ p. p.of_value) path of_v) → (pieces_of it.of.tree).of_value ≡ Some that.spot
  value_too path of_k of_v it that = search rules

  -- keys read
  pub keys : KeysRead text ranges
  keys path range is =
      let it = key_at path range is in
      (it.stands.front, (rw it.of.same at (cut_at text it.of.spot it.stands.front it.stands.behind it.stands.at)), it.stands.reads)

  -- values read
  pub values : ValuesRead text (close ns) ranges
  values path range is =
      let it = of_value (length text) bs path range is in
      let (d, found, holds) = stands_there path it.tree it.leads in
      let stands = value_of_tree text (last_key_from [] path) it.tree holds.0 it.spot holds.2 it.has in
      (stands.front, d, (rw it.same at (cut_at text it.spot stands.front stands.behind stands.at)), stands.reads ∙ ap Some (sym holds.1), found)

  -- a path that ends in a key has the range of that
  pub ends_in_keys : HaveKeys ranges
  ends_in_keys path l entry =
      let (u, leads) = entry_leads (path ++ (key l ∷ [])) entry in
      rw leads (mapped_some (range_of (length text)) (pieces_of u).of_key (path_keyed path l u leads))

  -- keys come first
  pub first_keys : KeysComeFirst ranges
  first_keys path of_k of_v is_key is_value =
      let it = key_at path of_k is_key in
      let that = of_value (length text) bs path of_v is_value in
      let after : LeadsTo that.spot it.stands.behind = rw (value_too path of_k of_v it that) at it.stands.follows in
      let behind = it.stands.behind in
      let within = rest_within (rest_on (rest_on (rest_ws behind) (rest_byte equals (skip_ws behind) after.rest after.sign)) (rest_ws after.rest)) in
      rw (← it.of.same, ← that.same) (omega (arith, within, after.begins, it.stands.at.ends))

  -- where `=` follows there is a value, and where none does there is none
  signed : (v : Option Piece) (behind : List ℕ) → FollowedBy v behind → (first (skip_ws behind) ≡ equals) ↔ IsSome (option_map (range_of (length text)) v)
  signed None behind none = (λ sign. absurd (false≢true (sym none ∙ rw sign refl)), λ some. absurd (false≢true some))
  signed (Some v) behind after = (λ _. refl, λ _. eqb-true (first (skip_ws behind)) 61 (begins_byte equals (skip_ws behind) after.rest after.sign))

  -- keys and values are written so
  pub written : AreWritten text ranges
  written path of_k behind is_key is_after =
      let it = key_at path of_k is_key in
      let behind_piece : IsFrom text (range_of (length text) it.of.spot).1 behind = rw (← it.of.same) at is_after in
      let same : behind ≡ it.stands.behind = one_after text it.of.spot it.stands.front it.stands.behind behind it.stands.at behind_piece in
      let follows : FollowedBy (pieces_of it.of.tree).of_value behind = rw (← same) at it.stands.follows in (
        rw it.of.leads (signed (pieces_of it.of.tree).of_value behind follows),
        λ of_v is_value.
            let that = of_value (length text) bs path of_v is_value in
            let after : LeadsTo that.spot behind = rw (value_too path of_k of_v it that) at follows in
            record {
              behind = behind;
              after_key = is_after;
              rest = after.rest;
              equals_sign = after.sign;
              begins = ap (λ (r : Range). r.0) (sym that.same) ∙ ap (λ (n : ℕ). length text - n) after.begins;
            },
      )
