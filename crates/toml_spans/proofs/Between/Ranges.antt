-- What stands between the elements of an array, by the ranges of a document.
use Rattle.std.proofs.Common.{◌≡◌, ℕ, suc, ◌-◌, ◌==◌, List, [], ◌∷◌, ◌++◌, length, drop, Option, Some, None, option_and_then, option_map, refl, sym, ap, subst, ◌∙◌, rules}
use Rattle.std.proofs.lemmas.Bool.{false≢true}
use Rattle.std.proofs.lemmas.Option.{none-some, same_Some}
use Rattle.toml_parser.specs.Lexical.{first, skip_blank}
use Rattle.toml.specs.Parse.{after_element}
use Rattle.toml_spans.specs.Entry.{array, Branches, get_tree, inline, Piece, piece, pieces_of, scalar, table, tables, Tree, tree_at, tree_from, Trees}
use Rattle.toml_spans.specs.Ranges.{element, ElementsStand, IsFrom, Range, range_of, Ranges, ranges_of}
use Rattle.toml_spans.specs.Step.{index, PathStep}
use Rattle.toml_spans.proofs.Between.Elements.{BeginsOther, ElementsSpaced, Follows, follows, IsReached, IsSpaced, reached}
use Rattle.toml_spans.proofs.Order.Holds.{holds_along, HoldsIn, no_values_more}
use Rattle.toml_spans.proofs.Pieces.{at_from, at_on, IsOfPiece, itself, of_value}
use Rattle.toml_spans.proofs.Trees.Rests.{from_rest, place_rest, rest_blank, rest_dropped, rest_element, rest_on}
use Rattle.toml_spans.proofs.Trees.Stands.{IsRest}

-- ---- ranges

-- where the range of a piece begins, and where it ends
pub range_begins : (bytes : ℕ) (spot : Piece) (range : Range) (n : ℕ) → range_of bytes spot ≡ range → spot.0 ≡ n → range.0 ≡ bytes - n
range_begins bytes spot range n is same = rw (← is, same) refl

range_ends : (bytes : ℕ) (spot : Piece) (range : Range) (n : ℕ) → range_of bytes spot ≡ range → spot.1 ≡ n → range.1 ≡ bytes - n
range_ends bytes spot range n is same = rw (← is, same) refl

-- an element that has a value is one of an array that is written as one
record OfArray (text : List ℕ) (t : Tree) (i : ℕ) (u : Tree) : Type 0 where
  of_key : Option Piece
  spot : Piece
  trees : Trees
  is : t ≡ array of_key spot trees
  got : get_tree i trees ≡ Some u
  spaced : IsSpaced text spot trees

of_array : (text : List ℕ) (t u : Tree) (i : ℕ) (w : Piece) → ElementsSpaced text t → tree_from t (index i) ≡ Some u → (pieces_of u).of_value ≡ Some w → OfArray text t i u
of_array text (array k v ts) u i w spaced from has = record { of_key = k; spot = v; trees = ts; is = refl; got = from; spaced = spaced }
of_array text (tables k done last bs) u i w spaced from has = absurd (none-some w (sym (no_values_more done last bs spaced i u from) ∙ has))
of_array text t u i w spaced from has = absurd (none-some u from)

-- a value that begins with a bracket is an array
record BeginsArray (text : List ℕ) (t : Tree) (v : Piece) : Type 0 where
  of_key : Option Piece
  trees : Trees
  is : t ≡ array of_key v trees
  spaced : IsSpaced text v trees

begins_other : (text inside : List ℕ) (v w : Piece) → BeginsOther text v → v ≡ w → IsFrom text (length text - w.0) (91 ∷ inside) → ⊥
begins_other text inside v w other same from =
    let place : length text - w.0 ≡ length text - length other.start = ap (λ (n : ℕ). length text - n) (ap (λ (p : Piece). p.0) (sym same) ∙ other.begins) in
    let starts : (91 ∷ inside) ≡ other.start = place_rest text other.start (91 ∷ inside) (length text - w.0) other.from place from in
    false≢true (sym other.other ∙ ap (λ (u : List ℕ). first u == 91) (sym starts))

begins_array : (text inside : List ℕ) (t : Tree) (w : Piece) → ElementsSpaced text t → (pieces_of t).of_value ≡ Some w → IsFrom text (length text - w.0) (91 ∷ inside) → BeginsArray text t w
begins_array text inside (scalar k v) w other has from = absurd (begins_other text inside v w other (same_Some v w has) from)
begins_array text inside (array k v ts) w spaced has from =
    let same : v ≡ w = same_Some v w has in
    record { of_key = k; trees = ts; is = ap (λ (p : Piece). array k p ts) same; spaced = subst (λ (p : Piece). IsSpaced text p ts) same spaced }
begins_array text inside (inline k v bs) w other has from = absurd (begins_other text inside v w other (same_Some v w has) from)
begins_array text inside (table k o bs) w spaced has from = absurd (none-some w has)
begins_array text inside (tables k done last bs) w spaced has from = absurd (none-some w has)

module _ (text : List ℕ) (root : Branches) (spaced : HoldsIn (ElementsSpaced text) root) where
  -- the ranges of what stands there
  abbrev ranges : Ranges
  ranges = ranges_of (length text) root

  -- what is known of an element
  record Element (path : List PathStep) (i : ℕ) (one : Range) : Type 0 where
    of : IsOfPiece (length text) root (λ p. p.of_value) (path ++ (index i ∷ [])) one
    before : Tree
    leads : tree_at root path ≡ Some before
    among : OfArray text before i of.tree
    at : IsReached among.spaced.inside of.tree (get_tree (suc i) among.trees) among.spaced.end
    from : IsRest text at.here.behind
    place : one.1 ≡ length text - length at.here.behind

  -- each one with a range
  element_of : (path : List PathStep) (i : ℕ) (one : Range) → element ranges path i ≡ Some one → Element path i one
  element_of path i one is =
      let of = of_value (length text) root (path ++ (index i ∷ [])) one is in
      let comes = at_from root path i of.tree of.leads in
      let among = of_array text comes.before of.tree i of.spot (holds_along root spaced path comes.before comes.leads) comes.from of.has in
      let at = reached among.spaced.inside among.spaced.end among.trees i of.tree among.spaced.are among.got in
      let same : of.spot ≡ piece (skip_blank at.before) at.here.behind = same_Some of.spot (piece (skip_blank at.before) at.here.behind) (sym of.has ∙ at.here.value) in
      record {
        of = of;
        before = comes.before;
        leads = comes.leads;
        among = among;
        at = at;
        from = rest_on (rest_on among.spaced.from (rest_dropped 1 (91 ∷ among.spaced.inside))) (rest_on at.from at.here.left);
        place = range_ends (length text) of.spot one (length at.here.behind) of.same (ap (λ (p : Piece). p.1) same);
      }

  -- what stands right after it
  behind_is : (path : List PathStep) (i : ℕ) (one : Range) (behind : List ℕ) (e : Element path i one) → IsFrom text one.1 behind → after_element 93 behind ≡ Some e.at.here.rest
  behind_is path i one behind e from = ap (after_element 93) (place_rest text e.at.here.behind behind one.1 e.from e.place from) ∙ e.at.here.after

  -- the text from there on
  rest_from : (path : List PathStep) (i : ℕ) (one : Range) (e : Element path i one) → IsRest text e.at.here.rest
  rest_from path i one e = rest_on e.from (rest_element 93 e.at.here.behind e.at.here.rest e.at.here.after)

  -- an element begins where the text from its place on does
  begins_from : (path : List PathStep) (i : ℕ) (one : Range) (start behind : List ℕ) → IsOfPiece (length text) root (λ p. p.of_value) (path ++ (index i ∷ [])) one → (u : Tree) → tree_at root (path ++ (index i ∷ [])) ≡ Some u
      → (pieces_of u).of_value ≡ Some (piece start behind) → IsRest text start → IsFrom text one.0 start
  begins_from path i one start behind of u leads has from =
      let tree_same : of.tree ≡ u = same_Some of.tree u (sym of.leads ∙ leads) in
      let spot_same : of.spot ≡ piece start behind = same_Some of.spot (piece start behind) (sym of.has ∙ ap (λ (t : Tree). (pieces_of t).of_value) tree_same ∙ has) in
      let place : one.0 ≡ length text - length start = range_begins (length text) of.spot one (length start) of.same (ap (λ (p : Piece). p.0) spot_same) in
      subst (λ (n : ℕ). IsFrom text n start) (sym place) (from_rest text start from)

  -- what the path of an element's array leads to
  array_at : (path : List PathStep) (i : ℕ) (one : Range) (e : Element path i one) → tree_at root path ≡ Some (array e.among.of_key e.among.spot e.among.trees)
  array_at path i one e = e.leads ∙ ap Some e.among.is

  -- and the next element's
  at_index : (path : List PathStep) (i j : ℕ) (one : Range) (e : Element path i one) → tree_at root (path ++ (index j ∷ [])) ≡ get_tree j e.among.trees
  at_index path i j one e = at_on root path (index j ∷ []) _ (array_at path i one e) ∙ itself (get_tree j e.among.trees)

  -- the array's own piece
  array_spot : (path : List PathStep) (i : ℕ) (whole one : Range) (e : Element path i one) → ranges.of_value path ≡ Some whole → range_of (length text) e.among.spot ≡ whole
  array_spot path i whole one e is = search rules

  -- what follows an element, where another one does
  follows_some : (rest end : List ℕ) (o : Option Tree) (u : Tree) → o ≡ Some u → Follows rest o end → (behind : List ℕ) × ((pieces_of u).of_value ≡ Some (piece (skip_blank rest) behind))
  follows_some rest end o u is follows = subst (λ (p : Option Tree). Follows rest p end) is follows

  -- the first element
  first_stands : (path : List PathStep) (whole one : Range) (start : List ℕ) → ranges.of_value path ≡ Some whole → element ranges path 0 ≡ Some one → IsFrom text whole.0 start
      → (inside : List ℕ) × (start ≡ 91 ∷ inside) × IsFrom text one.0 (skip_blank inside)
  first_stands path whole one start is_whole is_one from =
      let e = element_of path 0 one is_one in
      let spaced = e.among.spaced in
      let place : whole.0 ≡ length text - length (91 ∷ spaced.inside) = range_begins (length text) e.among.spot whole (length (91 ∷ spaced.inside)) (array_spot path 0 whole one e is_whole) spaced.begins in
      let begins = follows_some spaced.inside spaced.end _ e.of.tree e.among.got (follows spaced.inside spaced.end e.among.trees spaced.are) in
      let inside_from : IsRest text spaced.inside = rest_on spaced.from (rest_dropped 1 (91 ∷ spaced.inside)) in (
        spaced.inside,
        place_rest text (91 ∷ spaced.inside) start whole.0 spaced.from place from,
        begins_from path 0 one (skip_blank spaced.inside) begins.0 e.of e.of.tree e.of.leads begins.1 (rest_on inside_from (rest_blank spaced.inside)),
      )

  -- the next element
  next_stands : (path : List PathStep) (i : ℕ) (one other : Range) (behind : List ℕ) → element ranges path i ≡ Some one → element ranges path (suc i) ≡ Some other → IsFrom text one.1 behind
      → (rest : List ℕ) × (after_element 93 behind ≡ Some rest) × IsFrom text other.0 (skip_blank rest)
  next_stands path i one other behind is_one is_other from =
      let e = element_of path i one is_one in
      let of = of_value (length text) root (path ++ (index (suc i) ∷ [])) other is_other in
      let got : get_tree (suc i) e.among.trees ≡ Some of.tree = sym (at_index path i (suc i) one e) ∙ of.leads in
      let next = follows_some e.at.here.rest e.among.spaced.end (get_tree (suc i) e.among.trees) of.tree got e.at.here.more in (
        e.at.here.rest,
        behind_is path i one behind e from,
        begins_from path (suc i) other (skip_blank e.at.here.rest) next.0 of of.tree of.leads next.1 (rest_on (rest_from path i one e) (rest_blank e.at.here.rest)),
      )

  -- where no range follows, no element does
  follows_none : (rest end : List ℕ) (o : Option Tree) → option_and_then (λ t. option_map (range_of (length text)) (pieces_of t).of_value) o ≡ None → Follows rest o end → rest ≡ end
  follows_none rest end o none follows = search rules

  -- the last element
  last_stands : (path : List PathStep) (i : ℕ) (whole one : Range) (behind : List ℕ) → ranges.of_value path ≡ Some whole → element ranges path i ≡ Some one → element ranges path (suc i) ≡ None
      → IsFrom text one.1 behind → (rest : List ℕ) × (after_element 93 behind ≡ Some rest) × (first (skip_blank rest) ≡ 93) × IsFrom text whole.1 (drop 1 (skip_blank rest))
  last_stands path i whole one behind is_whole is_one none from =
      let e = element_of path i one is_one in
      let spaced = e.among.spaced in
      let rest = e.at.here.rest in
      let nothing = sym (ap (option_and_then (λ t. option_map (range_of (length text)) (pieces_of t).of_value)) (at_index path i (suc i) one e)) ∙ none in
      let over : rest ≡ spaced.end = follows_none rest spaced.end (get_tree (suc i) e.among.trees) nothing e.at.here.more in
      let after = drop 1 (skip_blank rest) in
      let ends : e.among.spot.1 ≡ length after = spaced.ends ∙ ap (λ (u : List ℕ). length (drop 1 (skip_blank u))) (sym over) in
      let place : whole.1 ≡ length text - length after = range_ends (length text) e.among.spot whole (length after) (array_spot path i whole one e is_whole) ends in
      let after_from : IsRest text after = rest_on (rest_on (rest_from path i one e) (rest_blank rest)) (rest_dropped 1 (skip_blank rest)) in (
        rest,
        behind_is path i one behind e from,
        ap (λ (u : List ℕ). first (skip_blank u)) over ∙ spaced.closes,
        subst (λ (n : ℕ). IsFrom text n after) (sym place) (from_rest text after after_from),
      )

  -- an array without elements
  pub none_stands : (path : List PathStep) (whole : Range) (inside : List ℕ) → ranges.of_value path ≡ Some whole → element ranges path 0 ≡ None → IsFrom text whole.0 (91 ∷ inside)
      → (first (skip_blank inside) ≡ 93) × IsFrom text whole.1 (drop 1 (skip_blank inside))
  none_stands path whole inside is_whole none from =
      let of = of_value (length text) root path whole is_whole in
      let begins : IsFrom text (length text - of.spot.0) (91 ∷ inside) = subst (λ (r : Range). IsFrom text r.0 (91 ∷ inside)) (sym of.same) from in
      let opens = begins_array text inside of.tree of.spot (holds_along root spaced path of.tree of.leads) of.has begins in
      let array_spaced = opens.spaced in
      let place = ap (λ (n : ℕ). length text - n) array_spaced.begins in
      let whole_same : (91 ∷ inside) ≡ (91 ∷ array_spaced.inside) = place_rest text (91 ∷ array_spaced.inside) (91 ∷ inside) (length text - of.spot.0) array_spaced.from place begins in
      let at = at_on root path (index 0 ∷ []) _ (of.leads ∙ ap Some opens.is) ∙ itself (get_tree 0 opens.trees) in
      let nothing = sym (ap (option_and_then (λ t. option_map (range_of (length text)) (pieces_of t).of_value)) at) ∙ none in
      let over : array_spaced.inside ≡ array_spaced.end = follows_none array_spaced.inside array_spaced.end (get_tree 0 opens.trees) nothing (follows array_spaced.inside array_spaced.end opens.trees array_spaced.are) in
      let same : inside ≡ array_spaced.end = ap (drop 1) whole_same ∙ over in
      let after = drop 1 (skip_blank inside) in
      let ends : of.spot.1 ≡ length after = array_spaced.ends ∙ ap (λ (u : List ℕ). length (drop 1 (skip_blank u))) (sym same) in
      let after_from : IsRest text after = rest_on (rest_on (subst (IsRest text) (sym whole_same) array_spaced.from) (rest_dropped 1 (91 ∷ inside))) (rest_on (rest_blank inside) (rest_dropped 1 (skip_blank inside))) in (
        ap (λ (u : List ℕ). first (skip_blank u)) same ∙ array_spaced.closes,
        subst (λ (n : ℕ). IsFrom text n after) (sym (range_ends (length text) of.spot whole (length after) of.same ends)) (from_rest text after after_from),
      )

  -- so elements stand in each array
  pub elements_stand : ElementsStand text ranges
  elements_stand = record { first_one = first_stands; next_one = next_stands; last_one = last_stands }
