-- The walk over a text, a turn at a time.
use Rattle.std.proofs.Common.{◌≡◌, ℕ, Bool, suc, ◌-◌, ◌<◌, ◌≤◌, true, false, cond, ◌||◌, ◌==◌, List, [], ◌∷◌, ◌++◌, length, get_or, take, take_all, drop, Option, Some, None, option_and_then, Result, refl, ap, ◌∙◌, arith, rules}
use Rattle.std.proofs.lemmas.Bool.{false≢true}
use Rattle.std.specs.Borrow.{Bor}
use Rattle.std.specs.Result.{IsErrAnd}
use Rattle.toml_spans.proofs.Alone.Values.{atom_none}
use Rattle.toml_parser.specs.Lexical.{first, Read, skip_blank, skip_ws}
use Rattle.toml_parser.specs.Strings.{simple_key}
use Rattle.toml.specs.Parse.{after_element, atom}
use Rattle.toml.specs.Tables.{Origin}
use Rattle.toml_spans.specs.Entry.{array, Branches, get_branch, inline, no_branches, no_trees, piece, push_tree, scalar, Tree, Trees}
use Rattle.toml_spans.specs.Key.{Part, Parts, parts_after}
use Rattle.toml_spans.specs.KeyViews.{part_of, path_of}
use Rattle.toml_spans.specs.Refusal.{Gives, Reads, refusal_of}
use Rattle.toml_spans.specs.Table.{along, at_found, at_part, by_part, Definition, Growth, put}
use Rattle.toml_spans.specs.Value.{element_trees, member_trees, pair_tree, placed, value_tree}
use Rattle.toml_spans.specs.declared.key.Part.{Part as CodePart}
use Rattle.toml_spans.specs.declared.refusal.Refusal.{Refusal}
use Rattle.toml_spans.specs.declared.refusal.Refusal.TheVariants.{NoDocument}
use Rattle.toml_parser.specs.declared.error.ParseError.{ParseError}
use Rattle.toml_parser.specs.declared.error.ParseError.TheVariants as parse_error

-- a refusal that a `?` passes on
pub gives_err : {A B : Type 0} (f : A → B) (r : Result A Refusal) {expected : Option B} {e : Refusal}
    → IsErrAnd r (λ y. y ≡ e) → (e ≡ NoDocument → expected ≡ None) → Gives f r expected
gives_err f r is refused = search rules

-- the same of an error of a reader
pub gives_read_err : {A B : Type 0} (f : A → B) (r : Result A Refusal) {expected : Option B} {e : ParseError}
    → IsErrAnd r (λ y. y ≡ refusal_of e) → ((e ≡ parse_error.OutOfMemory → ⊥) → expected ≡ None) → Gives f r expected
gives_read_err f r is refused = search rules

-- ---- keys

pub parts_zero : (path : List Part) (text : List ℕ) → parts_after 0 path text ≡ None
unfolding parts_after
parts_zero path text = refl

-- what comes after a part
abbrev pub after_part : ℕ → List Part → List ℕ → List ℕ × List ℕ → Read Parts
after_part n path text read = cond (first (skip_ws read.1) == 46)
    (parts_after n (path ++ (read.0, piece text read.1) ∷ []) (skip_ws (drop 1 (skip_ws read.1))))
    (Some ((path, (read.0, piece text read.1)), skip_ws read.1))

pub parts_turn : (n : ℕ) (path : List Part) (text : List ℕ) → 0 < n → parts_after n path text ≡ option_and_then (after_part (n - 1) path text) (simple_key text)
unfolding parts_after
parts_turn n path text h = search rules

-- ---- values

-- a loop over a text comes from its beginning, with nothing found, to this rest with what it found
abbrev pub Goes : {F : Type 0} → (ℕ → F → List ℕ → Read F) → List ℕ → F → F → List ℕ → Type 0
Goes loop text none found rest = (n : ℕ) → length text < n
    → (m : ℕ) × (length rest < m) × (loop n none text ≡ loop m found rest)

module _ {F : Type 0} (loop : ℕ → F → List ℕ → Read F) {text rest : List ℕ} {none found : F} where
  -- where its next turn is the last, it answers as that does
  pub goes_to : {answer : Read F} → Goes loop text none found rest
      → ((m : ℕ) → loop (suc m) found rest ≡ answer)
      → (n : ℕ) → length text < n → loop n none text ≡ answer
  goes_to goes last n enough =
      let (m, room, same) = goes n enough in
      let some : m ≡ suc (m - 1) = omega (arith, room) in
      same ∙ ap (λ k. loop k found rest) some ∙ last (m - 1)

  -- one turn more
  pub goes_on : {more : F} {next : List ℕ} → Goes loop text none found rest → length next < length rest
      → ((m : ℕ) → loop (suc m) found rest ≡ loop m more next)
      → Goes loop text none more next
  goes_on goes shorter turn n enough =
      let (m, room, same) = goes n enough in
      let some : m ≡ suc (m - 1) = omega (arith, room) in
      (m - 1, omega (arith, room, shorter), same ∙ ap (λ k. loop k found rest) some ∙ turn (m - 1))

  -- where its next turn isn't the last and refuses the text, so does it
  pub goes_wrong : {A : Type 0} (seen : A → F) (r : Result (A × Bor (List ℕ)) Refusal) {e : Refusal} (closes : Bool) (over : Read F) (turn : ℕ → Read F)
      → Goes loop text none found rest → IsErrAnd r (λ y. y ≡ e)
      → ((m : ℕ) → loop (suc m) found rest ≡ cond closes over (turn m)) → closes ≡ false → (e ≡ NoDocument → (m : ℕ) → turn m ≡ None)
      → (n : ℕ) → length text < n → Reads seen r (loop n none text)
  goes_wrong seen r closes over turn goes is turns other wrong n enough =
      gives_err _ r is λ refused. goes_to goes (λ m. turns m ∙ rw other (wrong refused m)) n enough

module _ (val : List ℕ → Read Tree) where
  -- a turn over the elements of an array
  pub elements_turn : (m : ℕ) (found : Trees) (text : List ℕ) → element_trees val (suc m) found text
      ≡ cond (first (skip_blank text) == 93) (Some (found, drop 1 (skip_blank text)))
      (option_and_then (λ v. option_and_then (element_trees val m (push_tree found v.0))
      (after_element 93 v.1)) (val (skip_blank text)))
  unfolding element_trees
  elements_turn m found text = refl

  -- a turn over the members of an inline table
  pub members_turn : (m : ℕ) (found : Branches) (text : List ℕ) → member_trees val (suc m) found text
      ≡ cond (first (skip_blank text) == 125) (Some (found, drop 1 (skip_blank text)))
      (option_and_then (λ e. option_and_then (λ more. option_and_then (member_trees val m more)
      (after_element 125 e.1)) (put e.0.0 e.0.1 found)) (pair_tree val (skip_blank text)))
  unfolding member_trees
  members_turn m found text = refl

-- a value with room for one more level
pub value_level : (depth : ℕ) (text : List ℕ) → value_tree (suc depth) text
    ≡ cond (first text == 91) (placed (λ v ts. array None v ts) text
    (element_trees (value_tree depth) (length text) no_trees (drop 1 text)))
    (cond (first text == 123) (placed (λ v bs. inline None v bs) text
    (member_trees (value_tree depth) (length text) no_branches (drop 1 text)))
    (placed (λ v d. scalar None v) text (atom text)))
unfolding value_tree
value_level depth text = refl

-- a value above the end of the depth
some_level : (depth : ℕ) (text : List ℕ) → 0 < depth → value_tree depth text ≡ value_tree (suc (depth - 1)) text
some_level depth text some =
    let above : depth ≡ suc (depth - 1) = omega (arith, some) in
    ap (λ level. value_tree level text) above

-- an array
pub value_array : (depth : ℕ) (text : List ℕ) → 0 < depth → (first text == 91) ≡ true
    → value_tree depth text ≡ placed (λ v ts. array None v ts) text (element_trees (value_tree (depth - 1)) (length text) no_trees (drop 1 text))
value_array depth text some square = some_level depth text some ∙ rw (value_level (depth - 1) text, square) refl

-- an inline table
pub value_inline : (depth : ℕ) (text : List ℕ) → 0 < depth → (first text == 91) ≡ false → (first text == 123) ≡ true
    → value_tree depth text ≡ placed (λ v bs. inline None v bs) text (member_trees (value_tree (depth - 1)) (length text) no_branches (drop 1 text))
value_inline depth text some square brace = some_level depth text some ∙ rw (value_level (depth - 1) text, square, brace) refl

-- a value that no bracket begins
pub value_scalar : (depth : ℕ) (text : List ℕ) → (first text == 91) ≡ false → (first text == 123) ≡ false
    → value_tree depth text ≡ placed (λ v d. scalar None v) text (atom text)
unfolding value_tree
value_scalar depth text square brace = search rules

-- at the end of the depth a bracket is no value
pub value_deep : (text : List ℕ) → ((first text == 91) || (first text == 123)) ≡ true → value_tree 0 text ≡ None
unfolding value_tree
value_deep [] h = absurd (false≢true h)
value_deep (c ∷ text) h = rw (atom_none c text (rw h refl)) refl

-- ---- tables

pub path_front : (xs : List CodePart) (part d : CodePart) → 1 ≤ length xs → part ≡ get_or xs 0 d
    → path_of xs ≡ part_of part ∷ path_of (take (length xs - 1) (drop 1 xs))
path_front [] part d some same = absurd (omega arith)
path_front (x ∷ xs) part d some same =
    let all : take (suc (length xs) - 1) xs ≡ xs = take_all _ xs (omega arith) in
    rw (same, all)

pub path_none : (xs : List CodePart) → length xs < 1 → path_of xs ≡ []
path_none [] none = refl
path_none (x ∷ xs) none = absurd (omega arith)

-- what is defined at the last part of a key, by what stands there
pub at_part_turn : (part : Part) (what : Definition) (bs : Branches) → at_part part what bs ≡ at_found part what bs (get_branch part.0 bs)
unfolding at_part
at_part_turn part what bs = refl

-- a part of a path, by what stands there
pub along_turn : (by : Origin) (part : Part) (path : List Part) (grow : Growth) (bs : Branches) → along by (part ∷ path) grow bs ≡ by_part by part (along by path grow) bs (get_branch part.0 bs)
unfolding along
along_turn by part path grow bs = refl
