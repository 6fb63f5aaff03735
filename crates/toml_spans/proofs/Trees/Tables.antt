-- What the rules of tables make of trees is what they make of nodes.
use Rattle.std.proofs.Common.{◌≡◌, ℕ, ◌<◌, length, List, [], ◌∷◌, Option, Some, None, Ordering, Less, Equal, Greater, nat_cmp, option_map, refl, inl, inr, rules}
use Rattle.std.proofs.lemmas.Bool.{cases_Bool}
use Rattle.std.proofs.lemmas.Map.Lookups.{exact_bytes}
use Rattle.std.specs.Cmp.Lexicographic.{slice_cmp}
use Rattle.std.specs.List.{AllByRecursion}
use Rattle.std.specs.Ordering.{match_ordering}
use Rattle.toml_parser.specs.Strings.{Key}
use Rattle.toml.specs.Data.{Data, push_item, same_key, table as table_data}
use Rattle.toml.specs.Tables.{at_key, close, dot_node, dotted, Edit, get_node, header, header_node, implicit, insert, new_node, no_nodes, Node, node, Nodes, open_array, open_table, Origin, redefine, replace, value, along_dots as along_dots_there, along_header as along_header_there, array_table as array_table_there, by_dot as by_dot_there, by_header as by_header_there, Definition as DefinitionThere, key_value, put as put_there, std_table as std_table_there}
use Rattle.toml_spans.specs.Entry.{array, after_key, branch, Branches, get_branch, inline, insert_branch, no_branches, push_tree, replace_branch, scalar, table, tables, Tree}
use Rattle.toml_spans.specs.Key.{key_of, Part, Parts, texts_of}
use Rattle.toml_spans.specs.Table.{along, array_table, at_part, by_part, Definition, Growth, new_tree, pair, put, redefined, std_table, through}
use Rattle.toml_spans.proofs.Trees.Alike.{Alike, alike_map, either, neither}
use Rattle.toml_spans.proofs.Trees.Found.{branch_found, one_key, trees_pushed}
use Rattle.toml_spans.proofs.Trees.Stands.{AreBranches, IsBranch, IsRest, KeyStands, NoEquals}

module _ (text : List ℕ) where
  -- ---- changes

  -- a new key at its place
  branch_inserted : (k : List ℕ) (u : Tree) (y : Node) (bs : Branches) (ns : Nodes) → IsBranch text k u y → AreBranches text bs ns → AreBranches text (insert_branch k u bs) (insert k y ns)
  branch_inserted k u y no_branches no_nodes is are = (refl, is.0, is.1, tt)
  branch_inserted k u y no_branches (node m x ns) is are = absurd are
  branch_inserted k u y (branch l t bs) no_nodes is are = absurd are
  branch_inserted k u y (branch l t bs) (node m x ns) is (same, here, keyed, more) =
      rw (← same) (in_order (branch_inserted k u y bs ns is more) (slice_cmp nat_cmp k l) refl)
    where
      -- by how the new key and the first one compare
      in_order : AreBranches text (insert_branch k u bs) (insert k y ns) → (o : Ordering) → slice_cmp nat_cmp k l ≡ o
          → AreBranches text (match_ordering o (branch k u (branch l t bs)) (branch l u bs) (branch l t (insert_branch k u bs))) (match_ordering o (node k y (node l x ns)) (node l y ns) (node l x (insert k y ns)))
      in_order later Less tells = (refl, is.0, is.1, (refl, here, keyed, more))
      in_order later Equal tells = (refl, (rw (exact_bytes k l tells) at is.0), is.1, more)
      in_order later Greater tells = (refl, here, keyed, later)

  -- another tree at a key that was there
  branch_replaced : (k : List ℕ) (u : Tree) (y : Node) (bs : Branches) (ns : Nodes) → IsBranch text k u y → AreBranches text bs ns → AreBranches text (replace_branch k u bs) (replace k y ns)
  branch_replaced k u y no_branches no_nodes is are = tt
  branch_replaced k u y no_branches (node m x ns) is are = absurd are
  branch_replaced k u y (branch l t bs) no_nodes is are = absurd are
  branch_replaced k u y (branch l t bs) (node m x ns) is (same, here, keyed, more) =
      rw (← same) (elim (cases_Bool (same_key k l)) [
        | inl tells ↦ rw tells (refl, (rw (one_key k l tells) at is.0), is.1, more)
        | inr other ↦ rw other (refl, here, keyed, branch_replaced k u y bs ns is more)
      ])

  -- both change branches alike
  abbrev pub Grows : Growth → Edit → Type 0
  Grows grow edit = (bs : Branches) (ns : Nodes) → AreBranches text bs ns → Alike (AreBranches text) (grow bs) (edit ns)

  -- and what stands at a key
  abbrev GrowsAt : List ℕ → (Tree → Option Tree) → (Node → Option Node) → Type 0
  GrowsAt k change edit = (t : Tree) (x : Node) → IsBranch text k t x → Alike (IsBranch text k) (change t) (edit x)

  -- a header on its way through what it finds
  through_headers : (k : List ℕ) (grow : Growth) (edit : Edit) → Grows grow edit → GrowsAt k (through implicit grow) (header_node edit)
  through_headers k grow edit grows (scalar p v) (value d) is = neither refl refl
  through_headers k grow edit grows (array p v ts) (value d) is = neither refl refl
  through_headers k grow edit grows (inline p v bs) (value d) is = neither refl refl
  through_headers k grow edit grows (table p origin bs) (open_table made ns) is =
      alike_map (table p origin) (open_table made) (grows bs ns is.0.2) (λ new more _ _ are. ((is.0.0, is.0.1, are), refl))
  through_headers k grow edit grows (tables p done last bs) (open_array ds ns) is =
      alike_map (tables p done last) (open_array ds) (grows bs ns is.0.3) (λ new more _ _ are. ((is.0.0, is.0.1, is.0.2, are), refl))
  through_headers k grow edit grows t x is = absurd is.0

  -- a dotted key on its way
  through_dots : (k : List ℕ) (grow : Growth) (edit : Edit) → Grows grow edit → GrowsAt k (through dotted grow) (dot_node edit)
  through_dots k grow edit grows (scalar p v) (value d) is = neither refl refl
  through_dots k grow edit grows (array p v ts) (value d) is = neither refl refl
  through_dots k grow edit grows (inline p v bs) (value d) is = neither refl refl
  through_dots k grow edit grows (table p origin bs) (open_table made ns) is = rw (← is.0.1) (by_origin origin)
    where
      -- a table that no header defined
      new_table : Alike (IsBranch text k) (option_map (table p dotted) (grow bs)) (option_map (open_table dotted) (edit ns))
      new_table = alike_map (table p dotted) (open_table dotted) (grows bs ns is.0.2) (λ new more _ _ are. ((is.0.0, refl, are), refl))

      -- by what made it
      by_origin : (o : Origin) → Alike (IsBranch text k) (through dotted grow (table p o bs)) (dot_node edit (open_table o ns))
      by_origin implicit = new_table
      by_origin dotted = new_table
      by_origin header = neither refl refl
  through_dots k grow edit grows (tables p done last bs) (open_array ds ns) is = neither refl refl
  through_dots k grow edit grows t x is = absurd is.0

  -- a part of a key that isn't its last, or the last of a header
  abbrev pub PartStands : Part → Type 0
  PartStands part = KeyStands text part.0 part.1 NoEquals

  -- ---- paths

  -- the table of a part, which is made where it is missing
  by_part_grows : (by : Origin) (part : Part) (next : Growth) (next_there : Edit) (edit : Node → Option Node) (edited : Nodes → Option Node → Option Nodes)
      → ((ns : Nodes) → edited ns None ≡ option_map (λ new. insert part.0 (open_table by new) ns) (next_there no_nodes))
      → ((ns : Nodes) (x : Node) → edited ns (Some x) ≡ option_map (λ new. replace part.0 new ns) (edit x))
      → PartStands part → Grows next next_there → GrowsAt part.0 (through by next) edit
      → Grows (λ bs. by_part by part next bs (get_branch part.0 bs)) (λ ns. edited ns (get_node part.0 ns))
  by_part_grows by part next next_there edit edited fresh found stands grows changes bs ns are =
      elim (branch_found text part.0 bs ns are) [
        | neither none none_too ↦ rw (none, none_too, fresh ns) (alike_map _ _ (grows no_branches no_nodes tt) (λ a b _ _ inside.
            branch_inserted part.0 (table part.1 by a) (open_table by b) bs ns ((stands, refl, inside), refl) are))
        | either t x is is_too here ↦ rw (is, is_too, found ns x)
            (alike_map _ _ (changes t x here) (λ u y _ _ both. branch_replaced part.0 u y bs ns both are))
      ]

  -- the end of a header
  pub headers_grow : (path : List Part) (grow : Growth) (edit : Edit) → AllByRecursion PartStands path → Grows grow edit → Grows (along implicit path grow) (along_header_there (texts_of path) edit)
  unfolding along along_header_there
  headers_grow [] grow edit stand grows = grows
  headers_grow (part ∷ path) grow edit stand grows =
      let more = headers_grow path grow edit stand.1 grows in
      by_part_grows implicit part _ _ _ (by_header_there part.0 _) (λ ns. refl) (λ ns x. refl) stand.0 more (through_headers part.0 _ _ more)

  -- the end of a dotted key
  dots_grow : (path : List Part) (grow : Growth) (edit : Edit) → AllByRecursion PartStands path → Grows grow edit → Grows (along dotted path grow) (along_dots_there (texts_of path) edit)
  unfolding along along_dots_there
  dots_grow [] grow edit stand grows = grows
  dots_grow (part ∷ path) grow edit stand grows =
      let more = dots_grow path grow edit stand.1 grows in
      by_part_grows dotted part _ _ _ (by_dot_there part.0 _) (λ ns. refl) (λ ns x. refl) stand.0 more (through_dots part.0 _ _ more)

  -- ---- definitions

  -- what is defined at this key, here and there
  abbrev pub Defines : Part → Definition → DefinitionThere → Type 0
  Defines part (pair t) (key_value d) = IsBranch text part.0 (after_key part.1 t) (value d)
  Defines part std_table std_table_there = PartStands part
  Defines part array_table array_table_there = PartStands part
  Defines part what what_there = ⊥

  -- a new key with what it defines
  new_branch : (part : Part) (what : Definition) (what_there : DefinitionThere) → Defines part what what_there → IsBranch text part.0 (new_tree part.1 what) (new_node what_there)
  new_branch part what what_there is = search rules

  -- what is defined once more
  redefines : (part : Part) (what : Definition) (what_there : DefinitionThere) → Defines part what what_there → GrowsAt part.0 (redefined part.1 what) (redefine what_there)
  redefines part (pair u) (key_value e) is t x here = neither refl refl
  redefines part std_table std_table_there is (table p origin bs) (open_table made ns) here = rw (← here.0.1) (by_origin origin)
    where
      -- by what made it
      by_origin : (o : Origin) → Alike (IsBranch text part.0) (redefined part.1 std_table (table p o bs)) (redefine std_table_there (open_table o ns))
      by_origin implicit = either (table p header bs) (open_table header ns) refl refl ((here.0.0, refl, here.0.2), refl)
      by_origin dotted = neither refl refl
      by_origin header = neither refl refl
  redefines part std_table std_table_there is (scalar p v) (value d) here = neither refl refl
  redefines part std_table std_table_there is (array p v ts) (value d) here = neither refl refl
  redefines part std_table std_table_there is (inline p v bs) (value d) here = neither refl refl
  redefines part std_table std_table_there is (tables p done last bs) (open_array ds ns) here = neither refl refl
  redefines part array_table array_table_there is (tables p done last bs) (open_array ds ns) here =
      either (tables p (push_tree done (table last header bs)) part.1 no_branches) (open_array (push_item ds (table_data (close ns))) no_nodes) refl refl
      ((here.0.0, is, trees_pushed text part.0 done ds (table last header bs) (table_data (close ns)) here.0.2 (open_table header ns, refl, (here.0.1, refl, here.0.3)), tt), refl)
  redefines part array_table array_table_there is (scalar p v) (value d) here = neither refl refl
  redefines part array_table array_table_there is (array p v ts) (value d) here = neither refl refl
  redefines part array_table array_table_there is (inline p v bs) (value d) here = neither refl refl
  redefines part array_table array_table_there is (table p origin bs) (open_table made ns) here = neither refl refl
  redefines part std_table std_table_there is t x here = absurd here.0
  redefines part array_table array_table_there is t x here = absurd here.0
  redefines part what what_there is t x here = absurd is

  -- a definition at the last part of a key
  pub part_grows : (part : Part) (what : Definition) (what_there : DefinitionThere) → Defines part what what_there → Grows (at_part part what) (at_key part.0 what_there)
  unfolding at_part at_key
  part_grows part what what_there is bs ns are =
      elim (branch_found text part.0 bs ns are) [
        | neither none none_too ↦ rw (none, none_too) (either _ _ refl refl
            (branch_inserted part.0 (new_tree part.1 what) (new_node what_there) bs ns (new_branch part what what_there is) are))
        | either t x is_here is_there here ↦ rw (is_here, is_there)
            (alike_map _ _ (redefines part what what_there is t x here) (λ u y _ _ both. branch_replaced part.0 u y bs ns both are))
      ]

  -- a pair of a table
  pub put_grows : (parts : Parts) (t : Tree) (d : Data) → AllByRecursion PartStands parts.0 → Defines parts.1 (pair t) (key_value d) → Grows (put parts t) (put_there (key_of parts) d)
  put_grows parts t d stand is = dots_grow parts.0 (at_part parts.1 (pair t)) (at_key parts.1.0 (key_value d)) stand (part_grows parts.1 (pair t) (key_value d) is)

-- a statement is read here as it is there, and what it defines stands where it was read
pub record ReadAlike (whole text : List ℕ) (k : Parts) (what : Definition) (rest : List ℕ) (l : Key) (what_there : DefinitionThere) (rest_there : List ℕ) : Type 0 where
  pub key_same : l ≡ key_of k
  pub rest_same : rest_there ≡ rest
  pub before : AllByRecursion (PartStands whole) k.0
  pub defines : Defines whole k.1 what what_there
  pub left : IsRest text rest
  pub shorter : length rest < length text
