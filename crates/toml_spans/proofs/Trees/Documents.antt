-- A walk over the statements of a text goes as `toml` reads them, and what stands where it says is
-- what `toml` holds.
use Rattle.std.proofs.Common.{◌≡◌, ℕ, suc, ◌-◌, ◌<◌, ◌≤◌, false, ◌==◌, ◌&&◌, List, [], ◌∷◌, ◌++◌, length, drop, slice_index, Some, None, option_map, refl, ap, ◌∙◌, inl, inr, ◌⊎◌, arith}
use Rattle.std.proofs.lemmas.Bool.{cases_Bool, ne_eqb}
use Rattle.std.specs.List.{AllByRecursion}
use Rattle.toml_parser.specs.Lexical.{first, skip_blank, skip_ws}
use Rattle.toml_parser.specs.Strings.{Key}
use Rattle.toml.proofs.Turns.{document_none, document_some, lines_bad, lines_end, lines_more, lines_refused}
use Rattle.toml.specs.Parse.{after_byte, ends_line, expression, header_key, line, lines, parse_document, skip_bom, val}
use Rattle.toml.specs.Tables.{along_header, at_key, implicit, array_table as array_table_there, close, define, Definition as DefinitionThere, Document, Expression, key_value, no_nodes, Nodes, std_table as std_table_there}
use Rattle.toml_spans.specs.Document.{begin, go_on, header_parts, Statement, statement, statement_line, Walk, walk_on, Walks}
use Rattle.toml_spans.specs.Key.{key_of, Parts, texts_of}
use Rattle.toml_spans.specs.Table.{along, array_table, at_part, Definition, pair, std_table}
use Rattle.toml_spans.specs.Value.{value_tree}
use Rattle.toml_spans.proofs.Elements.{all_joined}
use Rattle.toml_spans.proofs.Trees.Alike.{Alike, alike_first, alike_if, alike_map, alike_none, alike_same_map, alike_then, either, neither}
use Rattle.toml_spans.proofs.Trees.Keys.{key_read, read_on, ReadParts, texts_more}
use Rattle.toml_spans.proofs.Trees.Rests.{begins_byte, byte_shorter, drop_shorter, other_byte, rest_blank, rest_byte, rest_dropped, rest_itself, rest_on, rest_within, rest_ws}
use Rattle.toml_spans.proofs.Trees.Stands.{AreBranches, IsRest, NoEquals}
use Rattle.toml_spans.proofs.Trees.Tables.{Defines, headers_grow, part_grows, PartStands, put_grows, ReadAlike}
use Rattle.toml_spans.proofs.Trees.Values.{pair_read, value_read}

-- ---- statements

-- what is read of a statement
abbrev pub ReadStatement : List ℕ → List ℕ → Statement × List ℕ → Expression × List ℕ → Type 0
ReadStatement whole text r s = ReadAlike whole text r.0.0 r.0.1 r.1 s.0.0 s.0.1 s.1

-- without a byte order mark
rest_mark : (text : List ℕ) → IsRest text (skip_bom text)
unfolding skip_bom
rest_mark text = elim (cases_Bool ((first text == 0xEF && slice_index text 1 == 0xBB) && slice_index text 2 == 0xBF)) [
  | inl mark ↦ rw mark (rest_dropped 3 text)
  | inr other ↦ rw other (rest_itself text)
]

-- what a walk holds, and what a document does
pub record WalkStands (whole : List ℕ) (walk : Walk) (document : Document) : Type 0 where
  pub root : AreBranches whole walk.root document.0
  pub section : texts_of walk.section ≡ document.1
  pub parts : AllByRecursion (PartStands whole) walk.section

module _ (whole : List ℕ) where
  -- a header
  header_grows : (walk : Walk) (document : Document) (parts : Parts) (what : Definition) (what_there : DefinitionThere) → WalkStands whole walk document
      → AllByRecursion (PartStands whole) parts.0 → Defines whole parts.1 what what_there → PartStands whole parts.1
      → Alike (WalkStands whole) (option_map (λ root. record { root = root; section = parts.0 ++ parts.1 ∷ [] }) (along implicit parts.0 (at_part parts.1 what) walk.root))
      (option_map (λ root. (root, texts_of parts.0 ++ parts.1.0 ∷ [])) (along_header (texts_of parts.0) (at_key parts.1.0 what_there) document.0))
  header_grows walk document parts what what_there stands before defines last =
      alike_map _ _ (headers_grow whole parts.0 _ _ before (part_grows whole parts.1 what what_there defines) walk.root document.0 stands.root) (λ x y _ _ are.
      record { root = are; section = texts_more parts.0 parts.1; parts = all_joined (PartStands whole) parts.0 (parts.1 ∷ []) before (last, tt) })

  -- one more statement
  pub walk_grows : (walk : Walk) (document : Document) (parts : Parts) (what : Definition) (what_there : DefinitionThere) → WalkStands whole walk document
      → AllByRecursion (PartStands whole) parts.0 → Defines whole parts.1 what what_there → Alike (WalkStands whole) (walk_on walk parts what) (define document (key_of parts, what_there))
  unfolding define
  walk_grows walk document parts (pair t) (key_value d) stands before defines =
      rw (← stands.section) (alike_map _ _ (headers_grow whole walk.section _ _ stands.parts (put_grows whole parts t d before defines) walk.root document.0 stands.root)
      (λ x y _ _ are. record { root = are; section = refl; parts = stands.parts }))
  walk_grows walk document parts std_table std_table_there stands before defines = header_grows walk document parts std_table std_table_there stands before defines defines
  walk_grows walk document parts array_table array_table_there stands before defines = header_grows walk document parts array_table array_table_there stands before defines defines
  walk_grows walk document parts what what_there stands before defines = absurd defines

  -- the key of a header
  abbrev ReadHeader : List ℕ → Parts × List ℕ → Key × List ℕ → Type 0
  ReadHeader = ReadParts whole (λ _ behind. NoEquals behind)

  header_read : (text : List ℕ) → IsRest whole text → Alike (ReadHeader text) (header_parts text) (header_key text)
  unfolding header_parts header_key
  header_read text from =
      alike_then _ _ (key_read whole (skip_ws text) (rest_on from (rest_ws text))) (λ x y _ _ read. rw read.rest_same (alike_same_map (after_byte 93 x.1) _ _ (λ rest is.
      read_on whole (rest_ws text) read (rest_byte 93 x.1 rest is) (λ behind same. rw same (other_byte (first x.1) 93 61 (begins_byte 93 x.1 rest is) refl)))))

  -- a statement whose key it is
  header_is : {text start rest : List ℕ} {r : Parts × List ℕ} {s : Key × List ℕ} {what : Definition} {what_there : DefinitionThere} → IsRest text start → ReadHeader start r s
      → IsRest r.1 rest → length rest < length text → (PartStands whole r.0.1 → Defines whole r.0.1 what what_there)
      → ReadAlike whole text r.0 what rest s.0 what_there rest
  header_is from read left shorter defines = record {
    key_same = read.key_same;
    rest_same = refl;
    before = read.before;
    defines = defines read.last;
    left = rest_on (rest_on from read.left) left;
    shorter = shorter;
  }

  -- a statement
  statement_read : (text : List ℕ) → IsRest whole text → Alike (ReadStatement whole text) (statement text) (expression text)
  unfolding statement expression
  statement_read text from =
      alike_if (first text == 91 && slice_index text 1 == 91) _ _ _ _
      (λ _. alike_then _ _ (header_read (drop 2 text) (rest_on from (rest_dropped 2 text))) (λ x y _ _ read. rw read.rest_same (alike_same_map (after_byte 93 x.1) _ _ (λ rest is.
      header_is (rest_dropped 2 text) read (rest_byte 93 x.1 rest is)
      (omega (arith, byte_shorter 93 x.1 rest refl is, rest_within read.left, rest_within (rest_dropped 2 text))) (λ last. last)))))
      (λ _. alike_if (first text == 91) _ _ _ _
      (λ opens. alike_map _ _ (header_read (drop 1 text) (rest_on from (rest_dropped 1 text))) (λ x y _ _ read. rw read.rest_same
      (header_is (rest_dropped 1 text) read (rest_itself x.1) (omega (arith, drop_shorter 91 text refl opens, rest_within read.left)) (λ last. last))))
      (λ _. alike_map _ _ (pair_read whole (value_tree 80) (val 80) (value_read whole 80 (omega arith)) text from) (λ x y _ _ read. read)))

  -- one that has its line to itself
  pub line_read : (text : List ℕ) → IsRest whole text → Alike (ReadStatement whole text) (statement_line text) (line text)
  unfolding statement_line line
  line_read text from = alike_then _ _ (statement_read text from) (λ x y _ _ read.
      let same : ends_line (skip_ws y.1) ≡ ends_line (skip_ws x.1) = ap (λ (rest : List ℕ). ends_line (skip_ws rest)) read.rest_same in
      rw same (alike_if (ends_line (skip_ws x.1)) _ _ _ _ (λ _. either x y refl refl read) (λ _. neither refl refl)))

-- ---- documents

module _ (text : List ℕ) where
  -- how `toml` came as far as a walk
  pub record Simulated (walk : Walk) (rest : List ℕ) : Type 0 where
    pub document : Document
    pub stands : WalkStands text walk document
    pub from : IsRest text rest
    pub fuel : ℕ
    pub enough : length rest < fuel
    pub same : lines (suc (length text)) (no_nodes, []) (skip_bom text) ≡ lines fuel document rest

  -- it came as far
  pub simulated : (walk : Walk) (rest : List ℕ) → Walks text walk rest → Simulated walk rest
  simulated walk rest begin = record {
    document = (no_nodes, []);
    stands = record { root = tt; section = refl; parts = tt };
    from = rest_mark text;
    fuel = suc (length text);
    enough = omega (arith, rest_within (rest_mark text));
    same = refl;
  }
  simulated walk rest (go_on earlier next before after s walks reads grows) =
      let sim = simulated earlier before walks in
      let start = skip_blank before in
      let (e, is, read) = alike_first (line_read text start (rest_on sim.from (rest_blank before))) (s, rest) reads in
      let (later, grows_there, stands) = alike_first (walk_grows text earlier sim.document s.0 s.1 e.0.1 sim.stands read.before read.defines) walk grows in
      let read_there : line start ≡ Some (e.0, rest) = is ∙ ap (λ (u : List ℕ). Some (e.0, u)) read.rest_same in
      let defined : define sim.document e.0 ≡ Some later = ap (λ (k : Key). define sim.document (k, e.0.1)) read.key_same ∙ grows_there in
      let blank : length start ≤ length before = rest_within (rest_blank before) in
      let shorter : length rest < length start = read.shorter in
      let enough : length before < sim.fuel = sim.enough in
      record {
        document = later;
        stands = stands;
        from = rest_on (rest_on sim.from (rest_blank before)) read.left;
        fuel = sim.fuel - 1;
        enough = omega (arith, blank, shorter, enough);
        same = sim.same ∙ lines_more sim.fuel sim.document later before e.0 rest (omega (arith, enough)) (ne_eqb (length start) 0 (λ none. omega (arith, none, shorter))) read_there defined;
      }

  -- a walk up to the end of the text reads the document
  pub walk_reads : (walk : Walk) (rest : List ℕ) → Walks text walk rest → skip_blank rest ≡ [] → (nodes : Nodes) × (parse_document text ≡ Some (close nodes)) × AreBranches text walk.root nodes
  walk_reads walk rest walks over =
      let sim = simulated walk rest walks in
      let some : 0 < sim.fuel = omega (arith, sim.enough) in
      (sim.document.0, document_some text sim.document (sim.same ∙ lines_end sim.fuel sim.document rest some (ap length over)), sim.stands.root)

  -- what a walk can't go on from
  abbrev pub GoesNoFurther : Walk → List ℕ → Type 0
  GoesNoFurther walk rest = (statement_line (skip_blank rest) ≡ None)
      ⊎ ((s : Statement) × (after : List ℕ) × (statement_line (skip_blank rest) ≡ Some (s, after)) × (walk_on walk s.0 s.1 ≡ None))

  -- where a walk can't go on before the end of the text, the text is no document
  pub walk_refused : (walk : Walk) (rest : List ℕ) → Walks text walk rest → (length (skip_blank rest) == 0) ≡ false → GoesNoFurther walk rest → parse_document text ≡ None
  walk_refused walk rest walks more stops =
      let sim = simulated walk rest walks in
      let start = skip_blank rest in
      let some : 0 < sim.fuel = omega (arith, sim.enough) in
      let reads = line_read text start (rest_on sim.from (rest_blank rest)) in
      document_none text (sim.same ∙ elim stops [
        | inl none ↦ lines_bad sim.fuel sim.document rest some more (alike_none reads none)
        | inr refused ↦
            let (s, after, is, none) = refused in
            let (e, is_there, read) = alike_first reads (s, after) is in
            let bad = alike_none (walk_grows text walk sim.document s.0 s.1 e.0.1 sim.stands read.before read.defines) none in
            lines_refused sim.fuel sim.document rest e.0 e.1 some more is_there (ap (λ (k : Key). define sim.document (k, e.0.1)) read.key_same ∙ bad)
      ])
