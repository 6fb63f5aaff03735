-- Where a fault of a text stands at bytes of its own, these are the text's.
use Rattle.std.proofs.Common.{◌≡◌, ℕ, ◌+◌, ◌-◌, ◌≤◌, ◌&&◌, Bool, true, false, List, [], ◌∷◌, ◌++◌, length, take, drop, Option, Some, None, option_and_then, if◌then◌else◌, refl, subst, sym, ap, ◌∙◌, arith, append_assoc, length-append, length-drop, take-append-drop, eqb-true, leb-true}
use Rattle.std.proofs.lemmas.List.{length-take-le}
use Rattle.std.proofs.lemmas.Option.{none-some, same_Some}
use Rattle.std.specs.Cmp.Lexicographic.{same_text}
use Rattle.toml_spans.specs.Ranges.{IsAt, Range, Ranges}
use Rattle.toml_spans.specs.Step.{PathStep}
use Rattle.nextest_config_filters.specs.Fault.{Fault as TextFault}
use Rattle.nextest_config_lint.specs.TextRange.{bytes_at, is_plain, lies_in, opening_of, plain_range, quotes_of, range_behind, range_in_string, text_at}

-- what a fault tells of a text
abbrev reported_by : TextFault → List ℕ → List ℕ
reported_by fault text = take (fault.end - fault.begin) (drop fault.begin text)

-- both are so
both : (p q : Bool) → (p && q) ≡ true → (p ≡ true) × (q ≡ true)
both true true is = (refl, refl)
both true false is = absurd (cc is)
both false q is = absurd (cc is)

module _ (contents before text behind : List ℕ) (b e : ℕ) (whole : contents ≡ before ++ (text ++ behind)) (in_order : b ≤ e) (fits : e ≤ length text) where
  abbrev first : List ℕ
  first = take b text

  abbrev reported : List ℕ
  reported = take (e - b) (drop b text)

  abbrev rest : List ℕ
  rest = drop (e - b) (drop b text)

  first_size : length first ≡ b
  first_size = length-take-le b text (omega (arith, in_order, fits))

  reported_size : length reported ≡ e - b
  reported_size = length-take-le (e - b) (drop b text) (omega (arith, length-drop b text, in_order, fits))

  joined : first ++ (reported ++ rest) ≡ text
  joined = ap (λ it. first ++ it) (take-append-drop (e - b) (drop b text)) ∙ take-append-drop b text

  in_parts : before ++ ((first ++ (reported ++ rest)) ++ behind) ≡ (before ++ first) ++ (reported ++ (rest ++ behind))
  in_parts = cc (append_assoc first (reported ++ rest) behind, append_assoc reported rest behind, append_assoc before first (reported ++ (rest ++ behind)))

  -- what stands in a text that stands in another
  pub inside : IsAt contents (length before + b, length before + e) reported
  inside = record {
    before = before ++ first;
    behind = rest ++ behind;
    whole = whole ∙ ap (λ it. before ++ (it ++ behind)) (sym joined) ∙ in_parts;
    begins = omega (arith, length-append before first, first_size);
    ends = omega (arith, length-append (before ++ first) reported, length-append before first, first_size, reported_size, in_order);
  }

-- ---- of a string

module _ (contents text : List ℕ) (value : Range) where
  abbrev written : List ℕ
  written = bytes_at contents value

  -- the text stands in what is written, and that in the file
  record StandsPlain : Type 0 where
    before : List ℕ
    behind : List ℕ
    whole : contents ≡ before ++ (text ++ behind)
    begins : length before ≡ value.0 + opening_of written

  stands : (text_size : length written ≡ opening_of written + (length text + quotes_of written)) → take (length text) (drop (opening_of written) written) ≡ text
      → 1 ≤ length text → StandsPlain
  stands size same some =
      let opening = opening_of written in
      let long : 1 ≤ length (drop value.0 contents) = omega (arith, size, some, length-take-most (value.1 - value.0) (drop value.0 contents)) in
      let front_size : length (take value.0 contents) ≡ value.0 = length-take-le value.0 contents (omega (arith, long, length-drop value.0 contents)) in
      let opening_size : length (take opening written) ≡ opening = length-take-le opening written (omega (arith, size)) in
      let after = drop (length text) (drop opening written) in
      let behind = drop (value.1 - value.0) (drop value.0 contents) in
      let in_written : written ≡ take opening written ++ (text ++ after) = sym (take-append-drop opening written)
      ∙ ap (λ it. take opening written ++ it) (sym (take-append-drop (length text) (drop opening written)) ∙ ap (λ it. it ++ after) same) in
      let in_contents : contents ≡ take value.0 contents ++ (written ++ behind) = sym (take-append-drop value.0 contents)
      ∙ ap (λ it. take value.0 contents ++ it) (sym (take-append-drop (value.1 - value.0) (drop value.0 contents))) in
      record {
        before = take value.0 contents ++ take opening written;
        behind = after ++ behind;
        whole = in_contents ∙ ap (λ it. take value.0 contents ++ (it ++ behind)) in_written
            ∙ cc (append_assoc (take opening written) (text ++ after) behind, append_assoc text after behind, append_assoc (take value.0 contents) (take opening written) (text ++ (after ++ behind)));
        begins = omega (arith, length-append (take value.0 contents) (take opening written), front_size, opening_size);
      }
    where
      length-take-most : (n : ℕ) (xs : List ℕ) → length (take n xs) ≤ length xs
      length-take-most n xs = omega (arith, ap length (take-append-drop n xs), length-append (take n xs) (drop n xs))

plain_stands : (contents text : List ℕ) (value : Range) → is_plain (bytes_at contents value) text ≡ true → StandsPlain contents text value
plain_stands contents [] value plain = absurd (cc plain)
plain_stands contents (b ∷ text) value plain =
    let (size, same) = both _ _ plain in
    stands contents (b ∷ text) value (eqb-true _ _ size) (same_text _ _ (sym same)) (omega arith)

string_reported : (contents text : List ℕ) (fault : TextFault) (value range : Range) (plain : Bool) → is_plain (bytes_at contents value) text && lies_in text fault ≡ plain
    → (if plain then Some (range_behind (value.0 + opening_of (bytes_at contents value)) fault) else None) ≡ Some range → IsAt contents range (reported_by fault text)
string_reported contents text fault value range false so is = absurd (none-some range is)
string_reported contents text fault value range true so is =
    let (plain, within) = both _ _ so in
    let (in_order, fits) = both _ _ within in
    let there = plain_stands contents text value plain in
    let at : IsAt contents (length there.before + fault.begin, length there.before + fault.end) (reported_by fault text) =
    inside contents there.before text there.behind fault.begin fault.end there.whole (leb-true _ _ in_order) (leb-true _ _ fits) in
    subst (λ it. IsAt contents it (reported_by fault text)) (same_Some _ range is)
    (subst (λ size. IsAt contents (size + fault.begin, size + fault.end) (reported_by fault text)) there.begins at)

-- ---- of what a path leads to

-- the file has there what the fault tells of the text
abbrev pub IsReportedOf : List ℕ → Option (List ℕ) → TextFault → Range → Type 0
IsReportedOf contents found fault range = (text : List ℕ) × (found ≡ Some text) × IsAt contents range (reported_by fault text)

reported_of : (contents : List ℕ) (found : Option (List ℕ)) (value : Option Range) (fault : TextFault) (range : Range)
    → option_and_then (λ text. option_and_then (range_in_string contents text fault) value) found ≡ Some range → IsReportedOf contents found fault range
reported_of contents None value fault range is = absurd (none-some range is)
reported_of contents (Some text) None fault range is = absurd (none-some range is)
reported_of contents (Some text) (Some value) fault range is = (text, refl, string_reported contents text fault value range _ refl is)

pub plain_reported : (contents : List ℕ) (ranges : Ranges) (path : List PathStep) (fault : TextFault) (range : Range) → plain_range contents ranges path fault ≡ Some range
    → IsReportedOf contents (text_at contents path) fault range
plain_reported contents ranges path fault range is = reported_of contents (text_at contents path) (ranges.of_value path) fault range is
