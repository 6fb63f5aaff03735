-- The last header of a text, and the line of a place in its last part.
use Rattle.std.proofs.Common.{◌≡◌, ◌≢◌, ℕ, ◌+◌, ◌<◌, ◌≤◌, get_or, List, [], ◌∷◌, ◌++◌, IfSome, length, option_map, Option, Some, None, refl, ap, sym, ◌∙◌, arith, take, drop, take-append-drop, Bool, true, false}
use Rattle.std.specs.Prelude.{◌==◌, if◌then◌else◌}
use Rattle.std.specs.Borrow.{Bor}
use Rattle.std.specs.List.{AllByRecursion}
use Rattle.std.specs.Option.{option_or}
use Rattle.std.proofs.lemmas.Bool.{ne_eqb}
use Rattle.std.proofs.lemmas.List.{length-append}
use Rattle.std.proofs.lemmas.List.Elements.{All-from_get_or, recursion_from_All}
use Rattle.std.proofs.lemmas.List.Sums.{count_by-le-length}
use Rattle.toml_parser.specs.Lexical.{line_feed}
use Rattle.toml_spans.specs.Index.{IsSpanOf}
use Rattle.toml_spans.specs.Ranges.{Range}
use Rattle.toml_spans.specs.declared.place.Span.{Span}
use Rattle.nextest_config_lint.specs.Mistake.{header_at, is_header, last_header}

or_none : (x : Option (List ℕ)) → option_or x None ≡ x
or_none None = refl
or_none (Some x) = refl

or_in_turn : (x y z : Option (List ℕ)) → option_or (option_or x y) z ≡ option_or x (option_or y z)
or_in_turn None y z = refl
or_in_turn (Some x) y z = refl

-- no header begins within a line
past_line : (line rest : List ℕ) → AllByRecursion (λ byte. byte ≢ line_feed) line → last_header (line ++ rest) ≡ last_header rest
past_line [] rest h = refl
past_line (byte ∷ line) rest h = rw (ne_eqb byte line_feed h.0) (or_none (last_header (line ++ rest)) ∙ past_line line rest h.1)

pub one_line : (line : List ℕ) → AllByRecursion (λ byte. byte ≢ line_feed) line → last_header line ≡ None
one_line [] h = refl
one_line (byte ∷ line) h = rw (ne_eqb byte line_feed h.0) (or_none (last_header line) ∙ one_line line h.1)

-- no byte ends a line, said of each place and by recursion
pub in_line : (bs : List ℕ) → ((i : ℕ) → i < length bs → get_or bs i 0 ≢ line_feed) → AllByRecursion (λ byte. byte ≢ line_feed) bs
in_line bs h = recursion_from_All (λ byte. byte ≢ line_feed) bs (All-from_get_or (λ byte. byte ≢ line_feed) bs 0 h)

-- ---- line by line

-- the header that is found before a rest of the text is the last one there
pub record IsLastSoFar (front rest : List ℕ) (header : Option (Bor (List ℕ))) : Type 0 where
  pub found : last_header (line_feed ∷ front) ≡ option_or (last_header rest) (option_map (λ part. part.now) header)
  pub shorter : length rest ≤ length front
  pub within : IfSome (option_map (λ part. part.now) header) (λ part. length part ≤ length front)

within_either : (n : ℕ) (text : List ℕ) (is : Bool) (other : Option (List ℕ)) → length text ≤ n → IfSome other (λ it. length it ≤ n)
    → IfSome (option_or (if is then Some text else None) other) (λ it. length it ≤ n)
within_either n text true other h k = h
within_either n text false other h k = k

pub first_line : (front : List ℕ) (header : Option (Bor (List ℕ))) → option_map (λ part. part.now) header ≡ option_or (header_at front) None
    → IsLastSoFar front front header
first_line front header is = record {
  found = ap (option_or (last_header front)) (sym (or_none (header_at front)) ∙ sym is);
  shorter = omega arith;
  within = rw is (within_either (length front) front (is_header front) None (omega arith) tt);
}

pub next_line : (front line after : List ℕ) (header next : Option (Bor (List ℕ))) → AllByRecursion (λ byte. byte ≢ line_feed) line
    → IsLastSoFar front (line ++ (line_feed ∷ after)) header → option_map (λ part. part.now) next ≡ option_or (header_at after) (option_map (λ part. part.now) header)
    → IsLastSoFar front after next
next_line front line after header next none so is =
    let shorter : length after ≤ length front = omega (arith, so.shorter, length-append line (line_feed ∷ after)) in
    record {
      found = so.found ∙ ap (λ it. option_or it (option_map (λ part. part.now) header)) (past_line line (line_feed ∷ after) none)
          ∙ or_in_turn (last_header after) (header_at after) (option_map (λ part. part.now) header) ∙ ap (option_or (last_header after)) (sym is);
      shorter = shorter;
      within = rw is (within_either (length front) after (is_header after) (option_map (λ part. part.now) header) shorter so.within);
    }

-- of no more lines, the header that is found is the last one
pub no_more : (front rest : List ℕ) (header : Option (Bor (List ℕ))) → AllByRecursion (λ byte. byte ≢ line_feed) rest → IsLastSoFar front rest header
    → option_map (λ part. part.now) header ≡ last_header (line_feed ∷ front)
no_more front rest header none so = sym (so.found ∙ ap (λ it. option_or it (option_map (λ part. part.now) header)) (one_line rest none))

pub found_within : (front rest : List ℕ) (header : Option (Bor (List ℕ))) → IsLastSoFar front rest header → IfSome header (λ part. length part.now ≤ length front)
found_within front rest None so = tt
found_within front rest (Some part) so = so.within

-- ---- the line of a place

-- a place of a text stands on one of its lines
pub line_within : (part : List ℕ) (range : Option Range) (span : Option Span) → IsSpanOf part range span → IfSome span (λ it. it.begin.line ≤ length part + 1)
line_within part None span is = rw is tt
line_within part (Some range) span (places, is, stands) =
    let front = take range.0 part in
    let whole = ap length (take-append-drop range.0 part) in
    rw is (omega (arith, stands.begin.line_is, count_by-le-length (λ byte. byte == line_feed) front, length-append front (drop range.0 part), whole))
