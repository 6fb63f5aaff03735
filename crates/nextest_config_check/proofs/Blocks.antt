-- Blocks of a text, each with its source.
use Rattle.std.proofs.Common.{◌≡◌, ℕ, ◌-◌, ◌<◌, List, [], ◌∷◌, ◌++◌, length, take, refl, sym, ap, ◌∙◌, subst, inl, inr, ◌⊎◌, append_assoc, append-nil, length-append, take_at, arith}
use Rattle.std.proofs.Math.Logic.{⊎_elim, ⊎_map, ⊎_swap}
use Rattle.toml_spans.specs.Line.{line_after}
use Rattle.nextest_config.specs.NextestVersion.Source.{Given}
use Rattle.nextest_config_check.specs.Layout.{line_feed, AreBlocks, AreSourcesBefore, IsEmptyOrEndsLine, IsBlock, IsBlockCut, IsFaultyBlock, IsFaultyLine}
use Rattle.nextest_config_check.proofs.Lines.{first_line_of_cut}

ends_line-append : (front text : List ℕ) → IsEmptyOrEndsLine front → IsEmptyOrEndsLine text → IsEmptyOrEndsLine (front ++ text)
ends_line-append front text ends_front (inl empty) = rw (empty, append-nil) ends_front
ends_line-append front text ends_front (inr ends) = inr (front ++ ends.0, cc (ends.1, append_assoc front ends.0 (line_feed ∷ [])))

pub ends_line_rest : (front text : List ℕ) → IsEmptyOrEndsLine (front ++ text) → IsEmptyOrEndsLine text
ends_line_rest [] text ends = ends
ends_line_rest (byte ∷ front) text (inl empty) = absurd (cc empty)
ends_line_rest (byte ∷ front) text (inr ([], e)) = ends_line_rest front text (inl (cc e))
ends_line_rest (byte ∷ front) text (inr (other ∷ before, e)) = ends_line_rest front text (inr (before, cc e))

blocks-append : (sources : List Given) (front block : List ℕ) (source : Given) → AreBlocks sources front → IsEmptyOrEndsLine front → IsBlock block source → AreBlocks (sources ++ (source ∷ [])) (front ++ block)
blocks-append [] front block source blocks ends is_block = (block, [], ap (λ l. l ++ block) blocks ∙ sym (append-nil block), is_block, inl refl, refl)
blocks-append (first ∷ sources) front block source (text, rest, whole, is_first, ended, blocks) ends is_block =
    let ends_rest = ends_line_rest text rest (rw whole at ends) in
    let ends_first : IsEmptyOrEndsLine text = ⊎_elim (λ empty. subst IsEmptyOrEndsLine (whole ∙ ap (λ l. text ++ l) empty ∙ append-nil text) ends) (λ ends_text. ends_text) ended in
    (text, rest ++ block, cc (whole, append_assoc text rest block), is_first, inr ends_first, blocks-append sources rest block source blocks ends_rest is_block)

-- what holds of the text before a rest that isn't empty
unless_empty : {P : Type 0} (rest : List ℕ) → 0 < length rest → P ⊎ (rest ≡ []) → P
unless_empty rest some = ⊎_elim (λ p. p) (λ empty. absurd (omega (arith, ap length empty)))

pub sources_before-push : (input rest block after : List ℕ) (sources : List Given) (source : Given) → AreSourcesBefore input sources rest → 0 < length rest → IsBlockCut rest block after → IsBlock block source → AreSourcesBefore input (sources ++ (source ∷ [])) after
sources_before-push input rest block after sources source before some cut is_block =
    let ends_front = unless_empty rest some before.ended in
    record {
      front = before.front ++ block;
      whole = cc (before.whole, cut.whole, append_assoc before.front block after);
      blocks = blocks-append sources before.front block source before.blocks ends_front is_block;
      ended = ⊎_swap (⊎_map (λ empty. empty) (λ next. ends_line-append before.front block ends_front next.0) cut.ended);
      owed = ⊎_swap (⊎_map (λ empty. empty) (λ next. inr next.1) cut.ended);
    }

pub faulty_line : (input rest block after : List ℕ) (sources : List Given) (number : ℕ) → AreSourcesBefore input sources rest → 0 < length rest → IsBlockCut rest block after → IsFaultyBlock block → number ≡ line_after (take (length input - length rest) input) → IsFaultyLine input number
faulty_line input rest block after sources number before some cut (line, below, is_first, faulty) counted =
    let first = first_line_of_cut rest block after line below cut (cut.some some) is_first in
    let left = length input - length rest in
    let before_rest = ap (take left) before.whole ∙ take_at before.front rest left (omega (arith, ap length before.whole, length-append before.front rest)) in
    record {
      front = before.front;
      rest = rest;
      line = line;
      more = first.0;
      sources = sources;
      whole = before.whole;
      some = some;
      blocks = before.blocks;
      first = first.1;
      faulty = faulty;
      ended = unless_empty rest some before.ended;
      owed = unless_empty rest some before.owed;
      counted = counted ∙ ap line_after before_rest;
    }
