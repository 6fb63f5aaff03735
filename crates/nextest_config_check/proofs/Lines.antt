-- Lines of a text: its first one, and where it is cut.
use Rattle.std.proofs.Common.{◌≡◌, ◌≢◌, ℕ, ◌+◌, ◌<◌, cond, List, [], ◌∷◌, ◌++◌, length, take, drop, get_or, Option, Some, None, MatchOption, unwrap_or, refl, sym, ap, ◌∙◌, subst, inl, inr, append_assoc, append-nil, length-append, take-append-drop, add-zero, arith, Bor}
use Rattle.std.specs.List.{AllByRecursion}
use Rattle.std.specs.Str.Pattern.{FindsText}
use Rattle.std.proofs.Math.Logic.{⊎_elim}
use Rattle.std.proofs.lemmas.Bool.{ne_eqb}
use Rattle.std.proofs.lemmas.Grind.{get_or_default_zero}
use Rattle.std.proofs.lemmas.List.{take_more, length-take, length-drop, drop-drop, get_or-drop}
use Rattle.std.proofs.lemmas.List.Elements.{recursion_from_All}
use Rattle.std.proofs.lemmas.List.Prefix.{front_fits, front_rest}
use Rattle.toml_spans.proofs.Elements.{all_right}
use Rattle.nextest_config_check.specs.Layout.{line_feed, carriage_return, mark, trimmed, IsEmptyOrEndsLine, IsInLine, IsFirstLine, IsLastLine, HasNoMarkedLine, HasNoMarkedLineBelow, IsBlockCut}

pub in_line_from_reads : (text : List ℕ) → ((i : ℕ) → i < length text → get_or text i 0 ≢ line_feed) → AllByRecursion IsInLine text
in_line_from_reads text reads = recursion_from_All IsInLine text (λ i byte within e. reads i within (sym (get_or_default_zero text i byte within) ∙ e))

pub not_in_line : (front rest : List ℕ) → AllByRecursion IsInLine (front ++ (line_feed ∷ rest)) → ⊥
not_in_line front rest one_line = (all_right IsInLine front (line_feed ∷ rest) one_line).0 refl

trimmed-push : (line : List ℕ) → trimmed (line ++ (carriage_return ∷ [])) ≡ line
trimmed-push [] = refl
trimmed-push (byte ∷ []) = refl
trimmed-push (byte ∷ next ∷ rest) = ap (λ l. byte ∷ l) (trimmed-push (next ∷ rest))

trimmed_same : (line : List ℕ) → ((front : List ℕ) → line ≢ front ++ (carriage_return ∷ [])) → trimmed line ≡ line
trimmed_same [] untrimmed = refl
trimmed_same (byte ∷ []) untrimmed = ap (λ b. cond b [] (byte ∷ [])) (ne_eqb byte carriage_return (λ e. untrimmed [] (ap (λ b. b ∷ []) e)))
trimmed_same (byte ∷ next ∷ rest) untrimmed = ap (λ l. byte ∷ l) (trimmed_same (next ∷ rest) (λ front e. untrimmed (byte ∷ front) (ap (λ l. byte ∷ l) e)))

pub trimmed_from_strip : (line : Bor (List ℕ)) (stripped : Option (Bor (List ℕ))) → MatchOption stripped ((front : List ℕ) → line.now ≢ front ++ (carriage_return ∷ [])) (λ front. line.now ≡ front.now ++ (carriage_return ∷ [])) → (unwrap_or stripped line).now ≡ trimmed line.now
trimmed_from_strip line None untrimmed = sym (trimmed_same line.now untrimmed)
trimmed_from_strip line (Some front) whole = sym (ap trimmed whole ∙ trimmed-push front.now)

pub unmarked_below_first : (text line contents : List ℕ) → IsFirstLine text line contents → HasNoMarkedLineBelow text → HasNoMarkedLine contents
unmarked_below_first text line contents (inl ended) unmarked front rest is_front (inl empty) = unmarked ended.bytes rest (cc (ended.whole, is_front, empty))
unmarked_below_first text line contents (inl ended) unmarked front rest is_front (inr ends) =
    let joined = append_assoc ended.bytes (line_feed ∷ ends.0) (line_feed ∷ (mark ++ rest)) in
    unmarked (ended.bytes ++ (line_feed ∷ ends.0)) rest (cc (ended.whole, is_front, ends.1, append_assoc ends.0 (line_feed ∷ []) (mark ++ rest), joined))
unmarked_below_first text line contents (inr last) unmarked front rest is_front ends =
    absurd (omega (arith, ap length (sym last.no_rest ∙ is_front), length-append front (mark ++ rest)))

last_ends : (text line rest : List ℕ) → IsLastLine text line rest → 0 < length text → ¬ IsEmptyOrEndsLine text
last_ends text line rest last some (inl empty) = omega (arith, ap length empty)
last_ends text line rest last some (inr ends) = not_in_line ends.0 [] (subst (AllByRecursion IsInLine) ends.1 last.one_line)

-- the first line of a block is that of the text from which the block is cut
pub first_line_of_cut : (text block rest line more : List ℕ) → IsBlockCut text block rest → 0 < length block → IsFirstLine block line more → (after : List ℕ) × IsFirstLine text line after
first_line_of_cut text block rest line more cut some (inl ended) =
    let whole : text ≡ ended.bytes ++ (line_feed ∷ (more ++ rest)) = cc (cut.whole, ended.whole, append_assoc ended.bytes (line_feed ∷ more) rest) in
    (more ++ rest, inl (record { bytes = ended.bytes; whole = whole; one_line = ended.one_line; line_is = ended.line_is }))
first_line_of_cut text block rest line more cut some (inr last) =
    let same : rest ≡ [] → block ≡ text = λ empty. cc (cut.whole, empty, append-nil block) in
    (more, ⊎_elim (λ empty. subst (λ t. IsFirstLine t line more) (same empty) (inr last)) (λ ends. absurd (last_ends block line more last some ends.0)) cut.ended)

abbrev next_mark : List ℕ
next_mark = line_feed ∷ mark

pub cut_nowhere : (text : List ℕ) → FindsText next_mark text None → IsBlockCut text text []
cut_nowhere text lacks =
    let unmarked : HasNoMarkedLineBelow text = λ front rest e. lacks (length front) (front_fits text front (next_mark ++ rest) e) rest (front_rest text front (next_mark ++ rest) e) in
    record { whole = sym (append-nil text); some = λ some. some; ended = inl refl; unmarked = unmarked }

pub cut_at : (text : List ℕ) (at end : ℕ) → FindsText next_mark text (Some (at, end)) → IsBlockCut text (take (at + 1) text) (drop (at + 1) text)
cut_at text at end finds =
    let within : at < length text = omega (arith, ap length finds.1.split, length-drop at text, length-append next_mark (drop end text)) in
    let feed : get_or text at 0 ≡ line_feed = rw (sym (add-zero at)) (sym (get_or-drop at text 0 0) ∙ ap (λ l. get_or l 0 0) finds.1.split) in
    record {
      whole = sym (take-append-drop (at + 1) text);
      some = λ some. omega (arith, length-take (at + 1) text);
      ended = inr (inr (take at text, take_more text at 0 within ∙ ap (λ b. take at text ++ (b ∷ [])) feed), (drop end text, sym (drop-drop 1 at text) ∙ ap (drop 1) finds.1.split));
      unmarked = λ front rest e.
          let more = rest ++ drop (at + 1) text in
          let whole : text ≡ front ++ (next_mark ++ more) = cc (e, take-append-drop (at + 1) text, append_assoc front (next_mark ++ rest) (drop (at + 1) text)) in
          let below : length front < at = omega (arith, ap length e, length-append front (next_mark ++ rest), length-take (at + 1) text) in
          finds.0 (length front) below more (front_rest text front (next_mark ++ more) whole);
    }
