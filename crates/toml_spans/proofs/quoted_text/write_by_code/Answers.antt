use Rattle.std.proofs.Common.{◌≡◌, ◌∙◌, ℕ, refl, List, [], ◌∷◌, ◌++◌, sym, ap, append_assoc}
use Rattle.std.proofs.lemmas.List.{flat_map_more}
use Rattle.std.specs.Char.{encode_utf8}
use Rattle.toml_spans.proofs.Styled.{styled_more}
use Rattle.toml_spans.proofs.quoted_text.write_by_code.Goals as goal

-- one more of the characters that come
one_more : (all yielded rest left : List ℕ) (c : ℕ) → all ≡ yielded ++ rest → rest ≡ c ∷ left → all ≡ (yielded ++ (c ∷ [])) ++ left
one_more all yielded rest left c is next = is ∙ ap (λ xs. yielded ++ xs) next ∙ sym (append_assoc yielded (c ∷ []) left)

pub loop-mark-preserved : goal.loop-mark-preserved
loop-mark-preserved g c = (
  λ flush. styled_more (c.loop-mark.invariant.0 flush) c.in_ok-write_char.ensures.styled refl
      (flat_map_more encode_utf8 [] c.loop-mark.yielded c.in-Some.mark),
  one_more _ c.loop-mark.yielded _ _ c.in-Some.mark c.loop-mark.invariant.1 c.in-Some.ensures.steps.1.0,
)
