-- The join of two paths, by the toolchain's words and by ours.
use Rattle.std.proofs.Common.{◌≡◌, ℕ, ◌-◌, false, List, [], ◌∷◌, ◌++◌, length, reverse, slice_index, refl, sym, ap, ◌∙◌, inl, inr, append_assoc, append-nil, arith, rules}
use Rattle.std.proofs.lemmas.Bool.{cases_Bool, ne_eqb}
use Rattle.std.proofs.lemmas.List.{get_or-reverse}
use Rattle.std.specs.Path.{path_join, with_separator}
use Rattle.std.specs.Prelude.{◌==◌}
use Rattle.toml_spans.specs.Characters.{slash}
use Rattle.nextest_config_values.specs.Helpers.Paths.{begins_with_slash, joined_path, separator}

-- ---- the join of two paths

begins : (path : List ℕ) → (slice_index path 0 == slash) ≡ begins_with_slash path
begins path = search rules

separated : (first : List ℕ) → with_separator first ≡ first ++ separator first
separated [] = refl
separated (b ∷ rest) =
    let path = b ∷ rest in
    let at_end : length path - 1 - 0 ≡ length path - 1 = omega arith in
    let last : begins_with_slash (reverse path) ≡ (slice_index path (length path - 1) == slash) = sym (begins (reverse path)) ∙ ap (λ x. x == slash) (get_or-reverse path 0 0 (omega arith) ∙ ap (slice_index path) at_end) in
    let some : (length path == 0) ≡ false = ne_eqb (length path) 0 (λ e. omega (arith, e)) in
    elim (cases_Bool (begins_with_slash (reverse path))) [
      | inl slashed ↦ rw (some, sym last ∙ slashed, slashed) (sym (append-nil path))
      | inr other ↦ rw (some, sym last ∙ other, other) refl
    ]

-- a path is joined by the toolchain's words as by ours
pub joins : (first second : List ℕ) → path_join first second ≡ joined_path first second
unfolding path_join
joins first second = elim (cases_Bool (begins_with_slash second)) [
  | inl slashed ↦ rw (begins second ∙ slashed, slashed) refl
  | inr other ↦ rw (begins second ∙ other, other) (ap (λ front. front ++ second) (separated first) ∙ append_assoc first (separator first) second)
]
