-- Bare keys.
use Rattle.std.proofs.Common.{◌≡◌, ℕ, ◌<◌, false, List, [], ◌∷◌, None, Some, refl, inl, inr, arith, rules}
use Rattle.std.proofs.lemmas.Bool.{cases_Bool}
use Rattle.std.specs.List.{prefix_len}
use Rattle.toml_parser.specs.Lexical.{is_bare, split_while}
use Rattle.toml_parser.specs.Strings.{simple_key, starts_string}

-- no byte of a bare key, no key
pub bare_none : (text : List ℕ) → starts_string text ≡ false → prefix_len is_bare text ≡ 0 → simple_key text ≡ None
unfolding simple_key
bare_none [] begins none = refl
bare_none (c ∷ text) begins none =
    elim (cases_Bool (is_bare c)) [
      | inl is ↦ absurd (omega (arith, rw is at none))
      | inr other ↦ rw (begins, other) refl
    ]

-- a run of such bytes is a key
pub bare_some : (text : List ℕ) → starts_string text ≡ false → 0 < prefix_len is_bare text → simple_key text ≡ Some (split_while is_bare text)
unfolding simple_key
bare_some text begins some = search rules
