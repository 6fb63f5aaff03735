-- What is meant by a text that writes a boolean or an integer.
use Rattle.std.proofs.Common.{◌≡◌, ◌∙◌, ℕ, ℤ, Bool, true, false, List, arith, ap, codes, if◌then◌else◌, inl, inr, refl, sym, subst, Option, Some, None}
use Rattle.std.proofs.lemmas.Str.Parse.{digit_from_value}
use Rattle.toml.specs.Data.{boolean, Data, integer}
use Rattle.nextest_config_values.specs.Literal.Value.{IsLiteral}
use Rattle.nextest_config.specs.declared.nextest_version.edition.Edition.{Edition}
use Rattle.nextest_config.specs.declared.nextest_version.edition.Edition.TheVariants.{ArrayAllowed, TableOnly}
use Rattle.nextest_config_elements.specs.MaxFail.{IsNumberText, number_parts, one_number}
use Rattle.nextest_config_elements.specs.declared.field.Shape.{Shape}
use Rattle.nextest_config_elements.specs.declared.field.Shape.TheVariants as shapes
use Rattle.nextest_config_lint.specs.Found.{Suggestion, the_toml}
use Rattle.nextest_config_lint.specs.Hints.Written.{IsHintIfTaken, IsSuggestedByText, IsWrittenHint, Writes}
use Rattle.nextest_config_lint.specs.Shapes.{shape_check}

no_number : (truth : Bool) (number : ℤ) → IsNumberText (if truth then codes "true" else codes "false") number → ⊥
no_number true number is = let range = digit_from_value 116 (number_parts (codes "true") number is).0.1.0 in omega (arith, range)
no_number false number is = let range = digit_from_value 102 (number_parts (codes "false") number is).0.1.0 in omega (arith, range)

one_boolean : (a b : Bool) → IsLiteral (boolean a) (if b then codes "true" else codes "false") → a ≡ b
one_boolean true true same = refl
one_boolean true false same = cc same
one_boolean false true same = cc same
one_boolean false false same = refl

one_written : (text : List ℕ) (a b : Data) → Writes text a → Writes text b → a ≡ b
one_written text (boolean a) (boolean b) h k = ap boolean (one_boolean a b (sym k ∙ h))
one_written text (boolean a) (integer n) h k = absurd (no_number a n (subst (λ it. IsNumberText it n) h k.0.0))
one_written text (integer m) (boolean b) h k = absurd (no_number b m (subst (λ it. IsNumberText it m) k h.0.0))
one_written text (integer m) (integer n) h k = ap integer (one_number text m n h.0.0 k.0.0)
one_written text (boolean a) b h k = absurd k
one_written text (integer m) b h k = absurd k
one_written text a b h k = absurd h

-- ---- and so it has one hint

one_literal : (text reported other : List ℕ) (value : Data) → Writes text value → IsLiteral value reported → IsLiteral value other → reported ≡ other
one_literal text reported other (boolean truth) writes h k = h ∙ sym k
one_literal text reported other (integer number) writes h k = h ∙ sym k
one_literal text reported other value writes h k = absurd writes

taken_once : (shape : Shape) (text : List ℕ) (value : Data) → Writes text value → (a b : Option Suggestion) → IsHintIfTaken shape value a → IsHintIfTaken shape value b → a ≡ b
taken_once shape text value writes None None h k = refl
taken_once shape text value writes None (Some suggestion) h k = absurd (h k.0)
taken_once shape text value writes (Some suggestion) None h k = absurd (k h.0)
taken_once shape text value writes (Some suggestion) (Some other) (takes, (reported, is, so)) (also, (reported_too, is_too, so_too)) =
    ap Some (so ∙ ap the_toml (one_literal text reported reported_too value writes is is_too) ∙ sym so_too)

pub written_once : (shape : Shape) (text : Option (List ℕ)) (a b : Option Suggestion) → IsWrittenHint shape text a → IsWrittenHint shape text b → a ≡ b
written_once shape None a b h k = h ∙ sym k
written_once shape (Some text) a b (inl (value, writes, meant)) (inl (other, also, meant_too)) =
    taken_once shape text value writes a b meant (subst (λ it. IsHintIfTaken shape it b) (one_written text other value also writes) meant_too)
written_once shape (Some text) a b (inl (value, writes, meant)) (inr (none, is)) = absurd (none value writes)
written_once shape (Some text) a b (inr (none, is)) (inl (value, writes, meant)) = absurd (none value writes)
written_once shape (Some text) a b (inr (none, is)) (inr (none_too, is_too)) = is ∙ sym is_too

-- ---- a hint is taken under each edition

taken_under : (edition : Edition) (shape : Shape) (text : List ℕ) (value : Data) → Writes text value → (shape_check ArrayAllowed shape).passes value → (shape_check edition shape).passes value
taken_under ArrayAllowed shape text value writes passes = passes
taken_under TableOnly shapes.Experimental text (boolean truth) writes passes = absurd passes.1
taken_under TableOnly shapes.Experimental text (integer number) writes passes = absurd passes.1
taken_under TableOnly shapes.Experimental text value writes passes = absurd writes
taken_under TableOnly shapes.FeatureName text value writes passes = tt
taken_under TableOnly shape text value writes passes = passes

pub hint_taken : (edition : Edition) (shape : Shape) (text : List ℕ) (suggestion : Suggestion) → IsSuggestedByText shape text (Some suggestion)
    → (value : Data) × Writes text value × (shape_check edition shape).passes value × ((reported : List ℕ) × IsLiteral value reported × (suggestion ≡ the_toml reported))
hint_taken edition shape text suggestion (inl (value, writes, (takes, reported))) = (value, writes, taken_under edition shape text value writes takes, reported)
hint_taken edition shape text suggestion (inr (none, is)) = cc is
