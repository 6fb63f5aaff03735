-- The names in a set that was made of a list, or of two sets.
use Rattle.std.proofs.Common.{◌≡◌, ◌⊎◌, ◌↔◌, ℕ, Bool, true, false, List, [], ◌∷◌, Contains, IsTrue, ◌||◌, String, Global, inl, inr, map, refl, string_bytes, string_cmp, subst, sym, ◌∙◌, ⊎_elim}
use mathlib.Core.Logic.{⊎_map}
use Rattle.std.specs.BTreeSet.{BTreeSet, IsFromIterResult}
use Rattle.std.specs.Ordering.{eq_by_cmp}
use Rattle.std.specs.Set.{is_member, IsUnion}
use Rattle.nextest_config.specs.NextestVersion.SetLaws.{among_images, contains_cases, contains_first, contains_later, contains_none}
use Rattle.nextest_config_lint.specs.Defined.{SomeOf}
use Rattle.nextest_config_lint.proofs.DefinedNames.{has_iff}

-- some name is this one
pub some_name : (names : List (List ℕ)) (name : List ℕ) → SomeOf (λ other. other ≡ name) names ↔ Contains names name
some_name [] name = (λ none. absurd none, λ none. contains_none none)
some_name (first ∷ names) name = (
  ⊎_elim (contains_first names) (λ later. contains_later first names ((some_name names name).0 later)),
  λ there. ⊎_map (λ same. same) (λ later. (some_name names name).1 later) (contains_cases first names there),
)

abbrev texts_of : List (String Global) → List (List ℕ)
texts_of keys = map string_bytes keys

has_text : (keys : List (String Global)) (key : String Global) → IsTrue (is_member (eq_by_cmp string_cmp) keys key) ↔ Contains (texts_of keys) (string_bytes key)
has_text keys key = has_iff keys (string_bytes key) (is_member (eq_by_cmp string_cmp) keys key) refl

-- what holds of the text of each key holds of each text
of_text : (keys : List (String Global)) (P : List ℕ → Type 0) → ((key : String Global) → Contains (texts_of keys) (string_bytes key) → P (string_bytes key)) → (name : List ℕ) → Contains (texts_of keys) name → P name
of_text keys P holds name there =
    let (key, held, image) = (among_images string_bytes keys name).0 there in
    subst P image (holds key (subst (Contains (texts_of keys)) (sym image) there))

pub made_of : (keys : List (String Global)) (set : BTreeSet (String Global)) → IsFromIterResult string_cmp keys set → (name : List ℕ) → Contains (texts_of set.keys) name ↔ Contains (texts_of keys) name
made_of keys set made name = (
  of_text set.keys (Contains (texts_of keys)) (λ key there. (has_text keys key).0 (sym (made.0 key) ∙ (has_text set.keys key).1 there)) name,
  of_text keys (Contains (texts_of set.keys)) (λ key there. (has_text set.keys key).0 (made.0 key ∙ (has_text keys key).1 there)) name,
)

one_true : (a b : Bool) → IsTrue (a || b) → IsTrue a ⊎ IsTrue b
one_true true b e = inl refl
one_true false b e = inr e

first_true : (a b : Bool) → IsTrue a → IsTrue (a || b)
first_true true b e = refl
first_true false b e = absurd (cc e)

second_true : (a b : Bool) → IsTrue b → IsTrue (a || b)
second_true true b e = refl
second_true false b e = e

pub of_both : (keys others all : List (String Global)) → IsUnion (eq_by_cmp string_cmp) keys others all
    → (name : List ℕ) → Contains (texts_of all) name ↔ (Contains (texts_of keys) name ⊎ Contains (texts_of others) name)
of_both keys others all union name = (
  of_text all (λ text. Contains (texts_of keys) text ⊎ Contains (texts_of others) text)
      (λ key there. ⊎_map (has_text keys key).0 (has_text others key).0 (one_true _ _ (sym (union key) ∙ (has_text all key).1 there))) name,
  ⊎_elim
      (of_text keys (Contains (texts_of all)) (λ key there. (has_text all key).0 (union key ∙ first_true _ _ ((has_text keys key).1 there))) name)
      (of_text others (Contains (texts_of all)) (λ key there. (has_text all key).0 (union key ∙ second_true _ _ ((has_text others key).1 there))) name),
)
