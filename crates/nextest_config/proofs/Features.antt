-- The features that environment variables enable.
use Rattle.std.proofs.Common.{◌≡◌, ◌↔◌, ◌++◌, ℕ, Bool, false, List, [], ◌∷◌, Contains, Some, None, String, BTreeMap, Global, IsTrue, codes, string_bytes, option_map, refl, sym, ap, subst, ◌∙◌, nat_eq, append_assoc, arith, rules}
use Rattle.std.proofs.lemmas.List.{append-nil}
use Rattle.std.proofs.lemmas.Option.{none-some, same_Some}
use Rattle.std.specs.BTreeMap.{get_by_text}
use Rattle.std.specs.Cmp.Lexicographic.{pointwise}
use Rattle.nextest_config.specs.NextestVersion.{all_features, IsEnabled, variable_of}
use Rattle.nextest_config.proofs.Members.{AreThoseOf}
use Rattle.nextest_config.specs.declared.nextest_version.experimental.ConfigExperimental.{ConfigExperimental}
use Rattle.nextest_config.specs.declared.nextest_version.experimental.ConfigExperimental.TheVariants as features

-- what the feature's variable says
module _ (variables : BTreeMap (String Global) (String Global)) (feature : ConfigExperimental) (name : List ℕ) (named : variable_of feature ≡ Some name) where
  value_said : IsEnabled variables feature → option_map string_bytes (get_by_text variables name) ≡ Some (codes "1")
  value_said (other, other_named, value) = subst (λ n. option_map string_bytes (get_by_text variables n) ≡ Some (codes "1")) (same_Some other name (sym other_named ∙ named)) value

  pub set_to : (value : String Global) (told : Bool) → get_by_text variables name ≡ Some value → told ≡ pointwise nat_eq (string_bytes value) (codes "1") → IsTrue told ↔ IsEnabled variables feature
  set_to h0 told found tested = search rules

  pub not_set : get_by_text variables name ≡ None → IsTrue false ↔ IsEnabled variables feature
  not_set missing = (λ yes. cc yes, λ enabled. absurd (none-some (codes "1") (sym (ap (option_map string_bytes) missing) ∙ value_said enabled)))

pub among_all_features : (feature : ConfigExperimental) → Contains all_features feature
among_all_features features.SetupScripts = (0, omega arith, refl)
among_all_features features.WrapperScripts = (1, omega arith, refl)
among_all_features features.Benchmarks = (2, omega arith, refl)

-- one more of the features comes from the iterator
pub goes_on : (so_far left after : List ConfigExperimental) (feature : ConfigExperimental) → all_features ≡ so_far ++ left → left ≡ feature ∷ after → all_features ≡ (so_far ++ feature ∷ []) ++ after
goes_on so_far left after feature whole step = whole ∙ ap (λ rest. so_far ++ rest) step ∙ sym (append_assoc so_far (feature ∷ []) after)

-- after the last of the features, those that hold this are all that do
pub those_of_all : (Holds : ConfigExperimental → Type 0) (so_far left keys : List ConfigExperimental) → all_features ≡ so_far ++ left → left ≡ []
    → AreThoseOf Holds so_far keys → (feature : ConfigExperimental) → Contains keys feature ↔ Holds feature
those_of_all Holds so_far left keys whole ended those feature =
    let all : all_features ≡ so_far = whole ∙ ap (λ rest. so_far ++ rest) ended ∙ append-nil so_far in
    (λ h. ((those feature).0 h).1, λ holds. (those feature).1 (subst (λ xs. Contains xs feature) all (among_all_features feature), holds))
