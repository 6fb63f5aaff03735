-- What the files of a list say of experimental features.
use mathlib.Core.Logic.Iff as iff
use mathlib.Core.Logic.{⊎_map}
use Rattle.std.proofs.Common.{◌≡◌, ◌⊎◌, ◌↔◌, Bool, true, false, ◌||◌, List, [], ◌∷◌, ◌++◌, Contains, IsSome, IsTrue, is_some, Option, Some, None, inl, inr, refl, subst, sym, ◌∙◌, ⊎_elim}
use Rattle.std.proofs.lemmas.Bool.{true≢false}
use Rattle.std.proofs.lemmas.Map.Views.{tells_apart}
use Rattle.std.proofs.lemmas.Option.{same_Some}
use Rattle.std.specs.Ordering.{eq_by_cmp}
use Rattle.std.specs.Set.{is_member}
use Rattle.toml.specs.Data.{array, as_array, Data}
use Rattle.nextest_config_values.specs.Read.Fault.{Fault}
use Rattle.nextest_config_values.specs.Read.{FaultOrMemory}
use Rattle.nextest_config.proofs.Members.{member_iff}
use Rattle.nextest_config.proofs.SourceOrders.{copies_equal, derived_cmp, derived_exact}
use Rattle.nextest_config.specs.NextestVersion.{FeatureSetting, features_of_table, features_under}
use Rattle.nextest_config.specs.declared.nextest_version.edition.Edition.TheVariants.{ArrayAllowed, TableOnly}
use Rattle.nextest_config.specs.declared.nextest_version.experimental.ConfigExperimental.{ConfigExperimental}
use Rattle.nextest_config.specs.declared.nextest_version.experimental.ConfigExperimental.TheVariants.{SetupScripts, WrapperScripts}
use Rattle.nextest_config_lint.specs.Defined.{AreFeaturesOf, EnablesFeature, features_refused, HasExperimental, HasRefusedFeatures, ListFile, SomeOf}
use Rattle.nextest_config_lint.specs.declared.list_features.ListFeatures.{ListFeatures}
use Rattle.nextest_config_lint.proofs.DefinedNames.{some_left}

-- ---- answers for some of a list

pub never_true : IsTrue false ↔ ⊥
never_true = (λ yes. true≢false (sym yes), λ none. absurd none)

pub not_where : {P : Type 0} → (P → ⊥) → IsTrue false ↔ P
not_where none = (λ yes. absurd (true≢false (sym yes)), λ holds. absurd (none holds))

pub of_one : {A : Type 0} (P : A → Type 0) (x : A) (answer : Bool) → IsTrue answer ↔ P x → IsTrue answer ↔ SomeOf P (x ∷ [])
of_one P x answer is = (λ yes. inl (is.0 yes), ⊎_elim is.1 (λ none. absurd none))

some_right : {A : Type 0} (P : A → Type 0) (xs ys : List A) → SomeOf P ys → SomeOf P (xs ++ ys)
some_right P [] ys some = some
some_right P (x ∷ xs) ys some = inr (some_right P xs ys some)

some_of_both : {A : Type 0} (P : A → Type 0) (xs ys : List A) → SomeOf P (xs ++ ys) → SomeOf P xs ⊎ SomeOf P ys
some_of_both P [] ys some = inr some
some_of_both P (x ∷ xs) ys (inl here) = inl (inl here)
some_of_both P (x ∷ xs) ys (inr later) = ⊎_map (λ first. inr first) (λ last. last) (some_of_both P xs ys later)

-- one answer or another
one_or_other : (a b : Bool) (A B : Type 0) → IsTrue a ↔ A → IsTrue b ↔ B → IsTrue (a || b) ↔ (A ⊎ B)
one_or_other true b A B h k = (λ _. inl (h.0 refl), λ _. refl)
one_or_other false b A B h k = (λ yes. inr (k.0 yes), ⊎_elim (λ holds. absurd (true≢false (sym (h.1 holds)))) k.1)

pub some_or_others : {A : Type 0} (P : A → Type 0) (xs ys : List A) (a b : Bool) → IsTrue a ↔ SomeOf P xs → IsTrue b ↔ SomeOf P ys → IsTrue (a || b) ↔ SomeOf P (xs ++ ys)
some_or_others P xs ys a b h k =
    let both = one_or_other a b (SomeOf P xs) (SomeOf P ys) h k in
    (λ yes. ⊎_elim (some_left P xs ys) (some_right P xs ys) (both.0 yes), λ some. both.1 (some_of_both P xs ys some))

-- ---- one file

-- a file has one value of `experimental`
one_value : (file : ListFile) (value other : Data) → HasExperimental file value → HasExperimental file other → value ≡ other
one_value file value other has also = same_Some value other (sym has.1 ∙ also.1)

-- a file without it says nothing
pub none_said : (file : ListFile) (features : ListFeatures) → ((value : Data) → HasExperimental file value → ⊥) → AreFeaturesOf [] features → AreFeaturesOf (file ∷ []) features
none_said file features none of_none =
    let not_one : (P : ListFile → Type 0) (answer : Bool) → (P file → ⊥) → IsTrue answer ↔ ⊥ → IsTrue answer ↔ SomeOf P (file ∷ []) =
    λ P answer fails is. (λ yes. absurd (is.0 yes), ⊎_elim (λ holds. absurd (fails holds)) (λ never. absurd never)) in
    record {
      setup = not_one (EnablesFeature SetupScripts) features.setup_scripts (λ (value, named, has, means, there). none value has) of_none.setup;
      wrapper = not_one (EnablesFeature WrapperScripts) features.wrapper_scripts (λ (value, named, has, means, there). none value has) of_none.wrapper;
      refused = not_one (HasRefusedFeatures ArrayAllowed) features.refused (λ (value, fault, has, faults). none value has) of_none.refused;
      no_table = not_one (HasRefusedFeatures TableOnly) features.no_table (λ (value, fault, has, faults). none value has) of_none.no_table;
    }

-- a set has this feature
pub has_feature : (known : List ConfigExperimental) (feature : ConfigExperimental) → IsTrue (is_member (eq_by_cmp derived_cmp) known feature) ↔ Contains known feature
has_feature known feature = member_iff (eq_by_cmp derived_cmp) (λ x. copies_equal x x refl) (tells_apart derived_exact) feature known

-- the file enables a feature where its value names it
enables_named : (file : ListFile) (value : Data) (named : FeatureSetting) (feature : ConfigExperimental) → HasExperimental file value → (features_under ArrayAllowed).means value named
    → Contains named.features.known feature ↔ EnablesFeature feature file
enables_named file value named feature has means = (
  λ there. (value, named, has, means, there),
  λ (other, others, also, means_too, there).
      let same : others ≡ named = (features_under ArrayAllowed).law.one_meaning value others named (subst (λ (it : Data). (features_under ArrayAllowed).means it others) (one_value file other value also has) means_too) means in
      subst (λ (it : FeatureSetting). Contains it.features.known feature) same there,
)

-- a value that names features isn't refused where arrays are taken
not_refused : (file : ListFile) (value : Data) (named : FeatureSetting) → HasExperimental file value → (features_under ArrayAllowed).means value named → HasRefusedFeatures ArrayAllowed file → ⊥
not_refused file value named has means (other, fault, also, faults) =
    (features_under ArrayAllowed).law.never_both value named fault means (subst (λ (it : Data). (features_under ArrayAllowed).faults it fault) (one_value file other value also has) faults)

-- where tables alone are taken, a value is refused that is an array, or that is refused where both are
array_alone : (value : Data) (named : FeatureSetting) → (features_under ArrayAllowed).means value named → (fault : Fault) → (features_under TableOnly).faults value fault → IsTrue (is_some (as_array value))
array_alone (array items) named means fault faults = refl
array_alone value named means fault faults = absurd (features_of_table.law.never_both value named fault means faults)

array_refused : (value : Data) → IsTrue (is_some (as_array value)) → (fault : Fault) × (features_under TableOnly).faults value fault
array_refused (array items) is = (_, refl)
array_refused value is = absurd (true≢false (sym is))

both_refused : (value : Data) (fault : Fault) → (features_under ArrayAllowed).faults value fault → (other : Fault) × (features_under TableOnly).faults value other
both_refused (array items) fault faults = (_, refl)
both_refused value fault faults = (fault, faults)

array_iff : (file : ListFile) (value : Data) (named : FeatureSetting) → HasExperimental file value → (features_under ArrayAllowed).means value named
    → IsTrue (is_some (as_array value)) ↔ HasRefusedFeatures TableOnly file
array_iff file value named has means = (
  λ is. let refused = array_refused value is in (value, refused.0, has, refused.1),
  λ (other, fault, also, faults). array_alone value named means fault (subst (λ (it : Data). (features_under TableOnly).faults it fault) (one_value file other value also has) faults),
)

-- what a file says whose value names features
pub named_said : (file : ListFile) (value : Data) (named : FeatureSetting) (features : ListFeatures) → HasExperimental file value → (features_under ArrayAllowed).means value named
    → features.setup_scripts ≡ is_member (eq_by_cmp derived_cmp) named.features.known SetupScripts → features.wrapper_scripts ≡ is_member (eq_by_cmp derived_cmp) named.features.known WrapperScripts
    → features.refused ≡ false → features.no_table ≡ is_some (as_array value) → AreFeaturesOf (file ∷ []) features
named_said file value named features has means setup wrapper refused no_table = record {
  setup = of_one (EnablesFeature SetupScripts) file features.setup_scripts (rw setup (iff.trans (has_feature named.features.known SetupScripts) (enables_named file value named SetupScripts has means)));
  wrapper = of_one (EnablesFeature WrapperScripts) file features.wrapper_scripts (rw wrapper (iff.trans (has_feature named.features.known WrapperScripts) (enables_named file value named WrapperScripts has means)));
  refused = of_one (HasRefusedFeatures ArrayAllowed) file features.refused (rw refused (not_where (not_refused file value named has means)));
  no_table = of_one (HasRefusedFeatures TableOnly) file features.no_table (rw no_table (array_iff file value named has means));
}

-- a file whose value is refused enables nothing
not_enabled : (file : ListFile) (value : Data) (fault : Fault) (feature : ConfigExperimental) → HasExperimental file value → (features_under ArrayAllowed).faults value fault → EnablesFeature feature file → ⊥
not_enabled file value fault feature has faults (other, named, also, means, there) =
    (features_under ArrayAllowed).law.never_both value named fault (subst (λ (it : Data). (features_under ArrayAllowed).means it named) (one_value file other value also has) means) faults

-- what a file says whose value is refused
pub fault_said : (file : ListFile) (value : Data) (fault : Fault) → HasExperimental file value → (features_under ArrayAllowed).faults value fault → AreFeaturesOf (file ∷ []) features_refused
fault_said file value fault has faults = record {
  setup = of_one (EnablesFeature SetupScripts) file false (not_where (not_enabled file value fault SetupScripts has faults));
  wrapper = of_one (EnablesFeature WrapperScripts) file false (not_where (not_enabled file value fault WrapperScripts has faults));
  refused = of_one (HasRefusedFeatures ArrayAllowed) file true (λ _. (value, fault, has, faults), λ _. refl);
  no_table = of_one (HasRefusedFeatures TableOnly) file true (λ _. let also = both_refused value fault faults in (value, also.0, has, also.1), λ _. refl);
}

pub reported_said : (file : ListFile) (value : Data) (reported : Option Fault) (of_memory : Type 0) → IsSome reported → FaultOrMemory reported of_memory ((features_under ArrayAllowed).faults value)
    → HasExperimental file value → AreFeaturesOf (file ∷ []) features_refused
reported_said file value None of_memory some refused has = absurd (true≢false (sym some))
reported_said file value (Some fault) of_memory some refused has = fault_said file value fault has refused
