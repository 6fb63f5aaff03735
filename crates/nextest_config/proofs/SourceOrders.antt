-- The derived order of features, as sets of them have it.
use Rattle.std.proofs.Common.{◌≡◌, true, List, Ordering, sym, subst, ◌∙◌, rules}
use Rattle.std.proofs.lemmas.Map.Lookups.{CmpEqualImpliesEq}
use Rattle.std.specs.List.Sorted.{IsStrictlySortedBy}
use Rattle.std.specs.Ordering.{eq_by_cmp}
use Rattle.nextest_config.specs.NextestVersion.{feature_cmp, FeaturesInOrder, one_at_a_place}
use Rattle.nextest_config.specs.contracts.nextest_version.experimental.ConfigExperimentalOrd.TheImpl as feature_ord
use Rattle.nextest_config.specs.declared.nextest_version.experimental.ConfigExperimental.{ConfigExperimental}
use Rattle.nextest_config.proofs.Members.{in_order_by}

abbrev pub derived_cmp : ConfigExperimental → ConfigExperimental → Ordering
derived_cmp = (feature_ord.ghosts).cmp

pub by_place : (x y : ConfigExperimental) → derived_cmp x y ≡ feature_cmp x y
by_place x y = search rules

pub derived_exact : CmpEqualImpliesEq derived_cmp
derived_exact x y equal = one_at_a_place x y (sym (by_place x y) ∙ equal)

pub copies_equal : (x y : ConfigExperimental) → y ≡ x → eq_by_cmp derived_cmp x y ≡ true
copies_equal x y same = subst (λ z. eq_by_cmp derived_cmp x z ≡ true) (sym same) (search rules)

pub features_in_order : (keys : List ConfigExperimental) → IsStrictlySortedBy derived_cmp keys → FeaturesInOrder keys
features_in_order = in_order_by derived_cmp feature_cmp by_place
