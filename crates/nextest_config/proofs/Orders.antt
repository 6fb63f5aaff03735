-- The derived orders: of features that are joined, and of severities.
use Rattle.std.proofs.Common.{rules, ◌≡◌, ◌↔◌, ◌++◌, true, Contains, IsTrue, List, subst, nat_cmp}
use Rattle.std.proofs.lemmas.Map.Views.{tells_apart}
use Rattle.std.specs.Ordering.{eq_by_cmp}
use Rattle.std.specs.Set.{IsUnion}
use Rattle.nextest_config.specs.NextestVersion.{feature_cmp, one_at_a_place, has_feature, join_features, rank, seen_features}
use Rattle.nextest_config.specs.NextestVersion.ExperimentalConfig.{Experimental}
use Rattle.nextest_config.specs.contracts.nextest_version.verdict.SeverityOrd.TheImpl as severity_ord
use Rattle.nextest_config.specs.declared.nextest_version.verdict.Severity.{Severity}
use Rattle.nextest_config.specs.declared.nextest_version.experimental.ConfigExperimental.{ConfigExperimental}
use Rattle.nextest_config.proofs.Members.{member_iff}
use Rattle.nextest_config.proofs.SourceOrders.{by_place, derived_cmp}

-- where the known features are those of either side, and the rest stands in a row, the features are joined
pub seen_joined : (x y z : Experimental) → IsUnion (eq_by_cmp derived_cmp) x.known y.known z.known → z.unknown ≡ x.unknown ++ y.unknown → z.arrays ≡ x.arrays ++ y.arrays
    → seen_features z ≡ join_features (seen_features x) (seen_features y)
seen_joined x y z union unknown arrays =
    let known = subst (λ cmp. IsUnion (eq_by_cmp cmp) x.known y.known z.known) (λ i u v. by_place u v i) union in
    λ i. record { enables = λ feature. known feature i; unknown = unknown i; arrays = arrays i }

same_to_itself : (x : ConfigExperimental) → eq_by_cmp feature_cmp x x ≡ true
same_to_itself x = search rules

pub has_feature_iff : (feature : ConfigExperimental) (known : List ConfigExperimental) → IsTrue (has_feature known feature) ↔ Contains known feature
has_feature_iff = member_iff (eq_by_cmp feature_cmp) same_to_itself (tells_apart one_at_a_place)

-- ---- severities

pub by_rank : (a b : Severity) → (severity_ord.ghosts).cmp a b ≡ nat_cmp (rank a) (rank b)
by_rank a b = search rules
