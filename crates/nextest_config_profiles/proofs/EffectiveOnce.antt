-- What a chain gives a setting is one thing.
use Rattle.std.proofs.Common.{◌≡◌, ℕ, List, [], ◌∷◌, ◌++◌, Option, Some, None, ap, drop, refl, sym, subst, ◌∙◌, inl, inr}
use Rattle.std.specs.List.{AllByRecursion}
use Rattle.toml.specs.Data.{Data}
use Rattle.toml_spans.proofs.Elements.{all_right}
use Rattle.nextest_config_values.specs.Read.{Reading}
use Rattle.nextest_config_profiles.specs.Alike.{AreAlike, given_by, given_value, TakesAlike}
use Rattle.nextest_config_profiles.specs.Effective.{IsEffective, IsGiven, IsGivenFirst, IsOf, IsRead, Passes}
use Rattle.nextest_config_profiles.specs.Merged.{HasNoValue, IsMergedOver, Layers}
use Rattle.nextest_config_profiles.specs.Said.{Path}
use Rattle.nextest_config_profiles.specs.declared.effective.Effective.{Effective}
use Rattle.nextest_config_profiles.specs.declared.effective.Effective.TheVariants as given
use Rattle.nextest_config_profiles.proofs.Alike.{alike_back, some_leaf}

-- values that the same layers come to have the same leaves
pub merged_alike : (layers : Layers) (path : Path) (v w : Data) → IsMergedOver layers path v → IsMergedOver layers path w → AreAlike v w
merged_alike layers path v w one other below value =
    let first = one below value in
    let second = other below value in
    (λ has. second.1 (first.0 has), λ has. first.1 (second.0 has))

-- where they come to a value, there is one
pub merged_or_none : (layers : Layers) (path : Path) (v : Data) → IsMergedOver layers path v → HasNoValue layers path → ⊥
merged_or_none layers path v merged none =
    let leaf = some_leaf v in
    let found = (merged leaf.0 leaf.1).0 leaf.2 in
    none leaf.0 found.0 leaf.1 found.1

-- the first of a list, or this
abbrev first_or : List ℕ → List (List ℕ) → List ℕ
first_or name [] = name
first_or name (first ∷ rest) = first

-- the first ones of which something doesn't hold are one
same_first : (P : List ℕ → Type 0) (b a c d : List (List ℕ)) (p q : List ℕ) → b ++ p ∷ a ≡ c ++ q ∷ d → AllByRecursion P b → AllByRecursion P c
    → (P p → ⊥) → (P q → ⊥) → p ≡ q
same_first P [] a [] d p q same x y no_p no_q = ap (first_or p) same
same_first P [] a (z ∷ c) d p q same x y no_p no_q = absurd (no_p (subst P (sym (ap (first_or p) same)) y.0))
same_first P (z ∷ b) a [] d p q same x y no_p no_q = absurd (no_q (subst P (ap (first_or z) same) x.0))
same_first P (z ∷ b) a (w ∷ c) d p q same x y no_p no_q = same_first P b a c d p q (ap (drop 1) same) x.1 y.1 no_p no_q

some_once : {Y : Type 0} (x y : Y) → Some x ≡ Some y → x ≡ y
some_once x y same = cc same

of_name : {X : Type 0} (a : Effective X) (name : List ℕ) → IsOf name a → given_by a ≡ Some name
of_name (given.Value profile x) name is = ap Some is
of_name (given.NotJudged profile) name is = ap Some is
of_name (given.Fault profile refused) name is = ap Some is
of_name given.Nothing name is = absurd is

module _ {X Y : Type 0} (seen : X → Y) (reading : Reading Data (Option Y)) (takes : TakesAlike reading) where
  -- what is given isn't of a value that means that there is none
  read_or_none : (v : Data) (a : Effective X) → IsRead seen reading v a → reading.means v None → ⊥
  read_or_none v (given.Value profile x) read none = cc (reading.law.one_meaning v (Some (seen x)) None read none)
  read_or_none v (given.NotJudged profile) read none = reading.law.never_both v None read.0 none read.1
  read_or_none v (given.Fault profile refused) read none = reading.law.never_both v None read.0 none read.2
  read_or_none v given.Nothing read none = read

  -- what is given of a value that means something
  value_given : (v : Data) (a : Effective X) (name : List ℕ) (y : Y) → IsRead seen reading v a → IsOf name a → reading.means v (Some y)
      → given_value seen a ≡ Some (name, y)
  value_given v (given.Value profile x) name y read is meant =
      ap (λ n. Some (n, seen x)) is ∙ ap (λ z. Some (name, z)) (some_once (seen x) y (reading.law.one_meaning v (Some (seen x)) (Some y) read meant))
  value_given v (given.NotJudged profile) name y read is meant = absurd (reading.law.never_both v (Some y) read.0 meant read.1)
  value_given v (given.Fault profile refused) name y read is meant = absurd (reading.law.never_both v (Some y) read.0 meant read.2)
  value_given v given.Nothing name y read is meant = absurd read

  -- what is given of values with the same leaves
  values_once : (v w : Data) (a b : Effective X) (name : List ℕ) → AreAlike v w → IsRead seen reading v a → IsOf name a → IsRead seen reading w b → IsOf name b
      → given_value seen a ≡ given_value seen b
  values_once v w (given.Value profile x) b name alike read is also too =
      ap (λ n. Some (n, seen x)) is ∙ sym (value_given w b name (seen x) also too (takes.means_alike v w alike (Some (seen x)) read))
  values_once v w a (given.Value profile y) name alike read is also too =
      value_given v a name (seen y) read is (takes.means_alike w v (alike_back v w alike) (Some (seen y)) also) ∙ sym (ap (λ n. Some (n, seen y)) too)
  values_once v w a b name alike read is also too = refl

  module _ (layers : Layers) (keys : Path) where
    abbrev Passed : List ℕ → Type 0
    Passed = Passes seen reading layers keys

    given_or_passed : (profile : List ℕ) (a : Effective X) → IsGiven seen reading layers keys profile a → Passed profile → ⊥
    given_or_passed profile a gives (inl none) = merged_or_none layers (profile ∷ keys) gives.value gives.merged none
    given_or_passed profile a gives (inr (value, merged, none)) =
        read_or_none gives.value a gives.read (takes.means_alike value gives.value (merged_alike layers (profile ∷ keys) value gives.value merged gives.merged) None none)

    abbrev Same : Effective X → Effective X → Type 0
    Same a b = (given_value seen a ≡ given_value seen b) × (given_by a ≡ given_by b)

    given_once : (profile : List ℕ) (a b : Effective X) → IsGiven seen reading layers keys profile a → IsGiven seen reading layers keys profile b → Same a b
    given_once profile a b one other = (
      values_once one.value other.value a b profile (merged_alike layers (profile ∷ keys) one.value other.value one.merged other.merged) one.read one.of_profile other.read other.of_profile,
      of_name a profile one.of_profile ∙ sym (of_name b profile other.of_profile),
    )

    first_or_all : (chain : List (List ℕ)) (a : Effective X) → IsGivenFirst seen reading layers keys chain a → AllByRecursion Passed chain → ⊥
    first_or_all chain a first all =
        given_or_passed first.profile a first.given (all_right Passed first.before (first.profile ∷ first.after) (subst (AllByRecursion Passed) first.whole all)).0

    pub effective_once : (chain : List (List ℕ)) (a b : Effective X) → IsEffective seen reading layers keys chain a → IsEffective seen reading layers keys chain b → Same a b
    effective_once chain a b (inl one) (inl other) =
        let same = same_first Passed one.before one.after other.before other.after one.profile other.profile (sym one.whole ∙ other.whole) one.passed other.passed
        (given_or_passed one.profile a one.given) (given_or_passed other.profile b other.given) in
        given_once one.profile a b one.given (subst (λ profile. IsGiven seen reading layers keys profile b) (sym same) other.given)
    effective_once chain a b (inl one) (inr none) = absurd (first_or_all chain a one none.0)
    effective_once chain a b (inr none) (inl other) = absurd (first_or_all chain b other none.0)
    effective_once chain a b (inr one) (inr other) = (
      ap (given_value seen) one.1 ∙ sym (ap (given_value seen) other.1),
      ap given_by one.1 ∙ sym (ap given_by other.1),
    )
