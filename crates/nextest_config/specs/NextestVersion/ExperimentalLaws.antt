-- The setting `experimental`, with its laws.
use mathlib.Core.Logic.Iff as iff
use Rattle.std.specs.Prelude.{◌≡◌, ◌≢◌, ◌↔◌, ◌⊎◌, ◌<◌, ℕ, zero, suc, Bool, true, false, List, [], ◌∷◌, Contains, codes, Option, Some, None, IsSome, IsTrue}
use Rattle.std.proofs.Common.{Less, Equal, Greater, lit<, sym, ap, ap₂, subst, ◌∙◌, ⊎_elim, inl, inr, refl, rules, arith}
use Rattle.std.proofs.lemmas.Bool.{cases_order, false≢true}
use Rattle.std.proofs.lemmas.Cmp.{nat_list_cmp_total}
use Rattle.std.proofs.lemmas.Map.Lookups.{CmpEqualImpliesEq, btree_set_from_contains, exact_bytes, exact_unsigned}
use Rattle.std.proofs.lemmas.Map.Views.{btree_set_contains_iff}
use Rattle.std.specs.BTreeSet.{BTreeSet, contains}
use Rattle.std.specs.Cmp.{IsTotalOrder, nat_cmp_total, on_total}
use Rattle.std.specs.Cmp.Lexicographic.{slice_cmp}
use Rattle.std.specs.List.Sorted.{IsStrictlySortedBy}
use Rattle.std.specs.Ordering.{match_ordering, nat_cmp, ordering_reverse}
use Rattle.std.specs.declared.cmp.Ordering.{Ordering}
use Rattle.toml.specs.Data.{Data, Items, Members, item, member, no_items, no_members, as_array, as_str, as_table, get_item, get_member}
use Rattle.nextest_config_values.specs.Decisions.{IsDecided, not_decided, same_text_decided}
use Rattle.nextest_config_values.specs.Once.{HasMeaningOrFault}
use Rattle.nextest_config_values.specs.Read.Fault.{Fault, wrong_type}
use Rattle.nextest_config_values.specs.Read.{Always, array_form, broken_by, fault_below, in_memory, index, inner, kind, made_of, no_value, Reading, text_expected, then, wrong_kind}
use Rattle.nextest_config.specs.NextestVersion.Experimental.{FeaturesInOrder, IsUnknown, TextsInOrder, all_features, feature_cmp, place_among, word_of}
use Rattle.nextest_config.specs.NextestVersion.ExperimentalDeserialize.{AreNamed, FeatureArrayFaults, Features, FeatureSetting, IsAmong, IsTextAt, MeansFeatureArray, in_form, switch, text_in}
use Rattle.nextest_config.specs.NextestVersion.SetLaws.{contains_cases, contains_first, contains_later, contains_none, set_of}
use Rattle.nextest_config.specs.declared.nextest_version.edition.Edition.{Edition}
use Rattle.nextest_config.specs.declared.nextest_version.edition.Edition.TheVariants.{ArrayAllowed, TableOnly}
use Rattle.nextest_config.specs.declared.nextest_version.experimental.ConfigExperimental.{ConfigExperimental}
use Rattle.nextest_config.specs.declared.nextest_version.experimental.ConfigExperimental.TheVariants as features

-- ---- one set is written in order in one way

pub same_truth : (a b : Bool) → IsTrue a ↔ IsTrue b → a ≡ b
same_truth a b h = search rules

abbrev as_set : {X : Type 0} → List X → BTreeSet X
as_set xs = record { keys = xs }

one_in_order : {X : Type 0} (cmp : X → X → Ordering) → IsTotalOrder cmp → CmpEqualImpliesEq cmp
    → (xs ys : List X) → IsStrictlySortedBy cmp xs → IsStrictlySortedBy cmp ys
    → ((x : X) → Contains xs x ↔ Contains ys x) → xs ≡ ys
one_in_order {X} cmp total exact xs ys h k same =
    let has = btree_set_contains_iff total exact in
    let tells : (x : X) → contains cmp (as_set xs) x ≡ contains cmp (as_set ys) x =
    λ x. same_truth _ _ (iff.trans (has (as_set xs) x)
    (iff.trans (same x) (iff.symm (has (as_set ys) x)))) in
    btree_set_from_contains total (as_set xs) (as_set ys) h k tells exact

abbrev feature_at : ℕ → ConfigExperimental
feature_at zero = features.SetupScripts
feature_at (suc zero) = features.WrapperScripts
feature_at (suc (suc _)) = features.Benchmarks

at_its_place : (feature : ConfigExperimental) → feature_at (place_among feature) ≡ feature
at_its_place feature = search rules

pub one_at_a_place : CmpEqualImpliesEq feature_cmp
one_at_a_place x y equal =
    sym (at_its_place x) ∙ ap feature_at (exact_unsigned (place_among x) (place_among y) equal)
    ∙ at_its_place y

pub features_in_one_order : (xs ys : List ConfigExperimental) → FeaturesInOrder xs
    → FeaturesInOrder ys
    → ((feature : ConfigExperimental) → Contains xs feature ↔ Contains ys feature) → xs ≡ ys
features_in_one_order = one_in_order feature_cmp (on_total place_among nat_cmp_total) one_at_a_place

pub texts_in_one_order : (xs ys : List (List ℕ)) → TextsInOrder xs → TextsInOrder ys
    → ((text : List ℕ) → Contains xs text ↔ Contains ys text) → xs ≡ ys
texts_in_one_order = one_in_order (slice_cmp nat_cmp) nat_list_cmp_total exact_bytes

pub named_once : {IsEnabled : ConfigExperimental → Type 0} {StandsThere : List ℕ → Type 0}
    (a b : Features) → AreNamed IsEnabled StandsThere a → AreNamed IsEnabled StandsThere b → a ≡ b
named_once a b h k =
    ap₂ (λ (known : List ConfigExperimental) (unknown : List (List ℕ)). record
    { known = known; unknown = unknown })
    (features_in_one_order a.known b.known h.in_order.known_in_order k.in_order.known_in_order
    (λ feature. iff.trans (h.of_known feature) (iff.symm (k.of_known feature))))
    (texts_in_one_order a.unknown b.unknown h.in_order.unknown_in_order k.in_order.unknown_in_order
    (λ text. iff.trans (h.of_unknown text) (iff.symm (k.of_unknown text))))

-- ---- the names among texts, as sets in order

same_word_decided : (feature : ConfigExperimental) (text : List ℕ)
    → IsDecided (word_of feature ≢ text)
same_word_decided feature text = not_decided (same_text_decided (word_of feature) text)

unknown_by : (text : List ℕ) → IsDecided (word_of features.SetupScripts ≢ text)
    → IsDecided (word_of features.WrapperScripts ≢ text)
    → IsDecided (word_of features.Benchmarks ≢ text) → IsDecided (IsUnknown text)
unknown_by text (inr word) wrapper benchmarks = inr (λ none. word (none features.SetupScripts))
unknown_by text setup (inr word) benchmarks = inr (λ none. word (none features.WrapperScripts))
unknown_by text setup wrapper (inr word) = inr (λ none. word (none features.Benchmarks))
unknown_by text (inl setup) (inl wrapper) (inl benchmarks) =
    inl (unknown_of text setup wrapper benchmarks)
  where
    unknown_of : (text : List ℕ) → word_of features.SetupScripts ≢ text
        → word_of features.WrapperScripts ≢ text → word_of features.Benchmarks ≢ text
        → IsUnknown text
    unknown_of text setup wrapper benchmarks features.SetupScripts = setup
    unknown_of text setup wrapper benchmarks features.WrapperScripts = wrapper
    unknown_of text setup wrapper benchmarks features.Benchmarks = benchmarks

unknown_decided : (text : List ℕ) → IsDecided (IsUnknown text)
unknown_decided text = unknown_by text (same_word_decided features.SetupScripts text)
    (same_word_decided features.WrapperScripts text) (same_word_decided features.Benchmarks text)

is_a_feature : (feature : ConfigExperimental) → Contains all_features feature
is_a_feature features.SetupScripts = (0, lit< tt, refl)
is_a_feature features.WrapperScripts = (1, lit< tt, refl)
is_a_feature features.Benchmarks = (2, lit< tt, refl)

-- the features that are enabled and the unknown names among these texts
named_among : {IsEnabled : ConfigExperimental → Type 0} {StandsThere : List ℕ → Type 0}
    → ((feature : ConfigExperimental) → IsDecided (IsEnabled feature)) → (texts : List (List ℕ))
    → ((text : List ℕ) → Contains texts text ↔ StandsThere text)
    → (named : Features) × AreNamed IsEnabled StandsThere named
named_among {IsEnabled} {StandsThere} enabled texts there =
    let known = set_of feature_cmp (on_total place_among nat_cmp_total) one_at_a_place IsEnabled
    enabled all_features in
    let unknown = set_of (slice_cmp nat_cmp) nat_list_cmp_total exact_bytes IsUnknown
    unknown_decided texts in (
      record { known = known.0; unknown = unknown.0 },
      record {
        of_known = λ feature. (
          λ stands. ((known.1.members feature).0 stands).1,
          λ holds. (known.1.members feature).1 (is_a_feature feature, holds),
        );
        of_unknown = λ text. (
          λ stands. let (among, none) = (unknown.1.members text).0 stands in
              ((there text).0 among, none),
          λ (stands, none). (unknown.1.members text).1 ((there text).1 stands, none),
        );
        in_order = record {
          known_in_order = known.1.in_order;
          unknown_in_order = unknown.1.in_order;
        };
      },
    )

contains_decided : (texts : List (List ℕ)) (text : List ℕ) → IsDecided (Contains texts text)
contains_decided [] text = inr contains_none
contains_decided (first ∷ rest) text = elim (same_text_decided first text) [
  | inl same ↦ inl (contains_first rest same)
  | inr other ↦ elim (contains_decided rest text) [
    | inl later ↦ inl (contains_later first rest later)
    | inr none ↦ inr (λ there. ⊎_elim other none (contains_cases first rest there))
  ]
]

decided_by : {P Q : Type 0} → P ↔ Q → IsDecided P → IsDecided Q
decided_by same (inl p) = inl (same.0 p)
decided_by same (inr not_p) = inr (λ q. not_p (same.1 q))

-- ---- the array form

-- each item is a text, and these are the texts
pub record AreTexts (items : Items) (texts : List (List ℕ)) : Type 0 where
  pub of_texts : (place : ℕ) → IsSome (get_item place items) → IsTextAt items place
  pub members : (text : List ℕ) → Contains texts text ↔ IsAmong items text

-- some item is no text, and this is the first one
pub record HasNoText (items : Items) : Type 0 where
  pub place : ℕ
  pub value : Data
  pub here : get_item place items ≡ Some value
  pub earlier : (other : ℕ) → other < place → IsTextAt items other
  pub no_text : as_str value ≡ None

text_first : (value : Data) (items : Items) (text : List ℕ) (texts : List (List ℕ))
    → as_str value ≡ Some text → AreTexts items texts → AreTexts (item value items) (text ∷ texts)
text_first value items text texts is all = record {
  of_texts = each_text;
  members = λ other. (
    λ there. ⊎_elim (λ same. (0, is ∙ ap Some same))
        (λ later. let (place, among) = (all.members other).0 later in (suc place, among))
        (contains_cases text texts there),
    among_one_of other,
  );
}
  where
    each_text : (place : ℕ) → IsSome (get_item place (item value items))
        → IsTextAt (item value items) place
    each_text zero some = rw is refl
    each_text (suc place) some = all.of_texts place some

    among_one_of : (other : List ℕ) → IsAmong (item value items) other
        → Contains (text ∷ texts) other
    among_one_of other (zero, there) = contains_first texts (cc (is, there))
    among_one_of other (suc place, there) =
        contains_later text texts ((all.members other).1 (place, there))

no_text_later : (value : Data) (items : Items) (text : List ℕ) → as_str value ≡ Some text
    → HasNoText items → HasNoText (item value items)
no_text_later value items text is none = record {
  place = suc none.place;
  value = none.value;
  here = none.here;
  earlier = each_earlier;
  no_text = none.no_text;
}
  where
    each_earlier : (other : ℕ) → other < suc none.place → IsTextAt (item value items) other
    each_earlier zero below = rw is refl
    each_earlier (suc other) below = none.earlier other (omega arith)

first_item : (value : Data) (items : Items) (text : Option (List ℕ)) → as_str value ≡ text
    → ((texts : List (List ℕ)) × AreTexts items texts) ⊎ HasNoText items
    → ((texts : List (List ℕ)) × AreTexts (item value items) texts) ⊎ HasNoText (item value items)
first_item value items None is rest = inr (record {
  place = 0;
  value = value;
  here = refl;
  earlier = λ other below. absurd (omega arith);
  no_text = is;
})
first_item value items (Some text) is (inl (texts, all)) =
    inl (text ∷ texts, text_first value items text texts is all)
first_item value items (Some text) is (inr none) = inr (no_text_later value items text is none)

texts_or_not : (items : Items)
    → ((texts : List (List ℕ)) × AreTexts items texts) ⊎ HasNoText items
texts_or_not no_items = inl (
  [],
  record {
    of_texts = λ place some. absurd (cc some);
    members = λ text. (λ none. absurd (contains_none none), λ (place, there). absurd (cc there));
  },
)
texts_or_not (item value items) = first_item value items (as_str value) refl (texts_or_not items)

array_names : (items : Items) (texts : List (List ℕ)) → AreTexts items texts
    → (named : Features) × MeansFeatureArray items named
array_names items texts all =
    let (named, of_names) = named_among
    (λ feature. decided_by (all.members (word_of feature))
    (contains_decided texts (word_of feature)))
    texts all.members in
    (named, record { of_texts = all.of_texts; of_names = of_names })

array_by : (items : Items) → ((texts : List (List ℕ)) × AreTexts items texts) ⊎ HasNoText items
    → HasMeaningOrFault (MeansFeatureArray items) (FeatureArrayFaults items)
array_by items (inl (texts, all)) = inl (array_names items texts all)
array_by items (inr none) = inr (
  fault_below (index none.place) (wrong_type none.value text_expected),
  (none.place, none.value, none.here, none.earlier, (none.no_text, refl)),
)

pub array_or_fault : (items : Items)
    → HasMeaningOrFault (MeansFeatureArray items) (FeatureArrayFaults items)
array_or_fault items = array_by items (texts_or_not items)

never_text : (items : Items) (place : ℕ) (value : Data) → get_item place items ≡ Some value
    → as_str value ≡ None → IsTextAt items place → ⊥
never_text items place value is none is_text = cc (subst IsSome (ap text_in is ∙ none) is_text)

pub one_array_fault : (items : Items) (f g : Fault) → FeatureArrayFaults items f
    → FeatureArrayFaults items g → f ≡ g
one_array_fault items f g (i, value, here, texts, wrong) (k, other, there, others, also) =
    by_order (cases_order i k)
  where
    by_order : (i ≡ k) ⊎ ((i < k) ⊎ (k < i)) → f ≡ g
    by_order (inr (inl below)) = absurd (never_text items i value here wrong.0 (others i below))
    by_order (inr (inr above)) = absurd (never_text items k other there also.0 (texts k above))
    by_order (inl same) =
        let same_value : value ≡ other = cc (here, there, same) in
        cc (wrong.1, also.1, same, same_value)

pub no_array_fault : (items : Items) (named : Features) (f : Fault)
    → MeansFeatureArray items named → FeatureArrayFaults items f → ⊥
no_array_fault items named f meant (i, value, here, texts, wrong) =
    never_text items i value here wrong.0 (meant.of_texts i (rw here refl))

-- the features that an array names
abbrev pub feature_array : Reading Items Features
feature_array = record {
  means = MeansFeatureArray;
  faults = FeatureArrayFaults;
  takes_memory = λ items. Always;
  law = record {
    meaning_or_fault = array_or_fault;
    one_meaning = λ items a b h k. named_once a b h.of_names k.of_names;
    one_fault = one_array_fault;
    never_both = no_array_fault;
  };
}

-- ---- the table form

-- the keys of a table, in its order
abbrev keys_in : Members → List (List ℕ)
keys_in no_members = []
keys_in (member key value table) = key ∷ keys_in table

itself : (key : List ℕ) → slice_cmp nat_cmp key key ≡ Equal
itself key = self_by (slice_cmp nat_cmp key key) (nat_list_cmp_total.antisymm key key)
  where
    self_by : (order : Ordering) → order ≡ ordering_reverse order → order ≡ Equal
    self_by Less same = absurd (cc same)
    self_by Equal same = refl
    self_by Greater same = absurd (cc same)

-- a key that compares otherwise is another one
apart : (order : Ordering) (key other : List ℕ) → key ≡ other → slice_cmp nat_cmp other key ≡ order
    → order ≢ Equal → ⊥
apart order key other same is differs =
    differs (sym is ∙ ap (λ k. slice_cmp nat_cmp k key) (sym same) ∙ itself key)

key_by : (order : Ordering) (key other : List ℕ) (value : Data) (table : Members)
    → slice_cmp nat_cmp other key ≡ order
    → (Contains (keys_in table) other ↔ IsSome (get_member other table))
    → Contains (key ∷ keys_in table) other
    ↔ IsSome (match_ordering order (get_member other table) (Some value) (get_member other table))
key_by Less key other value table is rest = (
  λ there. rest.0
      (⊎_elim (λ same. absurd (apart Less key other same is (λ e. cc e))) (λ later. later)
      (contains_cases key (keys_in table) there)),
  λ some. contains_later key (keys_in table) (rest.1 some),
)
key_by Greater key other value table is rest = (
  λ there. rest.0
      (⊎_elim (λ same. absurd (apart Greater key other same is (λ e. cc e))) (λ later. later)
      (contains_cases key (keys_in table) there)),
  λ some. contains_later key (keys_in table) (rest.1 some),
)
key_by Equal key other value table is rest =
    (λ there. refl, λ some. contains_first (keys_in table) (sym (exact_bytes other key is)))

keys_there : (table : Members) (text : List ℕ)
    → Contains (keys_in table) text ↔ IsSome (get_member text table)
keys_there no_members text = (λ none. absurd (contains_none none), λ none. absurd (cc none))
keys_there (member key value table) text =
    key_by (slice_cmp nat_cmp text key) key text value table refl (keys_there table text)

switch_by : (feature : ConfigExperimental) (table : Members)
    → HasMeaningOrFault ((switch feature).means table) ((switch feature).faults table)
    → IsDecided ((switch feature).means table true)
switch_by feature table (inl (true, on)) = inl on
switch_by feature table (inl (false, off)) =
    inr (λ on. false≢true ((switch feature).law.one_meaning table false true off on))
switch_by feature table (inr (fault, wrong)) =
    inr (λ on. (switch feature).law.never_both table true fault on wrong)

pub table_named : (table : Members)
    → (named : Features) × AreNamed (λ feature. (switch feature).means table true)
    (λ text. IsSome (get_member text table)) named
table_named table = named_among
    (λ feature. switch_by feature table ((switch feature).law.meaning_or_fault table))
    (keys_in table) (keys_there table)

-- a feature is enabled where its key is true; other keys are names whatever their values are
abbrev pub table_names : Reading Members Features
table_names = record {
  means = λ members. AreNamed (λ feature. (switch feature).means members true)
      (λ text. IsSome (get_member text members));
  faults = λ members fault. ⊥;
  takes_memory = λ members. ⊥;
  law = record {
    meaning_or_fault = λ members. inl (table_named members);
    one_meaning = λ members. named_once;
    one_fault = λ members f g a b. absurd a;
    never_both = λ members named f a b. b;
  };
}

-- the switches of these features in turn, and then the names
abbrev pub switches : List ConfigExperimental → Reading Members Features
switches [] = table_names
switches (feature ∷ rest) = then (switch feature) (λ on. switches rest)

-- the features that a table (TOML 1.1, "Table") names: the value at the key of each is a boolean,
-- if there is one
abbrev pub feature_table : Reading Members Features
feature_table = in_memory (switches all_features)

-- ---- the setting

-- what `experimental` takes, as the refusal of a value of the wrong kind says it
abbrev pub features_expected : List ℕ
features_expected = codes "a table ({ setup-scripts = true, benchmarks = true }) or an array ([\"setup-scripts\", \"benchmarks\"])"

-- the value of `experimental` as a table; any other value is of the wrong kind
abbrev pub features_of_table : Reading Data FeatureSetting
features_of_table =
    kind as_table (inner (made_of (in_form false) feature_table)) (wrong_kind features_expected)

-- the value of `experimental` as an array or a table (TOML 1.1, "Array" and "Table")
abbrev pub features_reading : Reading Data FeatureSetting
features_reading =
    kind as_array (inner (made_of (in_form true) feature_array)) features_of_table

-- ---- the setting under an edition

-- what an array means, where tables only are taken: the rule on the form is broken, whatever the
-- array holds
abbrev pub no_array : Items → Reading Data FeatureSetting
no_array items = no_value (λ value. broken_by array_form)

-- the value of `experimental` under an edition: a table, and an array where the edition takes
-- arrays
abbrev pub features_under : Edition → Reading Data FeatureSetting
features_under ArrayAllowed = features_reading
features_under TableOnly = kind as_array no_array features_of_table
