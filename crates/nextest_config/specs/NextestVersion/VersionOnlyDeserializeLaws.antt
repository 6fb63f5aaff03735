-- A source asks one thing, or one thing is wrong with it: one of both, and never both.
use Rattle.std.proofs.Common.{◌≡◌, ◌⊎◌, ℕ, List, [], ◌∷◌, ◌++◌, map, Option, Some, None, refl, sym, ap, ap₂, subst, ◌∙◌, ⊎_elim, inl, inr}
use mathlib.Core.Logic.Iff as iff
use Rattle.std.proofs.lemmas.Cmp.{nat_list_cmp_total}
use Rattle.std.proofs.lemmas.List.Elements.{Contains-append_cases, Contains-append_left, Contains-append_right}
use Rattle.std.proofs.lemmas.Map.Lookups.{exact_bytes}
use Rattle.std.specs.Cmp.Lexicographic.{slice_cmp}
use Rattle.std.specs.Ordering.{nat_cmp}
use Rattle.toml.specs.Data.{Members}
use Rattle.toml.specs.Parse.{parse_document}
use Rattle.nextest_config_values.specs.Decisions.{IsDecided}
use Rattle.nextest_config_values.specs.Once.{HasMeaningOrFault, HasOneMeaningOrFault}
use Rattle.nextest_config_values.specs.Read.Fault.{Fault}
use Rattle.nextest_config_values.specs.Read.{one_then, Reading, Then, read_fault_at}
use Rattle.nextest_config.specs.NextestVersion.ErrorKind.{not_toml, setting, tool_features, Wrong}
use Rattle.nextest_config.specs.NextestVersion.Experimental.{word_of}
use Rattle.nextest_config.specs.NextestVersion.ExperimentalDeserialize.{AreNames, Features, FeatureSetting, in_form, no_features}
use Rattle.nextest_config.specs.NextestVersion.ExperimentalLaws.{texts_in_one_order}
use Rattle.nextest_config.specs.NextestVersion.SetLaws.{among_images, set_of}
use Rattle.nextest_config.specs.NextestVersion.NextestVersionDeserialize.{Versions}
use Rattle.nextest_config.specs.NextestVersion.VersionOnlyDeserialize.{Ask, AsksFeatures, AsksVersions, BreaksToolRule, features_asked, IsWrong, IsWrongDocument, IsWrongNamed, IsWrongSetting, IsWrongTable, nothing, ObeysToolRule, TableAsks, TextAsks, versions_asked}
use Rattle.nextest_config.specs.declared.nextest_version.edition.Edition.{Edition}
use Rattle.nextest_config.specs.declared.nextest_version.source.ConfigSourceKind.{ConfigSourceKind}
use Rattle.nextest_config.specs.declared.nextest_version.source.ConfigSourceKind.TheVariants.{DiscoveredRepository, ExplicitRepository, Tool}
use Rattle.nextest_config.specs.declared.nextest_version.experimental.ConfigExperimental.{ConfigExperimental}

-- ---- one ask

-- the features of an ask, and whether they are asked as an array
abbrev setting_in : Ask → FeatureSetting
setting_in ask = in_form ask.array ask.features

pub asks_once : (edition : Edition) (kind : ConfigSourceKind) (table : Members) (a b : Ask)
    → TableAsks edition kind table a → TableAsks edition kind table b → a ≡ b
asks_once edition kind table a b h k =
    ap₂ (λ (versions : Versions) (named : FeatureSetting). record {
      versions = versions;
      features = named.features;
      array = named.array;
    })
    (versions_asked.law.one_meaning table a.versions b.versions h.of_versions k.of_versions)
    ((features_asked edition).law.one_meaning table (setting_in a) (setting_in b) h.of_features
    k.of_features)

pub text_asks_once : (edition : Edition) (kind : ConfigSourceKind) (contents : Option (List ℕ))
    (a b : Ask) → TextAsks edition kind contents a → TextAsks edition kind contents b → a ≡ b
text_asks_once edition kind None a b h k = h ∙ sym k
text_asks_once edition kind (Some text) a b h k =
    let same : k.0 ≡ h.0 = cc (h.1, k.1) in
    asks_once edition kind h.0 a b h.2
    (subst (λ (table : Members). TableAsks edition kind table b) same k.2)

-- ---- one thing that is wrong

-- what is wrong at a setting, or after it
module _ {X : Type 0} (reading : Reading Members X) (members : Members) where
  one_setting : (a b : Wrong) → IsWrongSetting reading members a → IsWrongSetting reading members b
      → a ≡ b
  one_setting a b (told, (f, faulty, tells), is) (also, (g, faulty_too, tells_too), other) =
      let same : told ≡ also =
      tells ∙ ap (read_fault_at []) (reading.law.one_fault members f g faulty faulty_too)
      ∙ sym tells_too in
      is ∙ ap setting same ∙ sym other

  pub never_setting : (x : X) (wrong : Wrong) → reading.means members x
      → IsWrongSetting reading members wrong → ⊥
  never_setting x wrong meant (told, (fault, faulty, tells), is) =
      reading.law.never_both members x fault meant faulty

  one_in_turn : {later : X → Wrong → Type 0}
      → ((x : X) (a b : Wrong) → later x a → later x b → a ≡ b) → (a b : Wrong)
      → Then (IsWrongSetting reading members) (reading.means members) later a
      → Then (IsWrongSetting reading members) (reading.means members) later b → a ≡ b
  one_in_turn = one_then one_setting never_setting (reading.law.one_meaning members)

one_tool_error : (kind : ConfigSourceKind) (features : Features) (a b : Wrong)
    → BreaksToolRule kind features a → BreaksToolRule kind features b → a ≡ b
one_tool_error (Tool name) features a b (some, (names, are, is)) (also, (others, are_too, other)) =
    let same : names ≡ others =
    texts_in_one_order names others are.in_order are_too.in_order
    (λ text. iff.trans (are.of_both text) (iff.symm (are_too.of_both text))) in
    is ∙ ap tool_features same ∙ sym other
one_tool_error _ features a b h k = absurd h

one_named_error : (edition : Edition) (kind : ConfigSourceKind) (members : Members) (a b : Wrong)
    → IsWrongNamed edition kind members a → IsWrongNamed edition kind members b → a ≡ b
one_named_error edition kind members =
    one_in_turn (features_asked edition) members (λ named. one_tool_error kind named.features)

pub one_table_error : (edition : Edition) (kind : ConfigSourceKind) (members : Members)
    (a b : Wrong) → IsWrongTable edition kind members a → IsWrongTable edition kind members b
    → a ≡ b
one_table_error edition kind members =
    one_in_turn versions_asked members (λ versions. one_named_error edition kind members)

pub one_wrong : (edition : Edition) (kind : ConfigSourceKind) (contents : Option (List ℕ))
    (a b : Wrong) → IsWrong edition kind contents a → IsWrong edition kind contents b → a ≡ b
one_wrong edition kind None a b h k = absurd h
one_wrong edition kind (Some text) a b h k = by_document (parse_document text) h k
  where
    by_document : (document : Option Members) → IsWrongDocument edition kind document a
        → IsWrongDocument edition kind document b → a ≡ b
    by_document None h k = h ∙ sym k
    by_document (Some members) h k = one_table_error edition kind members a b h k

-- ---- never both

obeyed_not_broken : (kind : ConfigSourceKind) (features : Features) (wrong : Wrong)
    → ObeysToolRule kind features → BreaksToolRule kind features wrong → ⊥
obeyed_not_broken (Tool name) features wrong kept broken = broken.0 kept
obeyed_not_broken _ features wrong kept broken = broken

pub asks_not_wrong : (edition : Edition) (kind : ConfigSourceKind) (table : Members) (ask : Ask)
    (wrong : Wrong) → TableAsks edition kind table ask → IsWrongTable edition kind table wrong → ⊥
asks_not_wrong edition kind table ask wrong asks (inl setting_wrong) =
    never_setting versions_asked table ask.versions wrong asks.of_versions setting_wrong
asks_not_wrong edition kind table ask wrong asks (inr (versions, meant, inl setting_wrong)) =
    never_setting (features_asked edition) table (setting_in ask) wrong asks.of_features
    setting_wrong
asks_not_wrong edition kind table ask wrong asks
    (inr (versions, meant, inr (named, also, broken))) =
    obeyed_not_broken kind ask.features wrong asks.of_tool
    (subst (λ (said : FeatureSetting). BreaksToolRule kind said.features wrong)
    ((features_asked edition).law.one_meaning table named (setting_in ask) also asks.of_features)
    broken)

pub text_not_wrong : (edition : Edition) (kind : ConfigSourceKind) (contents : Option (List ℕ))
    (ask : Ask) (wrong : Wrong) → TextAsks edition kind contents ask
    → IsWrong edition kind contents wrong → ⊥
text_not_wrong edition kind None ask wrong read refused = refused
text_not_wrong edition kind (Some text) ask wrong read refused =
    asks_not_wrong edition kind read.0 ask wrong read.2
    (subst (λ (d : Option Members). IsWrongDocument edition kind d wrong) read.1 refused)

-- ---- one of both

-- what a table asks, or what is wrong with it
abbrev IsAskOrWrong : Edition → ConfigSourceKind → Members → Type 0
IsAskOrWrong edition kind table =
    HasMeaningOrFault (TableAsks edition kind table) (IsWrongTable edition kind table)

names_of : (features : Features) → (names : List (List ℕ)) × AreNames features names
names_of features =
    let words = map word_of features.known in
    let (names, is) = set_of (slice_cmp nat_cmp) nat_list_cmp_total exact_bytes (λ text. Unit {0})
    (λ text. inl tt) (features.unknown ++ words) in (
      names,
      record {
        of_both = λ text. (
          λ there. ⊎_elim inl (λ word. inr ((among_images word_of features.known text).0 word))
              (Contains-append_cases features.unknown words text ((is.members text).0 there).0),
          λ stands. (is.members text).1 (
            ⊎_elim (Contains-append_left features.unknown words text)
                (λ word. Contains-append_right features.unknown words text
                ((among_images word_of features.known text).1 word)) stands,
            tt,
          ),
        );
        in_order = is.in_order;
      },
    )

none_decided : (features : Features) → IsDecided (features ≡ no_features)
none_decided features = by_sets features.known features.unknown
  where
    by_sets : (known : List ConfigExperimental) (unknown : List (List ℕ))
        → IsDecided (record { known = known; unknown = unknown } ≡ no_features)
    by_sets [] [] = inl refl
    by_sets (feature ∷ known) unknown = inr (λ same. cc (ap (λ (f : Features). f.known) same))
    by_sets [] (name ∷ unknown) = inr (λ same. cc (ap (λ (f : Features). f.unknown) same))

tool_rule_or_error : (kind : ConfigSourceKind) (features : Features)
    → ObeysToolRule kind features ⊎ ((wrong : Wrong) × BreaksToolRule kind features wrong)
tool_rule_or_error (Tool name) features = elim (none_decided features) [
  | inl none ↦ inl none
  | inr some ↦ let (names, are) = names_of features in
      inr (tool_features names, (some, (names, are, refl)))
]
tool_rule_or_error ExplicitRepository features = inl tt
tool_rule_or_error DiscoveredRepository features = inl tt

-- what a fault of a setting tells
wrong_setting : {X : Type 0} (reading : Reading Members X) (members : Members) (fault : Fault)
    → reading.faults members fault
    → IsWrongSetting reading members (setting (read_fault_at [] fault))
wrong_setting reading table fault faulty =
    (read_fault_at [] fault, (fault, faulty, refl), refl)

module _ (edition : Edition) (kind : ConfigSourceKind) (table : Members) where
  named_or_error : (versions : Versions) (named : FeatureSetting) → AsksVersions table versions
      → AsksFeatures edition table named
      → ObeysToolRule kind named.features
      ⊎ ((wrong : Wrong) × BreaksToolRule kind named.features wrong)
      → IsAskOrWrong edition kind table
  named_or_error versions named of_versions of_features (inl of_tool) = inl (
    record { versions = versions; features = named.features; array = named.array },
    record { of_versions = of_versions; of_features = of_features; of_tool = of_tool },
  )
  named_or_error versions named of_versions of_features (inr (wrong, broken)) =
      inr (wrong, inr (versions, of_versions, inr (named, of_features, broken)))

  features_or_error : (versions : Versions) → AsksVersions table versions
      → HasMeaningOrFault (AsksFeatures edition table) ((features_asked edition).faults table)
      → IsAskOrWrong edition kind table
  features_or_error versions of_versions (inl (named, of_features)) =
      named_or_error versions named of_versions of_features
      (tool_rule_or_error kind named.features)
  features_or_error versions of_versions (inr (fault, faulty)) =
      inr (
        setting (read_fault_at [] fault),
        inr (
          versions,
          of_versions,
          inl (wrong_setting (features_asked edition) table fault faulty),
        ),
      )

  table_by : HasMeaningOrFault (AsksVersions table) (versions_asked.faults table)
      → IsAskOrWrong edition kind table
  table_by (inl (versions, of_versions)) =
      features_or_error versions of_versions ((features_asked edition).law.meaning_or_fault table)
  table_by (inr (fault, faulty)) =
      inr (setting (read_fault_at [] fault), inl (wrong_setting versions_asked table fault faulty))

  table_or_error : IsAskOrWrong edition kind table
  table_or_error = table_by (versions_asked.law.meaning_or_fault table)

document_or_error : (edition : Edition) (kind : ConfigSourceKind) (text : List ℕ)
    (document : Option Members) → parse_document text ≡ document
    → HasMeaningOrFault (TextAsks edition kind (Some text)) (IsWrong edition kind (Some text))
document_or_error edition kind text None is =
    inr (
      not_toml,
      subst (λ (d : Option Members). IsWrongDocument edition kind d not_toml) (sym is) refl,
    )
document_or_error edition kind text (Some table) is = elim (table_or_error edition kind table) [
  | inl (ask, asks) ↦ inl (ask, (table, is, asks))
  | inr (wrong, broken) ↦ inr (
    wrong,
    subst (λ (d : Option Members). IsWrongDocument edition kind d wrong) (sym is) broken,
  )
]

-- each source asks something, or something is wrong with it
pub ask_or_error : (edition : Edition) (kind : ConfigSourceKind) (contents : Option (List ℕ))
    → HasMeaningOrFault (TextAsks edition kind contents) (IsWrong edition kind contents)
ask_or_error edition kind None = inl (nothing, refl)
ask_or_error edition kind (Some text) =
    document_or_error edition kind text (parse_document text) refl

pub one_ask_or_error : (edition : Edition) (kind : ConfigSourceKind)
    → HasOneMeaningOrFault (TextAsks edition kind) (IsWrong edition kind)
one_ask_or_error edition kind = record {
  meaning_or_fault = ask_or_error edition kind;
  one_meaning = text_asks_once edition kind;
  one_fault = one_wrong edition kind;
  never_both = text_not_wrong edition kind;
}
