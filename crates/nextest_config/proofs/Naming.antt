-- The features that an array and a table name, and the names of both sets.
use Rattle.std.proofs.Common.{◌≡◌, ◌↔◌, ◌⊎◌, ◌++◌, ℕ, ◌+◌, ◌<◌, ◌≤◌, ◌==◌, Bool, true, false, cond, List, [], ◌∷◌, length, map, get_or, Contains, Option, Some, IsSome, String, Global, Ordering, Less, Equal, Greater, Bor, string_bytes, nat_cmp, refl, sym, ap, subst, ◌∙◌, inl, inr, ⊎_elim, arith, rules}
use mathlib.Core.List.{map-map}
use mathlib.Core.Logic.{⊎_map}
use mathlib.Core.Logic.Iff as iff
use Rattle.std.proofs.lemmas.List.Elements.{All-contains, All-from_recursion, Contains-append_cases, Contains-append_left, Contains-append_right}
use Rattle.std.proofs.lemmas.Bool.{cases_lt, false≢true}
use Rattle.std.proofs.lemmas.Cmp.{nat_list_cmp_total}
use Rattle.std.proofs.lemmas.List.{append-nil, map-append}
use Rattle.std.specs.List.{AllByRecursion}
use Rattle.std.proofs.lemmas.Map.Lookups.{exact_bytes}
use Rattle.std.proofs.lemmas.Map.Made.{Contains-tail}
use Rattle.std.specs.Cmp.{tied_itself}
use Rattle.std.specs.Cmp.Lexicographic.{slice_cmp}
use Rattle.std.specs.Map.{keys_of}
use Rattle.std.specs.Map.Iter.{deref}
use Rattle.std.specs.Ordering.{match_ordering}
use Rattle.toml.proofs.Views.{Entry, get_item_past, get_item_within}
use Rattle.toml.specs.Data.{Data, Items, Members, get_item, get_member}
use Rattle.toml.specs.View.{items_view, members_view, view}
use Rattle.toml.specs.declared.value.Value.{Value}
use Rattle.nextest_config_values.proofs.Faults.{refused_mapped}
use Rattle.nextest_config_values.specs.Read.Fault.{Fault}
use Rattle.nextest_config_values.specs.Read.{Always, made_of, Refuses, RefusesBy}
use Rattle.nextest_config_values.specs.declared.read.value_fault.ValueFault.{ValueFault}
use Rattle.nextest_config.specs.NextestVersion.{AddsItem, AddsText, all_features, AreNamed, AreNames, feature_array, feature_cmp, feature_table, Features, FeaturesInOrder, HasOneMore, in_form, IsAmong, IsTextAt, IsUnknown, IsUnknownFeatureKey, IsWordAmong, ItemFaults, MeansFeatureArray, no_features, switch, switches, table_names, text_in, TextsInOrder, word_of}
use Rattle.nextest_config.specs.declared.nextest_version.experimental.ConfigExperimental.{ConfigExperimental}
use Rattle.nextest_config.specs.declared.nextest_version.experimental.ConfigExperimental.TheVariants as features
use Rattle.toml_spans.proofs.Elements.{all_joined}
use Rattle.nextest_config.proofs.Features.{among_all_features, goes_on}
use Rattle.nextest_config.proofs.Members.{AreThoseOf, none_in_order, one_that_fails, one_that_holds}
use Rattle.nextest_config.specs.NextestVersion.SetLaws.{among_images, contains_first, contains_later, contains_none}

-- ---- one more name

-- the words differ in length
abbrev told : List ℕ → ConfigExperimental
told text = cond (length text == 13) features.SetupScripts (cond (length text == 15) features.WrapperScripts features.Benchmarks)

told_word : (feature : ConfigExperimental) → told (word_of feature) ≡ feature
told_word feature = search rules

one_feature : (f g : ConfigExperimental) → word_of f ≡ word_of g → f ≡ g
one_feature f g same = sym (told_word f) ∙ ap told same ∙ told_word g

pub adds_feature : {before : Features} {text : List ℕ} {known : List ConfigExperimental} (feature : ConfigExperimental) → word_of feature ≡ text → HasOneMore before.known feature known
    → FeaturesInOrder known → AddsText before text (record { known = known; unknown = before.unknown })
adds_feature feature word more in_order = record {
  more_known = λ f. (
    λ h. ⊎_map (λ h. h) (λ same. ap word_of (sym same) ∙ word) ((more f).0 h),
    λ h. (more f).1 (⊎_map (λ h. h) (λ same. one_feature feature f (word ∙ sym same)) h),
  );
  more_unknown = λ other. (inl, ⊎_elim (λ h. h) (λ none. absurd (none.1 feature (word ∙ none.0))));
  still_in_order = λ h. record { known_in_order = in_order; unknown_in_order = h.unknown_in_order };
}

pub adds_other : {before : Features} {text : List ℕ} {unknown : List (List ℕ)} → IsUnknown text → HasOneMore before.unknown text unknown
    → TextsInOrder unknown → AddsText before text (record { known = before.known; unknown = unknown })
adds_other none more in_order = record {
  more_known = λ f. (inl, ⊎_elim (λ h. h) (λ word. absurd (none f word)));
  more_unknown = λ other. (
    λ h. ⊎_map (λ h. h) (λ same. (same, subst IsUnknown same none)) ((more other).0 h),
    λ h. (more other).1 (⊎_map (λ h. h) (λ h. h.0) h),
  );
  still_in_order = λ h. record { known_in_order = h.known_in_order; unknown_in_order = in_order };
}

-- ---- an array

-- the text is one of the first elements
abbrev pub IsAmongFirst : ℕ → Items → List ℕ → Type 0
IsAmongFirst count items text = (index : ℕ) × (index < count) × (text_in (get_item index items) ≡ Some text)

-- the first elements are texts, and are named
pub record NamedSoFar (items : Items) (count : ℕ) (named : Features) : Type 0 where
  pub of_texts : (index : ℕ) → index < count → IsTextAt items index
  pub of_names : AreNamed (λ feature. IsAmongFirst count items (word_of feature)) (IsAmongFirst count items) named

pub none_so_far : (items : Items) → NamedSoFar items 0 no_features
none_so_far items = record {
  of_texts = λ index below. absurd (omega (arith, below));
  of_names = record {
    of_known = λ feature. (λ h. absurd (contains_none h), λ h. absurd (omega (arith, h.1)));
    of_unknown = λ text. (λ h. absurd (contains_none h), λ h. absurd (omega (arith, h.0.1)));
    in_order = record { known_in_order = none_in_order feature_cmp; unknown_in_order = none_in_order (slice_cmp nat_cmp) };
  };
}

last_or_below : (i n : ℕ) → i < n + 1 → (i < n) ⊎ (i ≡ n)
last_or_below i n within = ⊎_elim inl (λ past. inr (omega (arith, within, past))) (cases_lt i n)

-- one more element
module _ (items : Items) (count : ℕ) (text : List ℕ) (here : text_in (get_item count items) ≡ Some text) where
  among_more : (other : List ℕ) → IsAmongFirst (count + 1) items other ↔ (IsAmongFirst count items other ⊎ (text ≡ other))
  among_more other = search rules

  named_more : (before after : Features) → NamedSoFar items count before → AddsText before text after → NamedSoFar items (count + 1) after
  named_more before after so_far adds = record {
    of_texts = λ index below. ⊎_elim (so_far.of_texts index) (λ last. subst IsSome (sym (ap (λ i. text_in (get_item i items)) last ∙ here)) refl) (last_or_below index count below);
    of_names = record {
      of_known = λ f. (
        λ h. (among_more (word_of f)).1 (⊎_map (so_far.of_names.of_known f).0 sym ((adds.more_known f).0 h)),
        λ h. (adds.more_known f).1 (⊎_map (so_far.of_names.of_known f).1 sym ((among_more (word_of f)).0 h)),
      );
      of_unknown = λ t. (
        λ h. let there = so_far.of_names.of_unknown t in
            ⊎_elim (λ h. ((among_more t).1 (inl (there.0 h).0), (there.0 h).1)) (λ h. ((among_more t).1 (inr h.0), h.1)) ((adds.more_unknown t).0 h),
        λ h. (adds.more_unknown t).1 (⊎_map (λ there. (so_far.of_names.of_unknown t).1 (there, h.1)) (λ same. (same, h.1)) ((among_more t).0 h.0)),
      );
      in_order = adds.still_in_order so_far.of_names.in_order;
    };
  }

pub item_added : {items : Items} {count : ℕ} {value : Data} {before after : Features} → NamedSoFar items count before → get_item count items ≡ Some value → AddsItem before value after → NamedSoFar items (count + 1) after
item_added {items} {count} {before = before} {after = after} so_far is (text, held, adds) = named_more items count text (ap text_in is ∙ held) before after so_far adds

-- what stands at an index of the elements
pub item_here : (xs items : List Value) (index : ℕ) (value : Value) → xs ≡ items → index < length xs → value ≡ get_or xs index value → get_item index (items_view items) ≡ Some (view value)
item_here xs items index value same below is =
    subst (λ ys. get_item index (items_view ys) ≡ Some (view value)) same (sym (get_item_within xs index value below) ∙ ap (λ v. Some (view v)) (sym is))

-- after the last element
module _ (vs : List Value) (count : ℕ) (past : length vs ≤ count) where
  index_below : (index : ℕ) → IsSome (get_item index (items_view vs)) → index < count
  index_below index some = ⊎_elim (λ below. below) (λ beyond. absurd (false≢true (subst IsSome (sym (get_item_past vs index (omega arith))) some))) (cases_lt index count)

  some_text : (found : Option Data) (text : List ℕ) → text_in found ≡ Some text → IsSome found
  some_text found text is = search rules

  among_all : (text : List ℕ) → IsAmongFirst count (items_view vs) text ↔ IsAmong (items_view vs) text
  among_all text = (λ (index, below, is). (index, is), λ (index, is). (index, index_below index (some_text _ text is), is))

  pub all_named : (named : Features) → NamedSoFar (items_view vs) count named → MeansFeatureArray (items_view vs) named
  all_named named so_far = record {
    of_texts = λ index some. so_far.of_texts index (index_below index some);
    of_names = record {
      of_known = λ f. iff.trans (so_far.of_names.of_known f) (among_all (word_of f));
      of_unknown = λ t. iff.trans (so_far.of_names.of_unknown t) (iff.and (among_all t) iff.rfl);
      in_order = so_far.of_names.in_order;
    };
  }

-- an element that is no text, after texts
pub refuses_array : {items : Items} {index : ℕ} {value : Data} {named : Features} (fault : ValueFault) → NamedSoFar items index named → get_item index items ≡ Some value
    → Refuses (ItemFaults value index) Always fault → RefusesBy (made_of (in_form true) feature_array) items fault
refuses_array {index = index} {value = value} fault so_far is refused = record { told = refused_mapped fault refused inl (λ f wrong. (index, value, is, so_far.of_texts, wrong)) }

-- ---- a table

-- the switches of these features are read
abbrev AreSwitches : Members → List ConfigExperimental → Type 0
AreSwitches members = AllByRecursion (λ feature. (on : Bool) × (switch feature).means members on)

-- the switches so far are read, and the features are those that are on, in order
pub record SwitchedSoFar (members : Members) (so_far left known : List ConfigExperimental) : Type 0 where
  pub whole : all_features ≡ so_far ++ left
  pub read : AreSwitches members so_far
  pub on : AreThoseOf (λ feature. (switch feature).means members true) so_far known
  pub in_order : FeaturesInOrder known

-- one more switch, which is off
pub switched_off : {members : Members} {so_far left known after : List ConfigExperimental} {feature : ConfigExperimental} → SwitchedSoFar members so_far left known → left ≡ feature ∷ after
    → (switch feature).means members false → SwitchedSoFar members (so_far ++ feature ∷ []) after known
switched_off {members} {so_far} {left} {known} {after} {feature} h step off = record {
  whole = goes_on so_far left after feature h.whole step;
  read = all_joined _ so_far (feature ∷ []) h.read ((false, off), tt);
  on = one_that_fails (λ f. (switch f).means members true) so_far known feature h.on (λ on. false≢true ((switch feature).law.one_meaning members false true off on));
  in_order = h.in_order;
}

-- one more switch, which is on
pub switched_on : {members : Members} {so_far left known after more : List ConfigExperimental} {feature : ConfigExperimental} → SwitchedSoFar members so_far left known → left ≡ feature ∷ after
    → (switch feature).means members true → HasOneMore known feature more → FeaturesInOrder more → SwitchedSoFar members (so_far ++ feature ∷ []) after more
switched_on {members} {so_far} {left} {known} {after} {more} {feature} h step on adds in_order = record {
  whole = goes_on so_far left after feature h.whole step;
  read = all_joined _ so_far (feature ∷ []) h.read ((true, on), tt);
  on = one_that_holds (λ f. (switch f).means members true) so_far known more feature h.on adds on;
  in_order = in_order;
}

-- a switch that is no boolean, after others that are read, is the first
first_of : (members : Members) (fault : Fault) (so_far after : List ConfigExperimental) (feature : ConfigExperimental) → AreSwitches members so_far → (switch feature).faults members fault
    → (switches (so_far ++ feature ∷ after)).faults members fault
first_of table fault [] after feature read wrong = inl wrong
first_of table fault (x ∷ so_far) after feature read wrong = inr (read.0.0, read.0.1, first_of table fault so_far after feature read.1 wrong)

pub refuses_switches : {members : Members} {so_far left known after : List ConfigExperimental} {feature : ConfigExperimental} (fault : ValueFault) → SwitchedSoFar members so_far left known → left ≡ feature ∷ after
    → RefusesBy (switch feature) members fault → RefusesBy feature_table members fault
refuses_switches {members} {so_far} {after = after} {feature} fault h step refused =
    let whole : all_features ≡ so_far ++ feature ∷ after = h.whole ∙ ap (λ rest. so_far ++ rest) step in
    record { told = refused_mapped fault refused.told (λ wanted. inl tt) (λ f wrong. subst (λ of. (switches of).faults members f) (sym whole) (first_of members f so_far after feature h.read wrong)) }

-- after the last switch
pub all_switches : {members : Members} {so_far left known : List ConfigExperimental} → SwitchedSoFar members so_far left known → left ≡ [] → (feature : ConfigExperimental) → (on : Bool) × (switch feature).means members on
all_switches {members} {so_far} h ended feature =
    let Read : ConfigExperimental → Type 0 = λ f. (on : Bool) × (switch f).means members on in
    let all : all_features ≡ so_far = h.whole ∙ ap (λ rest. so_far ++ rest) ended ∙ append-nil so_far in
    All-contains Read so_far feature (All-from_recursion Read so_far h.read) (subst (λ fs. Contains fs feature) all (among_all_features feature))

-- each switch is read, and so are these in turn
pub read_in_turn : (of : List ConfigExperimental) (members : Members) (named : Features) → ((feature : ConfigExperimental) → (on : Bool) × (switch feature).means members on) → table_names.means members named → (switches of).means members named
read_in_turn [] table named read names = names
read_in_turn (feature ∷ rest) table named read names = ((read feature).0, (read feature).1, read_in_turn rest table named read names)

-- a key that the text isn't
other_key : (text key : List ℕ) (rest : Option Data) (others : List (List ℕ)) → (key ≡ text → ⊥) → Contains others text ↔ IsSome rest → Contains (key ∷ others) text ↔ IsSome rest
other_key text key rest others apart more = (λ h. more.0 (Contains-tail key others text apart h), λ some. contains_later key others (more.1 some))

-- a text is one of the keys where it has a value
found_key : (o : Ordering) (text key : List ℕ) (value : Data) (rest : Option Data) (others : List (List ℕ)) → slice_cmp nat_cmp text key ≡ o → Contains others text ↔ IsSome rest
    → Contains (key ∷ others) text ↔ IsSome (match_ordering o rest (Some value) rest)
found_key Equal text key value rest others e more = (λ h. refl, λ some. contains_first others (sym (exact_bytes text key e)))
found_key Less text key value rest others e more = other_key text key rest others (λ same. cc (e, ap (slice_cmp nat_cmp text) same, tied_itself nat_list_cmp_total text)) more
found_key Greater text key value rest others e more = other_key text key rest others (λ same. cc (e, ap (slice_cmp nat_cmp text) same, tied_itself nat_list_cmp_total text)) more

among_keys : (entries : List Entry) (text : List ℕ) → Contains (map string_bytes (keys_of entries)) text ↔ IsSome (get_member text (members_view entries))
among_keys [] text = (λ h. absurd (contains_none h), λ some. cc some)
among_keys (e ∷ entries) text = found_key (slice_cmp nat_cmp text (string_bytes e.0)) text (string_bytes e.0) (view e.1) (get_member text (members_view entries)) (map string_bytes (keys_of entries)) refl (among_keys entries text)

abbrev pub seen_key : Bor (String Global) → List ℕ
seen_key key = string_bytes key.now

abbrev pub seen_word : Bor ConfigExperimental → List ℕ
seen_word feature = word_of feature.now

pub key_known : (ks : List (Bor (String Global))) (key : Bor (String Global)) (those : List (List ℕ)) (feature : ConfigExperimental) → AreThoseOf IsUnknown (map seen_key ks) those
    → word_of feature ≡ string_bytes key.now → AreThoseOf IsUnknown (map seen_key (ks ++ key ∷ [])) those
key_known ks key those feature are word = rw (map-append seen_key ks (key ∷ [])) (one_that_fails IsUnknown (map seen_key ks) those (string_bytes key.now) are (λ none. none feature word))

pub all_keys : (entries : List Entry) (ks : List (Bor (String Global))) (those : List (List ℕ)) → map deref ks ≡ keys_of entries → AreThoseOf IsUnknown (map seen_key ks) those
    → (text : List ℕ) → Contains those text ↔ IsUnknownFeatureKey (members_view entries) text
all_keys entries ks those all are text =
    let same : map seen_key ks ≡ map string_bytes (keys_of entries) = sym (map-map string_bytes deref ks) ∙ ap (map string_bytes) all in (
      λ h. ((among_keys entries text).0 (subst (λ xs. Contains xs text) same ((are text).0 h).0), ((are text).0 h).1),
      λ h. (are text).1 (subst (λ xs. Contains xs text) (sym same) ((among_keys entries text).1 h.0), h.1),
    )

-- ---- the names of both sets

pub all_words : (known : List ConfigExperimental) (fs : List (Bor ConfigExperimental)) (words : List (List ℕ)) → map deref fs ≡ known → AreThoseOf (λ text. Unit {0}) (map seen_word fs) words
    → (text : List ℕ) → Contains words text ↔ IsWordAmong known text
all_words known fs words all are text =
    let same : map seen_word fs ≡ map word_of known = sym (map-map word_of deref fs) ∙ ap (map word_of) all in (
      λ h. (among_images word_of known text).0 (subst (λ xs. Contains xs text) same ((are text).0 h).0),
      λ h. (are text).1 (subst (λ xs. Contains xs text) (sym same) ((among_images word_of known text).1 h), tt),
    )

pub all_names : (named : Features) (words names : List (List ℕ)) (ks : List (Bor (String Global))) (keys : List (String Global)) → map deref ks ≡ keys → named.unknown ≡ map string_bytes keys
    → ((text : List ℕ) → Contains words text ↔ IsWordAmong named.known text) → TextsInOrder names → AreThoseOf (λ text. Unit {0}) (words ++ map seen_key ks) names → AreNames named names
all_names named words names ks keys all unknown are in_order both =
    let same : map seen_key ks ≡ named.unknown = sym (map-map string_bytes deref ks) ∙ ap (map string_bytes) all ∙ sym unknown in
    let split : AreThoseOf (λ text. Unit {0}) (words ++ named.unknown) names = subst (λ xs. AreThoseOf (λ text. Unit {0}) (words ++ xs) names) same both in
    record {
      of_both = λ text. (
        λ h. ⊎_elim (λ h. inr ((are text).0 h)) inl (Contains-append_cases words named.unknown text ((split text).0 h).0),
        λ h. (split text).1 (⊎_elim (Contains-append_right words named.unknown text) (λ h. Contains-append_left words named.unknown text ((are text).1 h)) h, tt),
      );
      in_order = in_order;
    }
