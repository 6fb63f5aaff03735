-- What stands for two lists in a row is the join of what stands for each.
use Rattle.std.proofs.Common.{◌≡◌, ◌↔◌, List, [], ◌∷◌, ◌++◌, flat_map, map, Contains, Option, Some, None, IfSome, IsTrue, refl, sym, ap, ap₂, ◌∙◌, inl, inr, ⊎_elim, subst, append_assoc}
use mathlib.Core.Logic.Iff as iff
use Rattle.std.proofs.lemmas.Bool.{cases_Bool, false≢true, or_cases, or_left, or_right}
use Rattle.std.proofs.lemmas.List.{append-nil}
use Rattle.std.proofs.lemmas.List.Concat.{flat_map-append, flat_map_single}
use Rattle.std.proofs.lemmas.List.Elements.{Contains-append_cases, Contains-append_left, Contains-append_right}
use Rattle.std.proofs.lemmas.Option.{IfSome_then}
use Rattle.std.specs.List.{AllByRecursion, AllZip}
use Rattle.std.specs.List.Sorted.{IsStrictlySortedBy}
use Rattle.semver.specs.Parse.{Parts}
use Rattle.nextest_config.specs.Merge.{HavePieces, IsJoinOfPieces, total}
use Rattle.nextest_config.specs.NextestVersion.{Ask, FeaturesInOrder, is_below, nothing, IsBelow, SourcePlace, AreRead, array_of, AsksNoGreater, AsksNone, AsksOther, Configuration, configuration_from, entry_of, IsEnabledBySome, IsGreatest, IsRead, IsReadAs, IsSeenAs, join_configurations, join_kept, Kept, neutral, neutral_seen, Reads, role_from, seen_configuration, SeenConfiguration, SourceAsk, StandsFor, StandsForAsks, StandsForOne, StandsIn, Unknown}
use Rattle.nextest_config.specs.NextestVersion.PrecedenceLaws.{below_trans, not_below_itself, not_below_trans}
use Rattle.nextest_config.specs.NextestVersion.Source.{Source}
use Rattle.nextest_config.proofs.Lists.{zip_joined}
use Rattle.toml_spans.proofs.Elements.{all_joined, all_weaker}
use Rattle.nextest_config.specs.declared.nextest_version.experimental.ConfigExperimental.{ConfigExperimental}
use Rattle.nextest_config.specs.NextestVersion.SetLaws.{contains_cases, contains_first, contains_none}
use Rattle.nextest_config.proofs.Orders.{has_feature_iff}

-- ---- one role

module _ (role : Ask → Option Parts) where
  -- the greatest of a list stays it among asks before which none is greater, and after which none is as great
  stays : (front xs back : List SourceAsk) (kept : Kept) → AllByRecursion (AsksNoGreater role kept.version) front → IsGreatest role xs kept → AllByRecursion (AsksOther role kept.version) back
      → AllByRecursion (AsksNoGreater role kept.version) back → IsGreatest role (front ++ (xs ++ back)) kept
  stays front xs back kept below h others also_below = record {
    before = front ++ h.before;
    last = h.last;
    after = h.after ++ back;
    whole = ap (λ zs. front ++ (zs ++ back)) h.whole ∙ ap (λ zs. front ++ zs) (append_assoc h.before (h.last ∷ h.after) back) ∙ sym (append_assoc front h.before (h.last ∷ (h.after ++ back)));
    version = h.version;
    place = h.place;
    others_later = all_joined (AsksOther role kept.version) h.after back h.others_later others;
    none_greater = all_joined (AsksNoGreater role kept.version) front (xs ++ back) below (all_joined (AsksNoGreater role kept.version) xs back h.none_greater also_below);
  }

  takes_over : (xs ys : List SourceAsk) (kept : Kept) → AllByRecursion (AsksNoGreater role kept.version) xs → IsGreatest role ys kept → IsGreatest role (xs ++ ys) kept
  takes_over xs ys kept below h = subst (λ zs. IsGreatest role (xs ++ zs) kept) (append-nil ys) (stays xs ys [] kept below h tt tt)

  -- where none is asked, none greater is
  none_greater_than : (v : Parts) (xs : List SourceAsk) → AllByRecursion (AsksNone role) xs → AllByRecursion (AsksNoGreater role v) xs
  none_greater_than v = all_weaker (AsksNone role) (AsksNoGreater role v) (λ x none. rw none tt)

  pub stands_in_both : (xs ys : List SourceAsk) (earlier later : Option Kept) → StandsIn role xs earlier → StandsIn role ys later → StandsIn role (xs ++ ys) (join_kept earlier later)
  stands_in_both xs ys None None h k = all_joined (AsksNone role) xs ys h k
  stands_in_both xs ys None (Some later) h k = takes_over xs ys later (none_greater_than later.version xs h) k
  stands_in_both xs ys (Some earlier) None h k =
      stays [] xs ys earlier tt h (all_weaker (AsksNone role) (AsksOther role earlier.version) (λ x none is. cc (none, is)) ys k) (none_greater_than earlier.version ys k)
  stands_in_both xs ys (Some earlier) (Some later) h k = elim (cases_Bool (is_below later.version earlier.version)) [
    | inl below ↦
        let other = all_weaker (AsksNoGreater role later.version) (AsksOther role earlier.version)
        (λ x none is. subst (λ found. IfSome found (λ greater. ¬ IsBelow later.version greater)) is none below) ys k.none_greater in
        let no_greater = all_weaker (AsksNoGreater role later.version) (AsksNoGreater role earlier.version)
        (λ x none. IfSome_then (role x.ask) none (λ u not_above above. not_above (below_trans later.version earlier.version u below above))) ys k.none_greater in
        rw below (stays [] xs ys earlier tt h other no_greater)
    | inr above ↦
        let not_below : ¬ IsBelow later.version earlier.version = λ e. false≢true (sym above ∙ e) in
        let no_greater = all_weaker (AsksNoGreater role earlier.version) (AsksNoGreater role later.version)
        (λ x none. IfSome_then (role x.ask) none (λ u. not_below_trans later.version earlier.version u not_below)) xs h.none_greater in
        rw above (takes_over xs ys later no_greater k)
  ]

  pub stands_alone : (a : SourceAsk) (found : Option Parts) → role a.ask ≡ found → StandsIn role (a ∷ []) (role_from a.place found)
  stands_alone a None asks = (asks, tt)
  stands_alone a (Some v) asks = record { before = []; last = a; after = []; whole = refl; version = asks; place = refl; others_later = tt; none_greater = (rw asks (not_below_itself v), tt) }

-- ---- what is seen of a configuration

-- what is seen stands for the asks, whatever the order of the known features
pub record StandsSeen (asked : List SourceAsk) (seen : SeenConfiguration) : Type 0 where
  pub required : StandsIn (λ ask. ask.versions.required) asked seen.roles.required
  pub recommended : StandsIn (λ ask. ask.versions.recommended) asked seen.roles.recommended
  pub enabled : (feature : ConfigExperimental) → IsTrue (seen.experimental.enables feature) ↔ IsEnabledBySome asked feature
  pub unknown : seen.experimental.unknown ≡ flat_map entry_of asked
  pub arrays : seen.experimental.arrays ≡ flat_map array_of asked

pub seen_of : (asked : List SourceAsk) (c : Configuration) → StandsForAsks asked c → StandsSeen asked (seen_configuration c)
seen_of asked c h = record {
  required = h.required;
  recommended = h.recommended;
  enabled = λ feature. iff.trans (has_feature_iff feature c.experimental.known) (h.known.of_some feature);
  unknown = h.unknown;
  arrays = h.arrays;
}

stands_as : (asked : List SourceAsk) (seen : SeenConfiguration) (c : Configuration) → StandsSeen asked seen → IsSeenAs seen c → StandsForAsks asked c
stands_as asked seen c h is =
    let same : seen_configuration c ≡ seen = λ i. record { roles = is.roles i; experimental = is.experimental.same i } in
    let k : StandsSeen asked (seen_configuration c) = subst (StandsSeen asked) (sym same) h in
    record {
      required = k.required;
      recommended = k.recommended;
      known = record { of_some = λ feature. iff.trans (iff.symm (has_feature_iff feature c.experimental.known)) (k.enabled feature); in_order = is.experimental.in_order };
      unknown = k.unknown;
      arrays = k.arrays;
    }

seen_none : StandsSeen [] neutral_seen
seen_none = record { required = tt; recommended = tt; enabled = λ feature. (λ never. absurd (false≢true never), λ (one, there, known). absurd (contains_none there)); unknown = refl; arrays = refl }

seen_alone : (a : SourceAsk) → StandsSeen (a ∷ []) (seen_configuration (configuration_from a.place a.ask))
seen_alone a = record {
  required = stands_alone (λ ask. ask.versions.required) a a.ask.versions.required refl;
  recommended = stands_alone (λ ask. ask.versions.recommended) a a.ask.versions.recommended refl;
  enabled = λ feature. iff.trans (has_feature_iff feature a.ask.features.known) (
    λ known. (a, contains_first [] refl, known),
    λ (one, there, known). ⊎_elim (λ same. subst (λ (b : SourceAsk). Contains b.ask.features.known feature) (sym same) known) (λ none. absurd (contains_none none)) (contains_cases a [] there),
  );
  unknown = sym (append-nil (entry_of a));
  arrays = sym (append-nil (array_of a));
}

-- what stands for one list and what stands for another join to what stands for both in a row
seen_both : (xs ys : List SourceAsk) (a b : SeenConfiguration) → StandsSeen xs a → StandsSeen ys b → StandsSeen (xs ++ ys) (join_configurations a b)
seen_both xs ys a b h k = record {
  required = stands_in_both (λ ask. ask.versions.required) xs ys a.roles.required b.roles.required h.required k.required;
  recommended = stands_in_both (λ ask. ask.versions.recommended) xs ys a.roles.recommended b.roles.recommended h.recommended k.recommended;
  enabled = λ feature.
      let by_a = a.experimental.enables feature in
      let by_b = b.experimental.enables feature in (
        λ enabled. ⊎_elim (λ e. let (one, there, known) = (h.enabled feature).0 e in (one, Contains-append_left xs ys one there, known))
            (λ e. let (one, there, known) = (k.enabled feature).0 e in (one, Contains-append_right xs ys one there, known)) (or_cases by_a by_b enabled),
        λ (one, there, known). ⊎_elim (λ in_xs. or_left by_a by_b ((h.enabled feature).1 (one, in_xs, known))) (λ in_ys. or_right by_a by_b ((k.enabled feature).1 (one, in_ys, known)))
            (Contains-append_cases xs ys one there),
      );
  unknown = ap₂ (λ (us vs : List Unknown). us ++ vs) h.unknown k.unknown ∙ sym (flat_map-append entry_of xs ys);
  arrays = ap₂ (λ (ps qs : List SourcePlace). ps ++ qs) h.arrays k.arrays ∙ sym (flat_map-append array_of xs ys);
}

-- ---- the configuration

-- what an ask adds to nothing stands for it
pub stands_for_ask : (a : SourceAsk) (none new : Configuration) → none ≡ neutral → IsSeenAs (join_configurations (seen_configuration none) (seen_configuration (configuration_from a.place a.ask))) new → StandsForAsks (a ∷ []) new
stands_for_ask a none new is joined =
    let seen : SeenConfiguration = seen_configuration (configuration_from a.place a.ask) in
    stands_as (a ∷ []) seen new (seen_alone a) (subst (λ (c : Configuration). IsSeenAs (join_configurations (seen_configuration c) seen) new) is joined)

-- what stands for the ask of a source stands for the source
pub stands_for_read : (source : Source) (ask : Ask) (c : Configuration) → IsRead source ask → StandsForAsks (record { place = source.place; ask = ask } ∷ []) c → StandsForOne source c
stands_for_read source ask c read stands = (record { place = source.place; ask = ask } ∷ [], (record { place = refl; read = read }, tt), stands)

-- the neutral configuration stands for a source that asks nothing
pub stands_for_nothing : (source : Source) (none : Configuration) → none ≡ neutral → IsRead source nothing → StandsForOne source none
unfolding IsStrictlySortedBy
stands_for_nothing source none is read =
    stands_for_read source nothing none read (stands_for_ask (record { place = source.place; ask = nothing }) none none is (rw is (record { roles = refl; experimental = record { same = refl; in_order = tt } })))

-- ---- lists in a row

-- what is seen of all that stands for lists stands for the lists in a row
module _ {X Y : Type 0} (sources_of : X → List Source) (configuration_of : Y → Configuration) where
  abbrev pub total_of : List Y → SeenConfiguration
  total_of ys = total join_configurations neutral_seen (map (λ y. seen_configuration (configuration_of y)) ys)

  pub all_seen : (xs : List X) (ys : List Y) → AllZip (λ x y. StandsFor (sources_of x) (configuration_of y)) xs ys → (asked : List SourceAsk) × AreRead (flat_map sources_of xs) asked × StandsSeen asked (total_of ys)
  all_seen [] [] h = ([], tt, seen_none)
  all_seen [] (y ∷ ys) h = absurd h
  all_seen (x ∷ xs) [] h = absurd h
  all_seen (x ∷ xs) (y ∷ ys) h =
      let (asked, read, stands) = h.0 in
      let (more, more_read, rest) = all_seen xs ys h.1 in
      (asked ++ more, zip_joined IsReadAs (sources_of x) asked (flat_map sources_of xs) more read more_read, seen_both asked more (seen_configuration (configuration_of y)) (total_of ys) (seen_of asked (configuration_of y) stands) rest)

  -- the join of what stands for lists stands for the lists in a row
  pub stands_in_a_row : (xs : List X) (ys : List Y) (c : Configuration) → AllZip (λ x y. StandsFor (sources_of x) (configuration_of y)) xs ys → IsSeenAs (total_of ys) c → StandsFor (flat_map sources_of xs) c
  stands_in_a_row xs ys c stand is =
      let (asked, read, stands) = all_seen xs ys stand in
      (asked, read, stands_as asked (total_of ys) c stands is)

-- ---- a list that is read one by one

module _ {X Y : Type 0} (source_of : X → Source) (configuration_of : Y → Configuration) where
  abbrev StandForOne : X → Y → Type 0
  StandForOne x y = StandsForOne (source_of x) (configuration_of y)

  -- what is joined of configurations that stand for one source each stands for the list
  pub stands_for_all : (xs : List X) (c : Configuration) → FeaturesInOrder c.experimental.known
      → IsJoinOfPieces join_configurations neutral_seen (λ y. seen_configuration (configuration_of y)) StandForOne xs (seen_configuration c) → StandsFor (map source_of xs) c
  stands_for_all xs c in_order (ys, stand, joined) = subst (λ sources. StandsFor sources c) (flat_map_single source_of xs)
      (stands_in_a_row (λ x. source_of x ∷ []) configuration_of xs ys c stand (record {
        roles = ap (λ (seen : SeenConfiguration). seen.roles) joined;
        experimental = record { same = ap (λ (seen : SeenConfiguration). seen.experimental) joined; in_order = in_order };
      }))

  pub reads_all : (xs : List X) → HavePieces StandForOne xs → Reads (map source_of xs)
  reads_all xs (ys, stand) =
      let (asked, read, stands) = all_seen (λ x. source_of x ∷ []) configuration_of xs ys stand in
      subst Reads (flat_map_single source_of xs) (asked, read)
