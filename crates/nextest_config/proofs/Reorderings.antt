-- A list that is read in another order.
use Rattle.std.proofs.Common.{rules, ◌≡◌, ◌<◌, ℕ, zero, suc, Bool, List, [], ◌∷◌, ◌++◌, length, get_or, set, flat_map, Option, Some, None, option_map, refl, sym, ap, subst, append_assoc, arith}
use Rattle.std.proofs.lemmas.List.Sorted.{All-permutation, Contains-permutation, IsPermutation-append_comm, IsPermutation-append_left, IsPermutation-append_right, IsPermutation-keeps, IsPermutation-refl, IsPermutation-swap, IsPermutation-sym, IsPermutation-trans}
use Rattle.std.proofs.lemmas.List.Elements.{All-from_recursion, recursion_from_All}
use Rattle.std.proofs.lemmas.Slice.Zip.{AllZip-long}
use Rattle.std.specs.List.{AllByRecursion, AllZip, swap}
use Rattle.semver.specs.Parse.{Parts}
use Rattle.nextest_config.specs.Merge.{IsReordering}
use Rattle.nextest_config.specs.NextestVersion.{Ask, features_in_one_order, SourcePlace, Agree, array_of, AsksNoGreater, AsksNone, Configuration, entry_of, IsEnabledBySome, IsReadAs, Kept, kept_version, not_met, Reads, SaysTheSame, SourceAsk, StandsFor, StandsForAsks, StandsIn, Unknown, verdict_by}
use Rattle.nextest_config.specs.NextestVersion.Source.{Source}
use Rattle.nextest_config.specs.declared.nextest_version.experimental.ConfigExperimental.{ConfigExperimental}
use Rattle.toml_spans.proofs.Elements.{all_weaker}
use Rattle.nextest_config.proofs.OneConfiguration.{none_kept, one_greatest_version}
use Rattle.nextest_config.proofs.OneVerdict.{all_plain, all_read_once, IsPlainAsked, IsPlainVersion}

-- ---- lists in another order

all_reordered : {X : Type 0} (P : X → Type 0) (xs ys : List X) → IsReordering xs ys → AllByRecursion P xs → AllByRecursion P ys
all_reordered P xs ys order all = recursion_from_All P ys (All-permutation P xs ys order (All-from_recursion P xs all))

-- the lists that the elements give, in a row
module _ {X Y : Type 0} (f : X → List Y) where
  swap_fronts : (us vs ws : List Y) → IsReordering (us ++ (vs ++ ws)) (vs ++ (us ++ ws))
  swap_fronts us vs ws = subst (λ xs. IsReordering xs (vs ++ (us ++ ws))) (append_assoc us vs ws)
      (subst (IsReordering ((us ++ vs) ++ ws)) (append_assoc vs us ws) (IsPermutation-append_left ws (us ++ vs) (vs ++ us) (IsPermutation-append_comm us vs)))

  -- an element in front of a list changes places with one in it
  exchanged : (x : X) (xs : List X) (i : ℕ) (d : X) → i < length xs → IsReordering (f x ++ flat_map f xs) (f (get_or xs i d) ++ flat_map f (set xs i x))
  exchanged x [] i d within = absurd (omega (arith, within))
  exchanged x (y ∷ xs) zero d within = swap_fronts (f x) (f y) (flat_map f xs)
  exchanged x (y ∷ xs) (suc i) d within =
      let other = f (get_or xs i d) in
      let later = IsPermutation-append_right (f y) (f x ++ flat_map f xs) (other ++ flat_map f (set xs i x)) (exchanged x xs i d (omega (arith, within))) in
      IsPermutation-trans _ (f y ++ (f x ++ flat_map f xs)) _ (swap_fronts (f x) (f y) (flat_map f xs))
      (IsPermutation-trans _ (f y ++ (other ++ flat_map f (set xs i x))) _ later (swap_fronts (f y) other (flat_map f (set xs i x))))

  swapped : (xs : List X) (i j : ℕ) (d : X) → i < length xs → j < length xs → IsReordering (flat_map f xs) (flat_map f (set (set xs i (get_or xs j d)) j (get_or xs i d)))
  swapped [] i j d i_within j_within = absurd (omega (arith, i_within))
  swapped (x ∷ xs) zero zero d i_within j_within = IsPermutation-refl (f x ++ flat_map f xs)
  swapped (x ∷ xs) zero (suc j) d i_within j_within = exchanged x xs j d (omega (arith, j_within))
  swapped (x ∷ xs) (suc i) zero d i_within j_within = exchanged x xs i d (omega (arith, i_within))
  swapped (x ∷ xs) (suc i) (suc j) d i_within j_within =
      IsPermutation-append_right (f x) (flat_map f xs) (flat_map f (set (set xs i (get_or xs j d)) j (get_or xs i d))) (swapped xs i j d (omega (arith, i_within)) (omega (arith, j_within)))

  swapped_once : (xs : List X) (i j : ℕ) → i < length xs → j < length xs → IsReordering (flat_map f xs) (flat_map f (swap xs i j))
  swapped_once [] i j i_within j_within = absurd (omega (arith, i_within))
  swapped_once (x ∷ xs) i j i_within j_within = swapped (x ∷ xs) i j x i_within j_within

  flat_map_reordered : (xs ys : List X) → IsReordering xs ys → IsReordering (flat_map f xs) (flat_map f ys)
  flat_map_reordered xs ys = IsPermutation-keeps xs (λ zs. IsReordering (flat_map f xs) (flat_map f zs)) (IsPermutation-refl (flat_map f xs))
      (λ zs i j i_within j_within so_far. IsPermutation-trans (flat_map f xs) (flat_map f zs) (flat_map f (swap zs i j)) so_far (swapped_once zs i j i_within j_within)) ys

-- pairs of two lists change places together
module _ {X Y : Type 0} (R : X → Y → Type 0) where
  zip_at : (xs : List X) (ys : List Y) (i : ℕ) (d : X) (e : Y) → i < length xs → AllZip R xs ys → R (get_or xs i d) (get_or ys i e)
  zip_at [] ys i d e within h = absurd (omega (arith, within))
  zip_at (x ∷ xs) [] i d e within h = absurd h
  zip_at (x ∷ xs) (y ∷ ys) zero d e within h = h.0
  zip_at (x ∷ xs) (y ∷ ys) (suc i) d e within h = zip_at xs ys i d e (omega (arith, within)) h.1

  pub zip_set : (xs : List X) (ys : List Y) (i : ℕ) (x : X) (y : Y) → R x y → AllZip R xs ys → AllZip R (set xs i x) (set ys i y)
  zip_set [] [] i x y r h = h
  zip_set [] (v ∷ ys) i x y r h = absurd h
  zip_set (u ∷ xs) [] i x y r h = absurd h
  zip_set (u ∷ xs) (v ∷ ys) zero x y r h = (r, h.1)
  zip_set (u ∷ xs) (v ∷ ys) (suc i) x y r h = (h.0, zip_set xs ys i x y r h.1)

  zip_swapped : (xs : List X) (ys : List Y) (i j : ℕ) → i < length xs → j < length xs → AllZip R xs ys → AllZip R (swap xs i j) (swap ys i j)
  zip_swapped [] ys i j i_within j_within h = absurd (omega (arith, i_within))
  zip_swapped (x ∷ xs) [] i j i_within j_within h = absurd h
  zip_swapped (x ∷ xs) (y ∷ ys) i j i_within j_within h =
      zip_set (set (x ∷ xs) i (get_or (x ∷ xs) j x)) (set (y ∷ ys) i (get_or (y ∷ ys) j y)) j (get_or (x ∷ xs) i x) (get_or (y ∷ ys) i y) (zip_at (x ∷ xs) (y ∷ ys) i x y i_within h)
      (zip_set (x ∷ xs) (y ∷ ys) i (get_or (x ∷ xs) j x) (get_or (y ∷ ys) j y) (zip_at (x ∷ xs) (y ∷ ys) j x y j_within h) h)

  -- the partners of a reordered list are those of the list, reordered
  abbrev HasPartners : List Y → List X → Type 0
  HasPartners ys xs = (others : List Y) × AllZip R xs others × IsReordering ys others

  partners : (xs : List X) (ys : List Y) (zs : List X) → AllZip R xs ys → IsReordering xs zs → HasPartners ys zs
  partners xs ys zs h = IsPermutation-keeps xs (HasPartners ys) (ys, h, IsPermutation-refl ys)
      (λ us i j i_within j_within (vs, paired, order).
      let long = AllZip-long R us vs paired in
      (swap vs i j, zip_swapped us vs i j i_within j_within paired, IsPermutation-trans ys vs (swap vs i j) order (IsPermutation-swap vs (swap vs i j) i j (omega (arith, long, i_within)) (omega (arith, long, j_within)) refl))) zs

-- ---- which lists read

pub reads_reordered : (sources reordered : List Source) → IsReordering sources reordered → Reads sources → Reads reordered
reads_reordered sources reordered order (asked, read) =
    let (others, other_read, asks) = partners IsReadAs sources asked reordered read order in
    (others, other_read)

-- ---- the verdicts of roles that keep the same versions

abbrev AreAlike : Option Kept → Option Kept → Type 0
AreAlike kept other = option_map kept_version kept ≡ option_map kept_version other

unmet_alike : (kept other : Option Kept) (current : Parts) → AreAlike kept other → AreAlike (not_met kept current) (not_met other current)
unmet_alike kept other current same = search rules

judged_alike : (r m s n : Option Kept) (current : Parts) (overridden : Bool) → AreAlike r s → AreAlike m n → SaysTheSame (verdict_by r m current overridden) (verdict_by s n current overridden)
judged_alike r m s n current overridden same other = search rules

-- ---- what stands for both

module _ (role : Ask → Option Parts) where
  kept_alike : (asked others : List SourceAsk) (kept other : Option Kept) → IsReordering asked others → AllByRecursion (λ a. IsPlainVersion (role a.ask)) asked → StandsIn role asked kept → StandsIn role others other → AreAlike kept other
  kept_alike asked others None None order plain h k = refl
  kept_alike asked others None (Some other) order plain h k = absurd (none_kept role others other k (all_reordered (AsksNone role) asked others order h))
  kept_alike asked others (Some kept) None order plain h k = absurd (none_kept role asked kept h (all_reordered (AsksNone role) others asked (IsPermutation-sym asked others order) k))
  kept_alike asked others (Some kept) (Some other) order plain h k = ap Some (one_greatest_version role asked others kept other plain (all_reordered (λ a. IsPlainVersion (role a.ask)) asked others order plain) h k
      (all_reordered (AsksNoGreater role other.version) others asked (IsPermutation-sym asked others order) k.none_greater) (all_reordered (AsksNoGreater role kept.version) asked others order h.none_greater))

enabled_reordered : (asked others : List SourceAsk) (feature : ConfigExperimental) → IsReordering asked others → IsEnabledBySome asked feature → IsEnabledBySome others feature
enabled_reordered asked others feature order (one, there, known) = (one, Contains-permutation asked others one order there, known)

asks_agree : (asked others : List SourceAsk) (c d : Configuration) → IsReordering asked others → AllByRecursion IsPlainAsked asked → StandsForAsks asked c → StandsForAsks others d → Agree c d
asks_agree asked others c d order plain h k =
    let required = kept_alike (λ ask. ask.versions.required) asked others c.roles.required d.roles.required order (all_weaker IsPlainAsked _ (λ a p. p.of_required) asked plain) h.required k.required in
    let recommended = kept_alike (λ ask. ask.versions.recommended) asked others c.roles.recommended d.roles.recommended order (all_weaker IsPlainAsked _ (λ a p. p.of_recommended) asked plain) h.recommended k.recommended in
    record {
      required = required;
      recommended = recommended;
      known = features_in_one_order c.experimental.known d.experimental.known h.known.in_order k.known.in_order (λ feature. (
        λ known. (k.known.of_some feature).1 (enabled_reordered asked others feature order ((h.known.of_some feature).0 known)),
        λ known. (h.known.of_some feature).1 (enabled_reordered others asked feature (IsPermutation-sym asked others order) ((k.known.of_some feature).0 known)),
      ));
      unknown = subst (λ (us : List Unknown). IsReordering us d.experimental.unknown) (sym h.unknown) (subst (IsReordering (flat_map entry_of asked)) (sym k.unknown) (flat_map_reordered entry_of asked others order));
      arrays = subst (λ (ps : List SourcePlace). IsReordering ps d.experimental.arrays) (sym h.arrays) (subst (IsReordering (flat_map array_of asked)) (sym k.arrays) (flat_map_reordered array_of asked others order));
      verdicts = λ current overridden. judged_alike (not_met c.roles.required current) (not_met c.roles.recommended current) (not_met d.roles.required current) (not_met d.roles.recommended current) current overridden
          (unmet_alike c.roles.required d.roles.required current required) (unmet_alike c.roles.recommended d.roles.recommended current recommended);
    }

pub agree_reordered : (sources reordered : List Source) (c d : Configuration) → IsReordering sources reordered → StandsFor sources c → StandsFor reordered d → Agree c d
agree_reordered sources reordered c d order (asked, read, h) (others, other_read, k) =
    let (found, found_read, asks) = partners IsReadAs sources asked reordered read order in
    let same = all_read_once reordered found others found_read other_read in
    asks_agree asked others c d (subst (IsReordering asked) same asks) (all_plain sources asked read) h k
