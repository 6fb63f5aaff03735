-- One configuration stands for a list of sources.
use Rattle.std.proofs.Common.{rules, ◌≡◌, List, Option, Some, IfSome, sym, ap, ◌∙◌, subst, ap₂}
use mathlib.Core.Logic.Iff as iff
use Rattle.std.specs.List.{AllByRecursion}
use Rattle.semver.specs.Parse.{Parts}
use Rattle.nextest_config.specs.NextestVersion.Source.{Source}
use Rattle.nextest_config.specs.NextestVersion.{Ask, features_in_one_order, IsBelow, SourcePlace, AreRead, AsksNoGreater, AsksNone, AsksOther, Configuration, IsGreatest, Kept, seen_configuration, SeenConfiguration, SourceAsk, StandsFor, StandsForAsks, StandsIn}
use Rattle.nextest_config.specs.NextestVersion.ExperimentalLaws.{same_truth}
use Rattle.nextest_config.specs.declared.nextest_version.experimental.ConfigExperimental.{ConfigExperimental}
use Rattle.toml_spans.proofs.Elements.{all_middle, all_weaker, one_last}
use Rattle.nextest_config.proofs.OneVerdict.{IsPlainAsked, IsPlainVersion, all_plain, all_read_once, same_version}
use Rattle.nextest_config.proofs.Standing.{seen_of, StandsSeen}

module _ (role : Ask → Option Parts) where
  -- what holds of all holds of the last that asks the kept version
  of_last : (P : SourceAsk → Type 0) (asked : List SourceAsk) (kept : Kept) (h : IsGreatest role asked kept) → AllByRecursion P asked → P h.last
  of_last P asked kept h all = all_middle P h.before h.last h.after (subst (AllByRecursion P) h.whole all)

  not_greater : (asked : List SourceAsk) (kept : Kept) (v : Parts) → IsGreatest role asked kept → AllByRecursion (AsksNoGreater role v) asked → ¬ IsBelow v kept.version
  not_greater asked kept v h none = subst (λ found. IfSome found (λ greater. ¬ IsBelow v greater)) h.version (of_last (AsksNoGreater role v) asked kept h none)

  pub none_kept : (asked : List SourceAsk) (kept : Kept) → IsGreatest role asked kept → AllByRecursion (AsksNone role) asked → ⊥
  none_kept asked kept h none = cc (h.version, of_last (AsksNone role) asked kept h none)

  -- the greatest of two lists are one version, where neither list asks a greater one
  pub one_greatest_version : (asked others : List SourceAsk) (kept other : Kept) → AllByRecursion (λ a. IsPlainVersion (role a.ask)) asked → AllByRecursion (λ a. IsPlainVersion (role a.ask)) others → IsGreatest role asked kept → IsGreatest role others other
      → AllByRecursion (AsksNoGreater role other.version) asked → AllByRecursion (AsksNoGreater role kept.version) others → kept.version ≡ other.version
  one_greatest_version asked others kept other plain other_plain h k below above =
      let of_kept : IsPlainVersion (Some kept.version) = subst IsPlainVersion h.version (of_last (λ a. IsPlainVersion (role a.ask)) asked kept h plain) in
      let of_other : IsPlainVersion (Some other.version) = subst IsPlainVersion k.version (of_last (λ a. IsPlainVersion (role a.ask)) others other k other_plain) in
      same_version kept.version other.version of_kept of_other (not_greater others other kept.version k above) (not_greater asked kept other.version h below)

  one_greatest : (asked : List SourceAsk) (kept other : Kept) → AllByRecursion (λ a. IsPlainVersion (role a.ask)) asked → IsGreatest role asked kept → IsGreatest role asked other → kept ≡ other
  one_greatest asked kept other plain h k =
      let version : kept.version ≡ other.version = one_greatest_version asked asked kept other plain plain h k k.none_greater h.none_greater in
      let last : h.last ≡ k.last = one_last (AsksOther role kept.version) (AsksOther role other.version) h.last k.last h.before k.before h.after k.after (λ apart. apart (k.version ∙ ap Some (sym version))) (λ apart. apart (h.version ∙ ap Some version)) (sym h.whole ∙ k.whole) h.others_later k.others_later in
      ap₂ (λ (version : Parts) (place : SourcePlace). record { version = version; place = place }) version (sym h.place ∙ ap (λ (a : SourceAsk). a.place) last ∙ k.place)

  pub one_kept : (asked : List SourceAsk) (kept other : Option Kept) → AllByRecursion (λ a. IsPlainVersion (role a.ask)) asked → StandsIn role asked kept → StandsIn role asked other → kept ≡ other
  one_kept asked kept other plain h k = search (rules, none_kept, one_greatest)

-- one thing is seen of what stands for sources
pub seen_once : (sources : List Source) (asked : List SourceAsk) (s t : SeenConfiguration) → AreRead sources asked → StandsSeen asked s → StandsSeen asked t → s ≡ t
seen_once sources asked s t read h k =
    let plain = all_plain sources asked read in
    let required = one_kept (λ ask. ask.versions.required) asked _ _ (all_weaker IsPlainAsked _ (λ a p. p.of_required) asked plain) h.required k.required in
    let recommended = one_kept (λ ask. ask.versions.recommended) asked _ _ (all_weaker IsPlainAsked _ (λ a p. p.of_recommended) asked plain) h.recommended k.recommended in
    let enables : (feature : ConfigExperimental) → s.experimental.enables feature ≡ t.experimental.enables feature = λ feature. same_truth _ _ (iff.trans (h.enabled feature) (iff.symm (k.enabled feature))) in
    let unknown = h.unknown ∙ sym k.unknown in
    let arrays = h.arrays ∙ sym k.arrays in
    λ i. record { roles = record { required = required i; recommended = recommended i }; experimental = record { enables = λ feature. enables feature i; unknown = unknown i; arrays = arrays i } }

pub configuration_once : (sources : List Source) (c d : Configuration) → StandsFor sources c → StandsFor sources d → c ≡ d
configuration_once sources c d (asked, read, h) (more, more_read, k) =
    let other : StandsForAsks asked d = subst (λ xs. StandsForAsks xs d) (all_read_once sources more asked more_read read) k in
    let seen = seen_once sources asked (seen_configuration c) (seen_configuration d) read (seen_of asked c h) (seen_of asked d other) in
    let known = features_in_one_order c.experimental.known d.experimental.known h.known.in_order other.known.in_order (λ f. iff.trans (h.known.of_some f) (iff.symm (other.known.of_some f))) in
    λ i. record { roles = (seen i).roles; experimental = record { known = known i; unknown = (seen i).experimental.unknown; arrays = (seen i).experimental.arrays } }
