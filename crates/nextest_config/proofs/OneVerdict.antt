-- A list of sources has one selected verdict, and none less grave where a source is added.
use Rattle.std.proofs.Common.{rules, ◌≡◌, ℕ, ◌≤◌, Bool, List, [], ◌∷◌, ◌++◌, map, Option, Some, IfSome, refl, sym, ◌∙◌, inl, inr, subst, arith}
use Rattle.std.specs.List.{AllByRecursion}
use Rattle.semver.specs.Parse.{Parts}
use Rattle.toml.specs.Data.{Data}
use Rattle.nextest_config.specs.NextestVersion.Source.{Source}
use Rattle.nextest_config.specs.NextestVersion.Verdict.{Verdict}
use Rattle.nextest_config.specs.NextestVersion.{Ask, IsBelow, Numbers, plain, TextAsks, version_reading, Versions, alone, AreRead, gravity, IsGravest, IsNoGraver, IsNoGreaterOfItsKind, IsOtherOfItsKind, IsSatisfied, IsSelected, IsSelectedFor, Kept, named_version, NamesNoGreater, not_met, role_from, SourceAsk, verdict_by}
use Rattle.nextest_config.specs.NextestVersion.VersionOnlyLaws.{read_once}
use Rattle.toml_spans.proofs.Elements.{one_last}
use Rattle.nextest_config.proofs.Lists.{all_mapped}
use Rattle.nextest_config.specs.declared.nextest_version.edition.Edition.{Edition}
use Rattle.nextest_config.specs.declared.nextest_version.source.ConfigSourceKind.{ConfigSourceKind}
use Rattle.nextest_config.proofs.Verdicts.{all_unmapped, no_graver_than_all, none_graver, stands_in, unmet_alone}

-- ---- sources ask one thing

pub all_read_once : (sources : List Source) (a b : List SourceAsk) → AreRead sources a → AreRead sources b → a ≡ b
all_read_once [] [] [] h k = refl
all_read_once [] (x ∷ a) b h k = absurd h
all_read_once [] [] (y ∷ b) h k = absurd k
all_read_once (source ∷ sources) [] b h k = absurd h
all_read_once (source ∷ sources) (x ∷ a) [] h k = absurd k
all_read_once (source ∷ sources) (x ∷ a) (y ∷ b) h k = rw (read_once source x y h.0 k.0, all_read_once sources a b h.1 k.1) refl

-- ---- and versions with numbers alone

abbrev pub IsPlainVersion : Option Parts → Type 0
IsPlainVersion asked = IfSome asked (λ version. (numbers : Numbers) × (version ≡ plain numbers))

pub record AsksPlain (versions : Versions) : Type 0 where
  pub of_required : IsPlainVersion versions.required
  pub of_recommended : IsPlainVersion versions.recommended

version_plain : (value : Data) (version : Parts) → version_reading.means value version → IsPlainVersion (Some version)
version_plain value version h = search rules

pub text_plain : (edition : Edition) (kind : ConfigSourceKind) (contents : Option (List ℕ)) (ask : Ask) → TextAsks edition kind contents ask → AsksPlain ask.versions
text_plain edition kind contents ask h = search rules

abbrev pub IsPlainAsked : SourceAsk → Type 0
IsPlainAsked asked = AsksPlain asked.ask.versions

pub all_plain : (sources : List Source) (asked : List SourceAsk) → AreRead sources asked → AllByRecursion IsPlainAsked asked
all_plain [] [] h = tt
all_plain [] (a ∷ asked) h = absurd h
all_plain (source ∷ sources) [] h = absurd h
all_plain (source ∷ sources) (a ∷ asked) h = (text_plain source.edition source.place.kind source.contents a.ask h.0.read, all_plain sources asked h.1)

-- ---- and so do their verdicts

abbrev NamesPlain : Verdict → Type 0
NamesPlain v = IsPlainVersion (named_version v)

judged_plain : (current : Parts) (overridden : Bool) (a : SourceAsk) (r m : Option Kept) → IsPlainAsked a → not_met (role_from a.place a.ask.versions.required) current ≡ r → not_met (role_from a.place a.ask.versions.recommended) current ≡ m
    → NamesPlain (verdict_by r m current overridden)
judged_plain current overridden a r m h r_is m_is = search (rules, unmet_alone)

selected_plain : (asked : List SourceAsk) (current : Parts) (overridden : Bool) (v : Verdict) → AllByRecursion IsPlainAsked asked → IsSelected (map (alone current overridden) asked) v → NamesPlain v
selected_plain asked current overridden v h (inl all) = rw all.1 tt
selected_plain asked current overridden v h (inr gravest) =
    stands_in NamesPlain _ v gravest (all_mapped IsPlainAsked NamesPlain (alone current overridden) (λ a is. judged_plain current overridden a _ _ is refl refl) asked h)

-- ---- versions with numbers alone that aren't below each other are one

pub same_version : (v w : Parts) → IsPlainVersion (Some v) → IsPlainVersion (Some w) → ¬ IsBelow v w → ¬ IsBelow w v → v ≡ w
same_version v w p q above below = search rules

same_named : (v w : Verdict) → gravity v ≡ gravity w → NamesPlain v → NamesPlain w → NamesNoGreater v w → NamesNoGreater w v → named_version v ≡ named_version w
same_named v w e p q h k = search (rules, arith, same_version)

-- ---- one verdict is selected

one_gravest : (verdicts : List Verdict) (v w : Verdict) → NamesPlain v → NamesPlain w → IsGravest verdicts v → IsGravest verdicts w → v ≡ w
one_gravest verdicts v w p q h k =
    let w_below : gravity w ≤ gravity v = stands_in (IsNoGraver v) verdicts w k h.gravest in
    let v_below : gravity v ≤ gravity w = stands_in (IsNoGraver w) verdicts v h k.gravest in
    let kind : gravity v ≡ gravity w = omega (arith, w_below, v_below) in
    let named = same_named v w kind p q (stands_in (IsNoGreaterOfItsKind v) verdicts w k h.no_greater (sym kind)) (stands_in (IsNoGreaterOfItsKind w) verdicts v h k.no_greater kind) in
    one_last (IsOtherOfItsKind v) (IsOtherOfItsKind w) v w h.before k.before h.after k.after (λ other. other (sym kind) (sym named)) (λ other. other kind named) (sym h.whole ∙ k.whole) h.last k.last

one_selected : (verdicts : List Verdict) (v w : Verdict) → NamesPlain v → NamesPlain w → IsSelected verdicts v → IsSelected verdicts w → v ≡ w
one_selected verdicts v w p q (inl h) (inl k) = h.1 ∙ sym k.1
one_selected verdicts v w p q (inl h) (inr k) = h.1 ∙ sym (stands_in IsSatisfied verdicts w k h.0)
one_selected verdicts v w p q (inr h) (inl k) = stands_in IsSatisfied verdicts v h k.0 ∙ sym k.1
one_selected verdicts v w p q (inr h) (inr k) = one_gravest verdicts v w p q h k

pub verdict_once : (sources : List Source) (current : Parts) (overridden : Bool) (v w : Verdict) → IsSelectedFor sources current overridden v → IsSelectedFor sources current overridden w → v ≡ w
verdict_once sources current overridden v w h k =
    let same : k.0 ≡ h.0 = sym (all_read_once sources h.0 k.0 h.1 k.1) in
    let plain_asks = all_plain sources h.0 h.1 in
    let other : IsSelected (map (alone current overridden) h.0) w = subst (λ (asked : List SourceAsk). IsSelected (map (alone current overridden) asked) w) same k.2 in
    one_selected (map (alone current overridden) h.0) v w (selected_plain h.0 current overridden v plain_asks h.2) (selected_plain h.0 current overridden w plain_asks other) h.2 other

-- ---- a source that is added never lowers the severity

-- what the other sources ask, of which something holds where it holds of what all ask
without : (P : SourceAsk → Type 0) (before : List Source) (source : Source) (after : List Source) (asked : List SourceAsk) → AreRead (before ++ (source ∷ after)) asked → AllByRecursion P asked
    → (others : List SourceAsk) × AreRead (before ++ after) others × AllByRecursion P others
without P [] source after [] h all = absurd h
without P [] source after (a ∷ asked) h all = (asked, h.1, all.1)
without P (s ∷ before) source after [] h all = absurd h
without P (s ∷ before) source after (a ∷ asked) h all =
    let (others, read, rest) = without P before source after asked h.1 all.1 in
    (a ∷ others, (h.0, read), (all.0, rest))

pub no_less_grave : (before after : List Source) (added : Source) (current : Parts) (overridden : Bool) (v w : Verdict) → IsSelectedFor (before ++ after) current overridden v
    → IsSelectedFor (before ++ (added ∷ after)) current overridden w → IsNoGraver w v
no_less_grave before after added current overridden v w (asked, read, selected) (more, more_read, more_selected) =
    let tells : SourceAsk → Verdict = alone current overridden in
    let AsGrave : SourceAsk → Type 0 = λ a. IsNoGraver w (tells a) in
    let (others, other_read, all) = without AsGrave before added after more more_read (all_unmapped (IsNoGraver w) tells more (none_graver (map tells more) w more_selected)) in
    let same : others ≡ asked = all_read_once (before ++ after) others asked other_read read in
    no_graver_than_all (map tells asked) v w selected (all_mapped AsGrave (IsNoGraver w) tells (λ a h. h) asked (subst (AllByRecursion AsGrave) same all))
