-- Laws of verdicts: whence they come, and what a greater current version is told.
use Rattle.std.proofs.Common.{rules, ◌≡◌, ◌≢◌, ◌↔◌, ◌≤◌, Bool, drop, get_or, List, [], ◌∷◌, ◌++◌, map, Option, Some, None, refl, sym, ap, ◌∙◌, inl, inr, subst, arith}
use Rattle.std.proofs.lemmas.Bool.{false≢true}
use Rattle.std.specs.List.{AllByRecursion}
use Rattle.semver.specs.Parse.{Parts}
use Rattle.nextest_config.specs.NextestVersion.Verdict.{Verdict}
use Rattle.nextest_config.specs.NextestVersion.{IsBelow, SourcePlace, alone, gravity, IsFromSource, IsGravest, IsNoGraver, IsSatisfied, IsSelected, Kept, named_place, not_met, role_from, Roles, roles_from, satisfied, Shortfall, SourceAsk, verdict, verdict_by, warn}
use Rattle.nextest_config.proofs.Lists.{all_mapped}
use Rattle.toml_spans.proofs.Elements.{all_middle, all_weaker}
use Rattle.nextest_config.specs.NextestVersion.PrecedenceLaws.{not_below_trans}
use Rattle.nextest_config.proofs.Selection.{enough_met, not_short, unmet_is}

-- ---- whence a verdict comes

-- an unmet version of a source is the one that it asks, at its place
pub unmet_alone : (place : SourcePlace) (asked : Option Parts) (current : Parts) (kept : Kept) → not_met (role_from place asked) current ≡ Some kept → (asked ≡ Some kept.version) × (kept.place ≡ place)
unmet_alone place asked current kept e = search (rules, unmet_is)

names_its_place : (current : Parts) (overridden : Bool) (a : SourceAsk) (r m : Option Kept) → not_met (role_from a.place a.ask.versions.required) current ≡ r → not_met (role_from a.place a.ask.versions.recommended) current ≡ m
    → verdict_by r m current overridden ≢ satisfied → named_place (verdict_by r m current overridden) ≡ Some a.place
names_its_place current overridden a r m r_is m_is told = search (rules, unmet_alone)

-- a verdict among those of the sources alone, unless it is satisfied
comes_from : (current : Parts) (overridden : Bool) (asked : List SourceAsk) (before : List Verdict) (v : Verdict) (after : List Verdict) → map (alone current overridden) asked ≡ before ++ (v ∷ after) → v ≢ satisfied
    → IsFromSource current overridden asked v
comes_from current overridden [] [] v after e told = cc e
comes_from current overridden [] (b ∷ before) v after e told = cc e
comes_from current overridden (a ∷ asked) [] v after e told =
    let is : alone current overridden a ≡ v = ap (λ verdicts. get_or verdicts 0 v) e in
    record { before = []; source = a; after = asked; whole = refl; given = is; named = subst (λ w. named_place w ≡ Some a.place) is (names_its_place current overridden a _ _ refl refl (λ met. told (sym is ∙ met))) }
comes_from current overridden (a ∷ asked) (b ∷ before) v after e told =
    let rest = comes_from current overridden asked before v after (ap (drop 1) e) told in
    record { before = a ∷ rest.before; source = rest.source; after = rest.after; whole = ap (λ xs. a ∷ xs) rest.whole; given = rest.given; named = rest.named }

-- a selected verdict that isn't satisfied is that of a source alone, whose place it names
pub from_source : (asked : List SourceAsk) (current : Parts) (overridden : Bool) (v : Verdict) → IsSelected (map (alone current overridden) asked) v → v ≢ satisfied
    → IsFromSource current overridden asked v
from_source asked current overridden v (inl all) told = absurd (told all.1)
from_source asked current overridden v (inr gravest) told = comes_from current overridden asked gravest.before v gravest.after gravest.whole told

no_gravity : (v : Verdict) → gravity v ≤ 0 → v ≡ satisfied
no_gravity v h = search (rules, arith)

-- what holds of all verdicts holds of the gravest
pub stands_in : (P : Verdict → Type 0) (verdicts : List Verdict) (v : Verdict) → IsGravest verdicts v → AllByRecursion P verdicts → P v
stands_in P verdicts v gravest all = all_middle P gravest.before v gravest.after (subst (AllByRecursion P) gravest.whole all)

pub satisfied_where_all : (verdicts : List Verdict) (v : Verdict) → IsSelected verdicts v → (v ≡ satisfied) ↔ AllByRecursion IsSatisfied verdicts
satisfied_where_all verdicts v (inl all) = (λ e. all.0, λ h. all.1)
satisfied_where_all verdicts v (inr gravest) = (
  λ e. all_weaker (IsNoGraver v) IsSatisfied (λ w h. no_gravity w (subst (λ (u : Verdict). gravity w ≤ gravity u) e h)) verdicts gravest.gravest,
  stands_in IsSatisfied verdicts v gravest,
)

-- ---- a recommended version that isn't greater than the required one

pub no_warning : (required recommended : Kept) (current : Parts) (overridden : Bool) (s : Shortfall) → ¬ IsBelow required.version recommended.version
    → verdict (record { required = Some required; recommended = Some recommended }) current overridden ≢ warn s
no_warning required recommended current overridden s lower e =
    let step = not_below_trans current required.version recommended.version in
    search (rules, step, false≢true)

-- ---- a greater current version

still_met : (kept : Option Kept) (lesser greater : Parts) → ¬ IsBelow greater lesser → not_met kept lesser ≡ None → not_met kept greater ≡ None
still_met None lesser greater above met = refl
still_met (Some kept) lesser greater above met = enough_met kept greater (not_below_trans greater lesser kept.version above (not_short kept lesser met))

at_most_error : (v : Verdict) → gravity v ≤ 2
at_most_error v = search (rules, arith)

at_most_warning : (m : Option Kept) (current : Parts) (overridden : Bool) → gravity (verdict_by None m current overridden) ≤ 1
at_most_warning m current overridden = search (rules, arith)

no_graver_by : (roles : Roles) (lesser greater : Parts) (overridden : Bool) (r m : Option Kept) → ¬ IsBelow greater lesser → not_met roles.required lesser ≡ r → not_met roles.recommended lesser ≡ m
    → IsNoGraver (verdict_by r m lesser overridden) (verdict roles greater overridden)
no_graver_by roles lesser greater overridden r m above r_is m_is = search (rules, arith, at_most_error, at_most_warning, still_met)

pub no_graver_greater : (roles : Roles) (lesser greater : Parts) (overridden : Bool) → ¬ IsBelow greater lesser → IsNoGraver (verdict roles lesser overridden) (verdict roles greater overridden)
no_graver_greater roles lesser greater overridden above = no_graver_by roles lesser greater overridden _ _ above refl refl

pub none_graver : (verdicts : List Verdict) (v : Verdict) → IsSelected verdicts v → AllByRecursion (IsNoGraver v) verdicts
none_graver verdicts v (inl all) = all_weaker IsSatisfied (IsNoGraver v) (λ w is. rw is (omega arith)) verdicts all.0
none_graver verdicts v (inr gravest) = gravest.gravest

-- what holds of all images
pub all_unmapped : {X Y : Type 0} (P : Y → Type 0) (f : X → Y) (xs : List X) → AllByRecursion P (map f xs) → AllByRecursion (λ x. P (f x)) xs
all_unmapped P f [] h = tt
all_unmapped P f (x ∷ xs) h = (h.0, all_unmapped P f xs h.1)

-- what is selected is as grave as some verdict of the list, or satisfied
pub no_graver_than_all : (verdicts : List Verdict) (v w : Verdict) → IsSelected verdicts v → AllByRecursion (IsNoGraver w) verdicts → IsNoGraver w v
no_graver_than_all verdicts v w h all = search (rules, arith, all_middle (IsNoGraver w))

pub no_graver_selected : (asked : List SourceAsk) (lesser greater : Parts) (overridden : Bool) (v w : Verdict) → ¬ IsBelow greater lesser
    → IsSelected (map (alone lesser overridden) asked) v → IsSelected (map (alone greater overridden) asked) w → IsNoGraver v w
no_graver_selected asked lesser greater overridden v w above h k =
    let all = all_unmapped (IsNoGraver v) (alone lesser overridden) asked (none_graver (map (alone lesser overridden) asked) v h) in
    no_graver_than_all (map (alone greater overridden) asked) w v k (all_mapped (λ a. IsNoGraver v (alone lesser overridden a)) (IsNoGraver v) (alone greater overridden)
    (λ a here. omega (arith, here, no_graver_greater (roles_from a.place a.ask.versions) lesser greater overridden above)) asked all)
