-- The verdict of what stands for a list is selected from the verdicts of its asks.
use Rattle.std.proofs.Common.{rules, ◌≡◌, ◌≢◌, ℕ, ◌<◌, ◌≤◌, Bool, true, List, ◌∷◌, ◌++◌, map, Option, Some, None, IfSome, refl, ap, ◌∙◌, inl, inr, subst, arith}
use Rattle.std.proofs.lemmas.List.{map-append}
use Rattle.std.specs.List.{AllByRecursion}
use Rattle.semver.specs.Parse.{Parts}
use Rattle.nextest_config.specs.NextestVersion.Verdict.{Verdict}
use Rattle.nextest_config.specs.NextestVersion.{Ask, is_below, IsBelow, SourcePlace, alone, AsksNoGreater, AsksNone, AsksOther, Configuration, error, gravity, IsConfigurationOf, IsGravest, IsGreatest, IsNoGraver, IsNoGreaterOfItsKind, IsOtherOfItsKind, IsSatisfied, IsSelected, Kept, named_version, not_met, role_from, Roles, satisfied, SelectsFor, short_of, Shortfall, SourceAsk, StandsFor, StandsIn, verdict_by, warn}
use Rattle.nextest_config.specs.NextestVersion.Source.{Source}
use Rattle.nextest_config.proofs.Lists.{all_mapped, map_agrees}
use Rattle.toml_spans.proofs.Elements.{all_always, all_both, all_weaker}
use Rattle.nextest_config.specs.NextestVersion.PrecedenceLaws.{not_below_trans}

-- ---- a tier of verdicts: what it tells where a role is unmet, and what stands below it

abbrev tier : (Shortfall → Verdict) → Option Kept → Parts → Bool → Verdict → Verdict
tier tell (Some kept) current overridden lower = tell (short_of kept current overridden)
tier tell None current overridden lower = lower

verdict_by-tiers : (required recommended : Option Kept) (current : Parts) (overridden : Bool)
    → verdict_by required recommended current overridden ≡ tier error required current overridden (tier warn recommended current overridden satisfied)
verdict_by-tiers required recommended current overridden = search rules

-- what the tier tells of a place that asks this
abbrev told : (Shortfall → Verdict) → Parts → Bool → SourcePlace → Option Parts → Verdict → Verdict
told tell current overridden place asked lower = tier tell (not_met (role_from place asked) current) current overridden lower

module _ (tell : Shortfall → Verdict) (severity : ℕ) (grave : (s : Shortfall) → gravity (tell s) ≡ severity) (names : (s : Shortfall) → named_version (tell s) ≡ Some s.asked) (current : Parts) (overridden : Bool) where
  record IsInTier (asked : Option Parts) (v : Verdict) : Type 0 where
    no_graver : gravity v ≤ severity
    names_asked : gravity v ≡ severity → named_version v ≡ asked

  in_tier : (place : SourcePlace) (asked : Option Parts) (lower : Verdict) → gravity lower < severity → IsInTier asked (told tell current overridden place asked lower)
  in_tier place asked lower below = search rules

  no_greater_named : (kept : Kept) (asked : Option Parts) (v : Verdict) → IsInTier asked v → IfSome asked (λ w. ¬ IsBelow kept.version w)
      → IsNoGreaterOfItsKind (tell (short_of kept current overridden)) v
  no_greater_named kept asked v inside no_greater as_grave = search rules

  other_named : (kept : Kept) (asked : Option Parts) (v : Verdict) → IsInTier asked v → asked ≢ Some kept.version
      → IsOtherOfItsKind (tell (short_of kept current overridden)) v
  other_named kept asked v inside other as_grave e = search rules

  -- an unmet version that is the greatest asked is told by the gravest
  gravest_in_tier : (role : Ask → Option Parts) (lower : SourceAsk → Verdict) (asked : List SourceAsk) (kept : Kept)
      → ((a : SourceAsk) → gravity (lower a) < severity) → IsGreatest role asked kept → is_below current kept.version ≡ true
      → IsGravest (map (λ a. told tell current overridden a.place (role a.ask) (lower a)) asked) (tell (short_of kept current overridden))
  gravest_in_tier role lower asked kept below h short =
      let tells : SourceAsk → Verdict = λ a. told tell current overridden a.place (role a.ask) (lower a) in
      let inside : (a : SourceAsk) → IsInTier (role a.ask) (tells a) = λ a. in_tier a.place (role a.ask) (lower a) (below a) in
      let last_told : tells h.last ≡ tell (short_of kept current overridden) = rw (h.version, h.place, short) in
      record {
        before = map tells h.before;
        after = map tells h.after;
        whole = ap (map tells) h.whole ∙ map-append tells h.before (h.last ∷ h.after) ∙ ap (λ v. map tells h.before ++ (v ∷ map tells h.after)) last_told;
        gravest = all_mapped (AsksNoGreater role kept.version) (IsNoGraver (tell (short_of kept current overridden))) tells
            (λ a _. omega (arith, grave (short_of kept current overridden), (inside a).no_graver)) asked h.none_greater;
        no_greater = all_mapped (AsksNoGreater role kept.version) (IsNoGreaterOfItsKind (tell (short_of kept current overridden))) tells
            (λ a none. no_greater_named kept (role a.ask) (tells a) (inside a) none) asked h.none_greater;
        last = all_mapped (AsksOther role kept.version) (IsOtherOfItsKind (tell (short_of kept current overridden))) tells
            (λ a other. other_named kept (role a.ask) (tells a) (inside a) other) h.after h.others_later;
      }

-- ---- a role that is met is met for each source alone

pub not_short : (kept : Kept) (current : Parts) → not_met (Some kept) current ≡ None → ¬ IsBelow current kept.version
not_short kept current met short = cc (rw short at met)

pub enough_met : (kept : Kept) (current : Parts) → ¬ IsBelow current kept.version → not_met (Some kept) current ≡ None
enough_met kept current enough = search rules

no_greater_met : (kept : Kept) (current : Parts) (place : SourcePlace) (more : Option Parts) → ¬ IsBelow current kept.version → IfSome more (λ greater. ¬ IsBelow kept.version greater)
    → not_met (role_from place more) current ≡ None
no_greater_met kept current place None enough none = refl
no_greater_met kept current place (Some v) enough none = enough_met (record { version = v; place = place }) current (not_below_trans current kept.version v enough none)

abbrev IsMetAlone : (Ask → Option Parts) → Parts → SourceAsk → Type 0
IsMetAlone role current a = not_met (role_from a.place (role a.ask)) current ≡ None

met_alone : (role : Ask → Option Parts) (asked : List SourceAsk) (kept : Option Kept) (current : Parts) → StandsIn role asked kept → not_met kept current ≡ None
    → AllByRecursion (IsMetAlone role current) asked
met_alone role asked None current h met = all_weaker (AsksNone role) (IsMetAlone role current) (λ a none. rw none refl) asked h
met_alone role asked (Some kept) current h met =
    all_weaker (AsksNoGreater role kept.version) (IsMetAlone role current)
    (λ a none. no_greater_met kept current a.place (role a.ask) (not_short kept current met) none) asked h.none_greater

-- ---- the three verdicts

abbrev required : Ask → Option Parts
required ask = ask.versions.required

abbrev recommended : Ask → Option Parts
recommended ask = ask.versions.recommended

alone-met : (current : Parts) (overridden : Bool) (a : SourceAsk) → IsMetAlone required current a
    → alone current overridden a ≡ told warn current overridden a.place a.ask.versions.recommended satisfied
alone-met current overridden a met = search rules

pub unmet_is : (o : Option Kept) (current : Parts) (kept : Kept) → not_met o current ≡ Some kept → (o ≡ Some kept) × (is_below current kept.version ≡ true)
unmet_is o current kept e = search rules

below_error : (o : Option Kept) (current : Parts) (overridden : Bool) → gravity (tier warn o current overridden satisfied) < 2
below_error o current overridden = search (rules, arith)

-- an unmet required version
selects_error : (asked : List SourceAsk) (kept : Kept) (current : Parts) (overridden : Bool) → IsGreatest required asked kept → is_below current kept.version ≡ true
    → IsGravest (map (alone current overridden) asked) (error (short_of kept current overridden))
selects_error asked kept current overridden greatest short =
    let lower : SourceAsk → Verdict = λ a. tier warn (not_met (role_from a.place a.ask.versions.recommended) current) current overridden satisfied in
    let tells : SourceAsk → Verdict = λ a. told error current overridden a.place a.ask.versions.required (lower a) in
    let same : map (alone current overridden) asked ≡ map tells asked =
    map_agrees (alone current overridden) tells asked (all_always (λ a. verdict_by-tiers (not_met (role_from a.place a.ask.versions.required) current) _ current overridden) asked) in
    rw same (gravest_in_tier error 2 (λ s. refl) (λ s. refl) current overridden required lower asked kept (λ a. below_error _ current overridden) greatest short)

-- an unmet recommended version, where the required one is met
selects_warning : (asked : List SourceAsk) (kept : Kept) (current : Parts) (overridden : Bool) → IsGreatest recommended asked kept → is_below current kept.version ≡ true
    → AllByRecursion (IsMetAlone required current) asked → IsGravest (map (alone current overridden) asked) (warn (short_of kept current overridden))
selects_warning asked kept current overridden greatest short met =
    let tells : SourceAsk → Verdict = λ a. told warn current overridden a.place a.ask.versions.recommended satisfied in
    let same : map (alone current overridden) asked ≡ map tells asked =
    map_agrees (alone current overridden) tells asked (all_weaker (IsMetAlone required current) _ (alone-met current overridden) asked met) in
    rw same (gravest_in_tier warn 1 (λ s. refl) (λ s. refl) current overridden recommended (λ a. satisfied) asked kept (λ a. omega arith) greatest short)

selects_satisfied : (asked : List SourceAsk) (current : Parts) (overridden : Bool) → AllByRecursion (IsMetAlone required current) asked → AllByRecursion (IsMetAlone recommended current) asked
    → AllByRecursion IsSatisfied (map (alone current overridden) asked)
selects_satisfied asked current overridden met also =
    all_mapped (λ a. IsMetAlone required current a × IsMetAlone recommended current a) IsSatisfied (alone current overridden)
    (λ a both. rw (both.0, both.1) refl) asked (all_both (IsMetAlone required current) (IsMetAlone recommended current) asked met also)

pub selects_by : (asked : List SourceAsk) (roles : Roles) (current : Parts) (overridden : Bool) (r m : Option Kept)
    → StandsIn required asked roles.required → StandsIn recommended asked roles.recommended → not_met roles.required current ≡ r → not_met roles.recommended current ≡ m
    → IsSelected (map (alone current overridden) asked) (verdict_by r m current overridden)
selects_by asked roles current overridden (Some kept) m h k r_is m_is =
    let is = unmet_is roles.required current kept r_is in
    inr (selects_error asked kept current overridden (subst (StandsIn required asked) is.0 h) is.1)
selects_by asked roles current overridden None (Some kept) h k r_is m_is =
    let is = unmet_is roles.recommended current kept m_is in
    inr (selects_warning asked kept current overridden (subst (StandsIn recommended asked) is.0 k) is.1 (met_alone required asked roles.required current h r_is))
selects_by asked roles current overridden None None h k r_is m_is =
    let met = met_alone required asked roles.required current h r_is in
    inl (selects_satisfied asked current overridden met (met_alone recommended asked roles.recommended current k m_is), refl)

pub selects_for : (sources : List Source) (c : Configuration) → StandsFor sources c → SelectsFor sources c.roles
selects_for sources c (asked, read, stands) = (asked, read, λ current overridden. selects_by asked c.roles current overridden _ _ stands.required stands.recommended refl refl)

-- what stands for a list is what reading it gives
pub configured : (sources : List Source) (c : Configuration) → StandsFor sources c → IsConfigurationOf sources c
configured sources c stands = record { reads = (stands.0, stands.1); stands = stands; selected = selects_for sources c stands }
