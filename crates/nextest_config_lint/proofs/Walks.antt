-- Walks from a profile to what it inherits from, and the profiles that come back.
use Rattle.std.proofs.Common.{◌≡◌, ◌⊎◌, ℕ, zero, suc, ◌<◌, Bool, true, cond, List, [], ◌∷◌, length, Option, Some, None, refl, sym, ap, subst, ◌∙◌, inl, inr, ⊎_elim, arith}
use Rattle.std.proofs.lemmas.Bool.{cases_Bool}
use Rattle.std.proofs.lemmas.Slice.Eq.{bytes_eq-Decides}
use Rattle.std.specs.Map.{lookup}
use Rattle.std.specs.Str.{bytes_eq}
use Rattle.nextest_config_lint.specs.Defined.{ComesBackAt, IsCounting, IsParent, IsWay, ListFile}
use Rattle.nextest_config_lint.specs.Inheritance.{AreLinks, AreLinksOf, IsLink, LinkView}
use Rattle.nextest_config_lint.specs.RingProfiles.{IsPassed, IsWalk, position_of, same_link}
use Rattle.nextest_config_lint.proofs.Links.{is_parent, link_to, one_parent, one_place}

module _ {files : List ListFile} where
  -- one step more, and one way after another
  way_more : (steps : ℕ) {from to next : List ℕ} → IsWay files steps from to → IsParent files to next → IsWay files (suc steps) from next
  way_more zero {next} same is = (next, subst (λ name. IsParent files name next) (sym same) is, refl)
  way_more (suc steps) (parent, leads, way) is = (parent, leads, way_more steps way is)

  joined : (first second : ℕ) (from between to : List ℕ) → IsWay files first from between → IsWay files second between to → (steps : ℕ) × IsWay files steps from to
  joined zero second from between to same way = (second, subst (λ name. IsWay files second name to) (sym same) way)
  joined (suc first) second from between to (parent, leads, rest) way =
      let (steps, all) = joined first second parent between to rest way in
      (suc steps, (parent, leads, all))

  -- where a way leads from a profile that comes back into what no way leads out of, the profile is within
  module _ {profile : List ℕ} (ring : (steps : ℕ) × IsWay files (suc steps) profile profile) (Within : List ℕ → Type 0)
      (closed : (name parent : List ℕ) → Within name → IsParent files name parent → Within parent) where
    along : (steps : ℕ) (from : List ℕ) → IsWay files steps from profile → Within from → Within profile
    along zero from same within = subst Within same within
    along (suc steps) from (parent, leads, way) within = along steps parent way (closed from parent within leads)

    -- what one that leads back leads to leads back
    next_back : (steps : ℕ) (from next : List ℕ) → IsWay files steps from profile → IsParent files from next → (more : ℕ) × IsWay files more next profile
    next_back zero from next same is =
        let (steps, (parent, leads, way)) = ring in
        (steps, subst (λ name. IsWay files steps name profile) (one_parent leads (subst (λ name. IsParent files name next) same is)) way)
    next_back (suc steps) from next (parent, leads, way) is = (steps, subst (λ name. IsWay files steps name profile) (one_parent leads is) way)

    within : (steps back : ℕ) (from to : List ℕ) → IsWay files steps from to → IsWay files back from profile → Within to → Within profile
    within zero back from to same way there = along back from way (subst Within (sym same) there)
    within (suc steps) back from to (parent, leads, rest) way there =
        let (more, on) = next_back back from parent way leads in
        within steps more parent to rest on there

  -- ---- walks

  module _ {Kept : Type 0} {keep : LinkView → Kept} {from to : List ℕ} {before left : List ℕ → Option LinkView} {kept_before kept : List ℕ → Option Kept} (links : AreLinks files before)
      (walk : IsWalk files keep from to before left kept_before kept) where
    -- one profile more
    pub walk_on : (after : List ℕ → Option LinkView) (kept_after : List ℕ → Option Kept) (link : LinkView) → left to ≡ Some link
        → ((profile : List ℕ) → after profile ≡ cond (bytes_eq to profile) None (left profile))
        → ((profile : List ℕ) → kept_after profile ≡ cond (bytes_eq to profile) (Some (keep link)) (kept profile))
        → IsWalk files keep from link.parent before after kept_before kept_after
    walk_on after kept_after link at removed added = record {
      reached = (suc walk.reached.0, way_more walk.reached.0 walk.reached.1 step);
      from_gone = inr (gone from walk.from_gone);
      each = λ profile. elim (cases_Bool (bytes_eq to profile)) [
        | inl same ↦ inl (subst (IsPassed files keep from link.parent before after kept_after) ((bytes_eq-Decides to profile).0 same) (record {
          link = link;
          was_left = was_left (walk.each to);
          gone = gone to (inl refl);
          is_kept = added to ∙ rw itself refl;
          reached = walk.reached;
          leads_on = (0, (link.parent, step, refl));
          parent_gone = inl refl;
        }))
        | inr other ↦ elim (walk.each profile) [
          | inl passed ↦ inl (record {
            link = passed.link;
            was_left = passed.was_left;
            gone = gone profile (inr passed.gone);
            is_kept = added profile ∙ rw other passed.is_kept;
            reached = passed.reached;
            leads_on = (suc passed.leads_on.0, way_more (suc passed.leads_on.0) passed.leads_on.1 step);
            parent_gone = inr (gone passed.link.parent passed.parent_gone);
          })
          | inr (is_left, is_kept) ↦ inr (removed profile ∙ rw other is_left, added profile ∙ rw other is_kept)
        ]
      ];
    }
      where
        itself : bytes_eq to to ≡ true
        itself = (bytes_eq-Decides to to).1 refl

        gone : (profile : List ℕ) → (profile ≡ to) ⊎ (left profile ≡ None) → after profile ≡ None
        gone profile (inl here) = removed profile ∙ rw (here, itself) refl
        gone profile (inr none) = removed profile ∙ elim (cases_Bool (bytes_eq to profile)) [ inl same ↦ rw same refl | inr other ↦ rw other none ]

        was_left : IsPassed files keep from to before left kept to ⊎ ((left to ≡ before to) × (kept to ≡ kept_before to)) → before to ≡ Some link
        was_left (inl passed) = absurd (cc (at, passed.gone))
        was_left (inr as_before) = sym as_before.0 ∙ at

        step : IsParent files to link.parent
        step = is_parent (links to link (was_left (walk.each to)))

    still_gone : {profile : List ℕ} → before profile ≡ None → left profile ≡ None
    still_gone {profile} none = elim (walk.each profile) [ inl passed ↦ passed.gone | inr as_before ↦ as_before.0 ∙ none ]

    -- once it has ended, what isn't left wasn't before, or leads to what isn't left
    gone_on : left to ≡ None → {profile parent : List ℕ} → left profile ≡ None → IsParent files profile parent → (before profile ≡ None) ⊎ (left parent ≡ None)
    gone_on ended {profile} {parent} none is = elim (walk.each profile) [
      | inl passed ↦
          let same = one_parent (is_parent (links profile passed.link passed.was_left)) is in
          inr (subst (λ name. left name ≡ None) same (⊎_elim (λ here. ap left here ∙ ended) (λ gone. gone) passed.parent_gone))
      | inr as_before ↦ inl (sym as_before.0 ∙ none)
    ]

-- ---- what walks have settled

-- of the profiles that aren't left, none leads to one that is, and those that come back are the rings so far
pub record AreSettled (files : List ListFile) (left : List ℕ → Option LinkView) (rings : List ℕ → Option ℕ) : Type 0 where
  pub links : AreLinks files left
  pub closed : (profile parent : List ℕ) → left profile ≡ None → IsParent files profile parent → left parent ≡ None
  pub come_back : (profile : List ℕ) (position : ℕ) → rings profile ≡ Some position → ComesBackAt files profile position
  pub all : (profile : List ℕ) (position : ℕ) → left profile ≡ None → ComesBackAt files profile position → rings profile ≡ Some position

-- before the first walk
pub settled_at_first : {files : List ListFile} {links : List ℕ → Option LinkView} {rings : List ℕ → Option ℕ} → AreLinksOf files links → ((profile : List ℕ) → rings profile ≡ None) → AreSettled files links rings
settled_at_first {files} {links} are none = record {
  links = λ profile link is. (are profile link).0 is;
  closed = λ profile parent gone is. absurd (has_link profile parent gone is);
  come_back = λ profile position is. absurd (cc (is, none profile));
  all = λ profile position gone ((steps, (parent, is, way)), counting). absurd (has_link profile parent gone is);
}
  where
    has_link : (profile parent : List ℕ) → links profile ≡ None → IsParent files profile parent → ⊥
    has_link profile parent gone is =
        let there = (are profile _).1 (link_to is).1 in
        cc (gone, there)

-- a walk and, from where it ends, a second one over its trail settle what the first one passed
module _ {files : List ListFile} {from end : List ℕ} {before left trail_before trail : List ℕ → Option LinkView} {rings_before : List ℕ → Option ℕ}
    (settled : AreSettled files before rings_before) (empty : (profile : List ℕ) → trail_before profile ≡ None)
    (walk : IsWalk files same_link from end before left trail_before trail) (ended : left end ≡ None) where
  on_trail : (profile : List ℕ) (link : LinkView) → trail profile ≡ Some link → IsPassed files same_link from end before left trail profile
  on_trail profile link is = elim (walk.each profile) [ inl passed ↦ passed | inr as_before ↦ absurd (cc (is, as_before.1, empty profile)) ]

  off_trail : {profile : List ℕ} → before profile ≡ None → trail profile ≡ None
  off_trail {profile} none = elim (walk.each profile) [ inl passed ↦ absurd (cc (passed.was_left, none)) | inr as_before ↦ as_before.1 ∙ empty profile ]

  pub trail_links : AreLinks files trail
  trail_links profile link is =
      let passed = on_trail profile link is in
      let same : Some passed.link ≡ Some link = sym passed.is_kept ∙ is in
      subst (IsLink files profile) (cc same) (settled.links profile passed.link passed.was_left)

  closed : (profile parent : List ℕ) → left profile ≡ None → IsParent files profile parent → left parent ≡ None
  closed profile parent none is = ⊎_elim (λ gone. still_gone settled.links walk (settled.closed profile parent gone is)) (λ gone. gone) (gone_on settled.links walk ended none is)

  module _ {last : List ℕ} {trail_left : List ℕ → Option LinkView} {rings : List ℕ → Option ℕ} (around : IsWalk files position_of end last trail trail_left rings_before rings)
      (around_ended : trail_left last ≡ None) where
    -- neither left for a walk, nor on the trail beside the ring
    abbrev IsOver : List ℕ → Type 0
    IsOver profile = (left profile ≡ None) × (trail_left profile ≡ None)

    all_over : (profile parent : List ℕ) → IsOver profile → IsParent files profile parent → IsOver parent
    all_over profile parent (none, over) is = (
      closed profile parent none is,
      elim (gone_on trail_links around around_ended over is) [
        | inr gone ↦ gone
        | inl off ↦ elim (walk.each profile) [
          | inl passed ↦ absurd (cc (passed.is_kept, off))
          | inr as_before ↦ still_gone trail_links around (off_trail (settled.closed profile parent (sym as_before.0 ∙ none) is))
        ]
      ],
    )

    pub settled_after : AreSettled files left rings
    settled_after = record {
      links = λ profile link is. elim (walk.each profile) [
        | inl passed ↦ absurd (cc (is, passed.gone))
        | inr as_before ↦ settled.links profile link (sym as_before.0 ∙ is)
      ];
      closed = closed;
      come_back = λ profile position is. elim (around.each profile) [
        | inl passed ↦
            let (more, (parent, leads, way)) = (on_trail profile passed.link passed.was_left).leads_on in
            let (steps, ring) = joined more passed.reached.0 parent end profile way passed.reached.1 in
            let (other, (value, counting, text)) = trail_links profile passed.link passed.was_left in
            let places : Some passed.link.position ≡ Some position = sym passed.is_kept ∙ is in
            ((steps, (parent, leads, ring)), (value, subst (λ (k : ℕ). IsCounting files profile k value) (cc places) counting))
        | inr as_before ↦ settled.come_back profile position (sym as_before.1 ∙ is)
      ];
      all = λ profile position none comes. elim (walk.each profile) [
        | inl first ↦ elim (around.each profile) [
          | inl passed ↦ passed.is_kept ∙ ap Some (one_place (trail_links profile passed.link passed.was_left) comes.1.1)
          | inr as_before ↦
              let end_over : IsOver end = (ended, ⊎_elim (λ here. ap trail_left here ∙ around_ended) (λ gone. gone) around.from_gone) in
              let over = within comes.0 IsOver all_over (suc first.leads_on.0) 0 profile end first.leads_on.1 refl end_over in
              absurd (cc (over.1, as_before.0, first.is_kept))
        ]
        | inr as_before ↦ elim (around.each profile) [
          | inl passed ↦ absurd (cc (passed.was_left, as_before.1, empty profile))
          | inr still ↦ still.1 ∙ settled.all profile position (sym as_before.0 ∙ none) comes
        ]
      ];
    }

-- once none is left
pub none_left : {K X : Type 0} (test : K → Bool) (entries : List (K × X)) → (0 < length entries → ⊥) → lookup test entries ≡ None
none_left test [] none = refl
none_left test (entry ∷ entries) none = absurd (none (omega arith))
