use Rattle.std.proofs.Common.{◌≡◌, ℕ, List, None, ap, map, option_map, refl, sym}
use Rattle.std.proofs.lemmas.Bool.{true≢false}
use Rattle.nextest_config_lint.specs.Defined.{file_of}
use Rattle.nextest_config_lint.specs.Inheritance.{link_in, link_view}
use Rattle.nextest_config_lint.proofs.Walks.{none_left, settled_after, settled_at_first, trail_links}
use Rattle.nextest_config_lint.proofs.ring_profiles.find_ring_profiles.Goals as goal

pub loop-profile-init : goal.loop-profile-init
loop-profile-init c = settled_at_first c.in_ok-left.ensures (λ profile. rw c.new-rings.ensures.empty refl)

pub loop-profile-preserved : goal.loop-profile-preserved
loop-profile-preserved c =
    let files = map file_of c.args.files.now in
    let so_far = c.loop-profile.invariant in
    let walk = c.in_ok-end.ensures.walk files so_far.links in
    let empty : (profile : List ℕ) → link_in c.new-trail.result profile ≡ None = λ profile. rw c.new-trail.ensures.empty refl in
    let links = trail_links so_far empty walk c.in_ok-end.ensures.ended in
    let (last, ended, around) = c.in_ok-add_ring.ensures files links in
    settled_after so_far empty walk c.in_ok-end.ensures.ended around ended

-- none is left, so all are settled
pub returns : goal.returns
returns c = λ profile position. (
  c.loop-profile.invariant.come_back profile position,
  c.loop-profile.invariant.all profile position (ap (option_map link_view) (none_left _ c.loop-profile.left.entries (λ some. absurd (true≢false (sym (rw c.in_default.is at (c.first_key_value.ensures.variant.1 some))))))),
)
