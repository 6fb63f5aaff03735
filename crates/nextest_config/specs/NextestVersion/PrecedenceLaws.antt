-- The order of versions by precedence.
use Rattle.std.proofs.Common.{◌≡◌, true, refl, sym, ap, ◌∙◌}
use Rattle.std.proofs.lemmas.Bool.{false≢true}
use Rattle.std.specs.Cmp.{IsTotalOrder, nat_cmp_total, on_total, then_total}
use Rattle.std.specs.Ordering.{is_lt, ordering_reverse}
use Rattle.std.specs.declared.cmp.Ordering.{Ordering}
use Rattle.std.specs.declared.cmp.Ordering.TheVariants.{Less, Equal, Greater}
use Rattle.semver.specs.OrderLaws.{pre_total}
use Rattle.semver.specs.Parse.{Parts}
use Rattle.nextest_config.specs.NextestVersion.Precedence.{IsBelow, precedence}

pub precedence_total : IsTotalOrder precedence
precedence_total = then_total (on_total (λ (v : Parts). v.0) nat_cmp_total)
    (then_total (on_total (λ (v : Parts). v.1) nat_cmp_total)
    (then_total (on_total (λ (v : Parts). v.2) nat_cmp_total)
    (on_total (λ (v : Parts). v.3) pre_total)))

below_less : (o : Ordering) → is_lt o ≡ true → o ≡ Less
below_less Less h = refl
below_less Equal h = absurd (false≢true h)
below_less Greater h = absurd (false≢true h)

pub not_below_itself : (v : Parts) → ¬ IsBelow v v
not_below_itself v h =
    let less : precedence v v ≡ Less = below_less _ h in
    cc (rw less at (precedence_total.antisymm v v))

pub below_trans : (u v w : Parts) → IsBelow u v → IsBelow v w → IsBelow u w
below_trans u v w h k = ap is_lt (precedence_total.trans u v w (below_less _ h) (below_less _ k))

not_below_by : (o : Ordering) (u v w : Parts) → precedence u v ≡ o → ¬ IsBelow u v → ¬ IsBelow v w
    → ¬ IsBelow u w
not_below_by Less u v w e above more h = above (ap is_lt e)
not_below_by Equal u v w e above more h =
    more (ap is_lt (sym (precedence_total.congr u v w e) ∙ below_less _ h))
not_below_by Greater u v w e above more h =
    more (ap is_lt (precedence_total.trans v u w
    (precedence_total.antisymm v u ∙ ap ordering_reverse e) (below_less _ h)))

pub not_below_trans : (u v w : Parts) → ¬ IsBelow u v → ¬ IsBelow v w → ¬ IsBelow u w
not_below_trans u v w above more = not_below_by (precedence u v) u v w refl above more
