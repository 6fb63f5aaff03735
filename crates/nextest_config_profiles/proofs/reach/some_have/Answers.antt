use Rattle.std.proofs.Common.{◌≡◌, None, false, refl, sym, ◌∙◌}
use Rattle.nextest_config_profiles.specs.Merging.{over}
use Rattle.nextest_config_profiles.specs.Reach.{is_value, said_below, words_of}
use Rattle.nextest_config_profiles.specs.Said.{Path, silent}
use Rattle.nextest_config_profiles.specs.declared.reach.Reach.{Reach}
use Rattle.nextest_config_profiles.specs.declared.reach.Reach.TheVariants as reached
use Rattle.nextest_config_profiles.proofs.MergedOver.{over_next, reached_result}
use Rattle.nextest_config_profiles.proofs.reach.some_have.Goals as goal

still_nothing : (reach : Reach) (below : Path) → is_value reach ≡ false → over silent (said_below below reach) ≡ silent
still_nothing reached.Nothing below none = refl
still_nothing reached.Barred below none = refl
still_nothing (reached.Value value) below none = absurd (cc none)

pub loop-layer-preserved : goal.loop-layer-preserved
loop-layer-preserved c below =
    over_next c.args.layers.now (words_of c.args.path.now) c.loop-layer.layer-index c.layer-item.result c.loop-layer-test.true c.layer-item.is below
    ∙ rw (c.loop-layer.invariant below, ← c.follow_on.ensures below) (still_nothing c.follow_on.result below (sym c.is_value.ensures ∙ c.if-is_value.false))

pub returns : goal.returns
returns c none all above reached =
    reached_result c.args.layers.now (words_of c.args.path.now) c.loop-layer.layer-index c.loop-layer-test.false all above reached None (λ below. sym (c.loop-layer.invariant below))
