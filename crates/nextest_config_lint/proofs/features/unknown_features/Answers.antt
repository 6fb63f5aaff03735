use Rattle.std.proofs.Common.{[], ap, map, refl, string_bytes}
use Rattle.std.proofs.lemmas.Map.Iter.{iter_end}
use Rattle.std.specs.Map.Iter.{deref}
use Rattle.toml.specs.View.{view}
use Rattle.nextest_config_lint.specs.Features.{IsNameFound}
use Rattle.nextest_config_lint.specs.Found.{found_of}
use Rattle.nextest_config_lint.specs.Settings.{setting_view}
use Rattle.nextest_config_lint.proofs.FoundLists.{adds_next}
use Rattle.nextest_config_lint.proofs.Keys.{all_texts}
use Rattle.nextest_config_lint.proofs.features.unknown_features.Goals as goal

pub loop-name-init : goal.loop-name-init
loop-name-init c = ([], refl, ap (map found_of) c.new-findings.ensures.items)

pub loop-name-preserved : goal.loop-name-preserved
loop-name-preserved c = adds_next (IsNameFound (setting_view c.args.setting.now).path (view c.args.value.now)) (λ name. string_bytes name.now) c.loop-name.yielded c.in-Some.name [] _ _
    c.loop-name.invariant (rw c.as_str.ensures.value at c.in_ok-add_feature.ensures)

pub returns : goal.returns
returns c =
    let ended = iter_end deref c.args.unknown.now.keys c.loop-name.yielded _ _ _ _ c.into_iter-name-iterator.ensures.into_iter_gives.0 c.loop-name.yielded_by c.in-None.is c.next.ensures.steps in
    rw (all_texts c.args.unknown.now.keys c.loop-name.yielded ended.0) at c.loop-name.invariant
