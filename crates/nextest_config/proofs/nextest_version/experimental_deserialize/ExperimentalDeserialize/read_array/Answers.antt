use Rattle.std.proofs.Common.{◌≡◌, ◌≤◌, ap, length, refl, subst}
use Rattle.nextest_config_values.proofs.Faults.{passed_on}
use Rattle.toml.specs.View.{array_view}
use Rattle.nextest_config.specs.NextestVersion.{features_of, FeatureSetting, no_features}
use Rattle.nextest_config.proofs.Naming.{all_named, item_added, item_here, none_so_far, refuses_array}
use Rattle.nextest_config.proofs.nextest_version.experimental_deserialize.ExperimentalDeserialize.read_array.Goals as goal

pub returns-in_err-read_item-clause-refused : goal.returns-in_err-read_item-clause-refused
returns-in_err-read_item-clause-refused c =
    let here = item_here c.deref-value-items.result.now c.args.array.now.items c.loop-index.index c.value-item.result c.deref-value-items.ensures.value c.loop-index-test.true c.value-item.is in
    passed_on _ c.from_residual.result _ c.from_residual.ensures.1
    (refuses_array c.in_err-read_item.field-0.0 c.loop-index.invariant here c.in_err-read_item.ensures.refused)

pub loop-index-init : goal.loop-index-init
loop-index-init c =
    let none : features_of c.new-features.result ≡ no_features = ap (λ (setting : FeatureSetting). setting.features) c.new-features.ensures in
    rw none (none_so_far (array_view c.args.array.now))

pub loop-index-preserved : goal.loop-index-preserved
loop-index-preserved c =
    let here = item_here c.deref-value-items.result.now c.args.array.now.items c.loop-index.index c.value-item.result c.deref-value-items.ensures.value c.loop-index-test.true c.value-item.is in
    item_added c.loop-index.invariant here c.in_ok-read_item.ensures.added

pub returns-clause-meant : goal.returns-clause-meant
returns-clause-meant c =
    let past = subst (λ xs. length xs ≤ c.loop-index.index) c.deref-value-items.ensures.value c.loop-index-test.false in
    (_, all_named c.args.array.now.items c.loop-index.index past (features_of c.loop-index.features) c.loop-index.invariant, refl)
