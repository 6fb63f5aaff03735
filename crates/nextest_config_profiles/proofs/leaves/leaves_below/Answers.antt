use Rattle.toml.specs.View.{view}
use Rattle.nextest_config_profiles.specs.Merged.{HasNoValue}
use Rattle.nextest_config_profiles.specs.Leaves.{placed_leaf}
use Rattle.nextest_config_profiles.specs.Reach.{layers_of, words_of}
use Rattle.nextest_config_profiles.proofs.Listing.{all_listed, of_layers}
use Rattle.nextest_config_profiles.proofs.leaves.leaves_below.Goals as goal

pub with_layers-requires : goal.with_layers-requires
with_layers-requires c =
    of_layers placed_leaf (layers_of c.args.layers) (words_of c.args.path.now) (view c.in-Some.value) c.in_ok-leaves-in-Some.leaves.items
    (rw c.in-Some.is at c.in_ok-value.ensures) c.in_ok-leaves-in-Some.ensures

pub returns-in_ok-with_layers-in-Some-clause-all : goal.returns-in_ok-with_layers-in-Some-clause-all
returns-in_ok-with_layers-in-Some-clause-all c =
    let added = c.in_ok-with_layers-in-Some in
    all_listed (layers_of c.args.layers) (words_of c.args.path.now) (view c.in-Some.value) added.field-0.items
    (rw c.in-Some.is at c.in_ok-value.ensures) (rw (← added.ensures.same) at c.in_ok-leaves-in-Some.ensures) added.ensures.each

pub returns-in-None-clause-all : goal.returns-in-None-clause-all
returns-in-None-clause-all c below position value is =
    let none : HasNoValue (layers_of c.args.layers) (words_of c.args.path.now) = rw c.in-None.is at c.in_ok-value.ensures in
    absurd (none below position value is)
