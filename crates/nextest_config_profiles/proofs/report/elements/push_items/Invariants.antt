use Rattle.std.proofs.Common.{◌≡◌, ◌++◌, map, take}
use Rattle.toml.specs.View.{items_view}
use Rattle.nextest_config_profiles.specs.Report.Elements.{element_of, numbered}
use Rattle.nextest_config_profiles.proofs.report.elements.push_items.Given as goal

-- those so far are pushed
abbrev pub invariant-loop-position : goal.invariant-loop-position
invariant-loop-position l = map element_of l.elements.items
    ≡ map element_of l.fn.elements.items ++ numbered l.fn.profile l.fn.layer 0 (items_view (take l.position l.items))
