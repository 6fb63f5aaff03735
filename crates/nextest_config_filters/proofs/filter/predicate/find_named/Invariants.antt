use Rattle.std.proofs.Common.{◌≡◌, drop}
use Rattle.nextest_config_values.specs.Read.{value_of}
use Rattle.nextest_config_filters.specs.Filter.Predicate.{name_of}
use Rattle.nextest_config_filters.proofs.filter.predicate.find_named.Given as goal

-- the name is that of none so far
abbrev pub invariant-loop-predicate : goal.invariant-loop-predicate
invariant-loop-predicate l =
    value_of name_of l.all l.name ≡ value_of name_of (drop l.predicate-index l.all) l.name
