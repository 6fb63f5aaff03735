use Rattle.std.proofs.Common.{◌∙◌, ap}
use Rattle.nextest_config_values.specs.Read.{value_of}
use Rattle.nextest_config_filters.specs.Filter.Predicate.{all_predicates, name_of, predicate_named}
use Rattle.nextest_config_filters.proofs.Filters.Predicates.{by_characters}
use Rattle.nextest_config_filters.proofs.filter.predicate.Predicate.named.Goals as goal

pub returns : goal.returns
unfolding predicate_named
returns c =
    c.find_named.ensures ∙ ap (λ all. value_of name_of all c.args.name.now) c.all.ensures
    ∙ by_characters all_predicates c.args.name.now c.utf8.name
