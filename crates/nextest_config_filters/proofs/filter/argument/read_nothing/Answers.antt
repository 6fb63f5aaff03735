use Rattle.std.proofs.Common.{◌∙◌, sym, refl}
use Rattle.nextest_config_filters.proofs.Characters.{no_characters, some_characters}
use Rattle.nextest_config_filters.proofs.Filters.Arguments.{read_something}
use Rattle.nextest_config_filters.proofs.filter.argument.read_nothing.Goals as goal

pub returns-then-is_empty : goal.returns-then-is_empty
returns-then-is_empty c = rw (no_characters c.args.argument.now (sym c.is_empty.ensures ∙ c.if-is_empty.true)) refl

pub returns : goal.returns
returns c =
    let some = some_characters c.args.argument.now c.utf8.argument (sym c.is_empty.ensures ∙ c.if-is_empty.false) in
    rw (read_something c.args.predicate _ _ _ some, c.fault_at.ensures, c.split_front.ensures.front, c.split_front.ensures.rest) refl
