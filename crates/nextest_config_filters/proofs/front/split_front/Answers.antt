use Rattle.std.proofs.Common.{◌∙◌, ap}
use Rattle.std.specs.Prelude.{chars}
use Rattle.nextest_config_filters.proofs.Characters.{chars_left, chars_taken, cut_behind}
use Rattle.nextest_config_filters.proofs.front.split_front.Goals as goal

pub split_at-requires : goal.split_at-requires
split_at-requires c = cut_behind c.args.text.now c.args.front.now c.requires.0 c.utf8.text c.utf8.front c.requires.1

pub returns-clause-front : goal.returns-clause-front
returns-clause-front c =
    ap chars c.split_at.ensures.front
    ∙ chars_taken c.args.text.now c.args.front.now c.requires.0 c.utf8.text c.utf8.front c.requires.1

pub returns-clause-rest : goal.returns-clause-rest
returns-clause-rest c =
    ap chars c.split_at.ensures.back
    ∙ chars_left c.args.text.now c.args.front.now c.requires.0 c.utf8.text c.utf8.front c.requires.1
