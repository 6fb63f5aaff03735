use Rattle.std.proofs.Common.{◌∙◌, ap}
use Rattle.std.specs.Prelude.{chars}
use Rattle.nextest_config_filters.proofs.Characters.{chars_before, cut_before, left_before, rest_fits}
use Rattle.nextest_config_filters.proofs.front.split_before.Goals as goal

pub overflow_sub-text : goal.overflow_sub-text
overflow_sub-text c = rest_fits c.args.text.now c.args.rest.now c.requires.0 c.utf8.text c.utf8.rest c.requires.1

pub split_at-requires : goal.split_at-requires
split_at-requires c = cut_before c.args.text.now c.args.rest.now c.requires.0 c.utf8.text c.utf8.rest c.requires.1

pub returns-clause-front : goal.returns-clause-front
returns-clause-front c front whole =
    ap chars c.split_at.ensures.front
    ∙ chars_before c.args.text.now c.args.rest.now front c.utf8.text c.utf8.rest whole

pub returns-clause-rest : goal.returns-clause-rest
returns-clause-rest c =
    ap chars (c.split_at.ensures.back ∙ left_before c.args.text.now c.args.rest.now c.requires.0 c.utf8.text c.utf8.rest c.requires.1)
