use Rattle.std.proofs.Common.{refl}
use Rattle.std.specs.Prelude.{codes}
use Rattle.std.specs.Str.{chars}
use Rattle.nextest_config_filters.proofs.Characters.{ascii_chars}
use Rattle.nextest_config_filters.proofs.Filters.Predicates.{not_piece}
use Rattle.nextest_config_filters.proofs.pieces.behind_not.Goals as goal

pub returns : goal.returns
returns c = not_piece (chars c.args.text.now) c.behind.result (rw (ascii_chars (codes "not") refl) at c.behind.ensures)
