use Rattle.std.proofs.Common.{sym, rules}
use Rattle.nextest_config_filters.proofs.Characters.{same_characters}
use Rattle.nextest_config_filters.proofs.text.is_same_text.Goals as goal

pub returns : goal.returns
returns c = rw (sym (same_characters c.args.one.now c.args.other.now c.utf8.one c.utf8.other)) (search rules)
