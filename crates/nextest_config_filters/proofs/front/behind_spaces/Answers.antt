use Rattle.std.specs.Str.{chars, skip_leading_whitespace, trim_start}
use Rattle.nextest_config_filters.proofs.Characters.{chars_of}
use Rattle.nextest_config_filters.proofs.front.behind_spaces.Goals as goal

pub returns : goal.returns
unfolding trim_start
returns c = chars_of c.trim_start.result.now (skip_leading_whitespace (chars c.args.text.now)) c.trim_start.utf8 c.trim_start.ensures.trim
