use Rattle.std.specs.Str.{chars, drop_trailing_whitespace, trim_end}
use Rattle.nextest_config_filters.proofs.Characters.{chars_of}
use Rattle.nextest_config_filters.proofs.front.without_spaces_behind.Goals as goal

pub returns : goal.returns
unfolding trim_end
returns c = chars_of c.trim_end.result.now (drop_trailing_whitespace (chars c.args.text.now)) c.trim_end.utf8 c.trim_end.ensures.trim
