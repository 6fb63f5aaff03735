use Rattle.std.proofs.Common.{◌≡◌, ◌++◌, encode_utf8_all, length, string_bytes}
use Rattle.std.specs.Str.{chars, IsUtf8}
use Rattle.nextest_config_filters.specs.Filter.Regex.{unescaped}
use Rattle.nextest_config_filters.proofs.filter.regex.unescaped.Given as goal

-- what is written, and the rest, are the text
abbrev pub invariant-loop-c : goal.invariant-loop-c
invariant-loop-c l = record {
  text : IsUtf8 l.rest;
  same : string_bytes l.pattern ++ encode_utf8_all (unescaped (chars l.rest))
      ≡ encode_utf8_all (unescaped (chars l.text));
}

abbrev pub decreases-loop-c : goal.decreases-loop-c
decreases-loop-c l = length (chars l.rest)
