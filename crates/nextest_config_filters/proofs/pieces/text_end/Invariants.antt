use Rattle.std.proofs.Common.{◌≡◌, length}
use Rattle.std.specs.Prelude.{◌||◌, chars}
use Rattle.std.specs.Str.{IsUtf8}
use Rattle.nextest_config_filters.specs.Pieces.{has_before_end, is_brace, is_opening, text_end}
use Rattle.nextest_config_filters.proofs.pieces.text_end.Given as goal

-- the rest ends where the text does, and what is met so far or in the rest is met in the text
abbrev pub invariant-loop-c : goal.invariant-loop-c
invariant-loop-c l = record {
  text : IsUtf8 l.end.rest.now;
  same : text_end (chars l.end.rest.now) ≡ text_end (chars l.text);
  parenthesis : (l.end.has_parenthesis || has_before_end is_opening (chars l.end.rest.now))
      ≡ has_before_end is_opening (chars l.text);
  brace : (l.end.has_brace || has_before_end is_brace (chars l.end.rest.now))
      ≡ has_before_end is_brace (chars l.text);
}

abbrev pub decreases-loop-c : goal.decreases-loop-c
decreases-loop-c l = length (chars l.end.rest.now)
