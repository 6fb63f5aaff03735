use Rattle.std.proofs.Common.{◌≡◌, length}
use Rattle.std.specs.Prelude.{chars}
use Rattle.std.specs.Str.{IsUtf8}
use Rattle.nextest_config_filters.specs.Pieces.{behind_pieces}
use Rattle.nextest_config_filters.proofs.pieces.behind_pieces.Given as goal

-- the rest ends where the text does
abbrev pub invariant-loop-following : goal.invariant-loop-following
invariant-loop-following l = record {
  text : IsUtf8 l.rest;
  same : behind_pieces l.kind (chars l.rest) ≡ behind_pieces l.kind (chars l.text);
}

abbrev pub decreases-loop-following : goal.decreases-loop-following
decreases-loop-following l = length (chars l.rest)
