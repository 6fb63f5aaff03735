use Rattle.std.proofs.Common.{◌≡◌, length}
use Rattle.std.specs.Str.{chars, IsUtf8}
use Rattle.nextest_config_filters.specs.Platform.Near.{behind_same}
use Rattle.nextest_config_filters.proofs.platform.near.behind_same.Given as goal

-- behind what both have stands what does so far
abbrev pub invariant-loop-c : goal.invariant-loop-c
invariant-loop-c l = record {
  left : IsUtf8 l.left;
  right : IsUtf8 l.right;
  same : behind_same (chars l.left) (chars l.right) ≡ behind_same (chars l.one) (chars l.other);
}

abbrev pub decreases-loop-c : goal.decreases-loop-c
decreases-loop-c l = length (chars l.left)
