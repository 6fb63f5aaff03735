use Rattle.std.proofs.Common.{◌≤◌, ◌+◌, take}
use Rattle.toml_spans.specs.Place.{IsColumn}
use Rattle.toml_spans.proofs.front.column_of_front.Given as goal

-- the column after the bytes so far
abbrev pub invariant-loop-byte : goal.invariant-loop-byte
invariant-loop-byte l = IsColumn (take l.byte-index l.front) l.column × (l.column ≤ l.byte-index + 1)
