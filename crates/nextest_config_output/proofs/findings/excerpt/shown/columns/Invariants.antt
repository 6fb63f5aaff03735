use Rattle.std.proofs.Common.{◌≡◌, ◌≤◌, ◌*◌, take}
use Rattle.nextest_config_output.specs.Findings.Excerpt.Shown.{columns}
use Rattle.nextest_config_output.proofs.findings.excerpt.shown.columns.Given as goal

-- the columns so far, of which each character has at most eight
abbrev pub invariant-loop-c : goal.invariant-loop-c
invariant-loop-c l = (l.sum ≡ columns (take l.c-index l.characters)) × (l.sum ≤ 8 * l.c-index)
