use Rattle.std.proofs.Common.{flat_map, take}
use Rattle.std.specs.Fmt.{HasWritten, IsPlainFormatter}
use Rattle.nextest_config_output.specs.Findings.Excerpt.Shown.{character_shown}
use Rattle.nextest_config_output.proofs.findings.excerpt.shown.write_characters.Given as goal

-- the characters so far are written
abbrev pub invariant-loop-c : goal.invariant-loop-c
invariant-loop-c g l = IsPlainFormatter l.fn.f → HasWritten g.W.Write.write_str_gives l.fn.f (flat_map character_shown (take l.c-index l.characters)) l.f
