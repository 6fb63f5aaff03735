use Rattle.std.proofs.Common.{◌≡◌, drop}
use Rattle.nextest_config_values.specs.Duration.{length_in, rows}
use Rattle.nextest_config_values.proofs.duration.find_unit.Given as goal

-- the word is in no row so far
abbrev pub invariant-loop-name : goal.invariant-loop-name
invariant-loop-name l = length_in (rows l.units) l.word ≡ length_in (rows (drop l.name-index l.units)) l.word
