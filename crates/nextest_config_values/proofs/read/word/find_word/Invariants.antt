use Rattle.std.proofs.Common.{◌≢◌, take}
use Rattle.std.specs.List.{AllByRecursion}
use Rattle.nextest_config_values.proofs.read.word.find_word.Given as goal

-- the text is no value's word so far
abbrev pub invariant-loop-value : goal.invariant-loop-value
invariant-loop-value g l = AllByRecursion (λ x. g.T.Word.word x ≢ l.text) (take l.value-index l.value-items)
