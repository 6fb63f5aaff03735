use Rattle.std.proofs.Common.{◌≡◌, ◌++◌, map, take}
use Rattle.serde_json.specs.Data.{string}
use Rattle.serde_json.specs.View.{view}
use Rattle.nextest_config_values.specs.Read.{words_of}
use Rattle.nextest_config_schema.proofs.values.push_words.Given as goal

-- the words so far are added
abbrev pub invariant-loop-word : goal.invariant-loop-word
invariant-loop-word l = map view l.values.items
    ≡ map view l.fn.values.items ++ map string (words_of (take l.word-index l.words))
