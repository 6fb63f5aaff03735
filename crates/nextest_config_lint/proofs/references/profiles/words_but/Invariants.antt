use Rattle.std.proofs.Common.{◌≡◌, ◌≤◌, length, map, string_bytes}
use Rattle.std.specs.List.{filter}
use Rattle.nextest_config_values.specs.Read.{words_of}
use Rattle.nextest_config_lint.specs.References.Profiles.{is_other}
use Rattle.nextest_config_lint.specs.References.Names.{most_names}
use Rattle.nextest_config_lint.proofs.references.profiles.words_but.Given as goal

-- those so far but for one are few
abbrev pub invariant-loop-name : goal.invariant-loop-name
invariant-loop-name l =
    (words_of l.words.items ≡ filter (is_other l.left_out) (map (λ name. string_bytes name.now) l.yielded))
    × (length (words_of l.words.items) ≤ most_names)
