use Rattle.std.proofs.Common.{◌≡◌, ◌++◌, map}
use Rattle.std.specs.List.{filter}
use Rattle.nextest_config_profiles.specs.Reach.{words_of}
use Rattle.nextest_config_profiles.proofs.NamesInOrder.{is_other, lent_text, own_names}
use Rattle.nextest_config_profiles.proofs.name_list.profile_names.Given as goal

-- nextest's own, and the others so far
abbrev pub invariant-loop-name : goal.invariant-loop-name
invariant-loop-name l = words_of l.names.items ≡ own_names ++ filter is_other (map lent_text l.yielded)
