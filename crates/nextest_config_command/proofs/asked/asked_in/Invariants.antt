use Rattle.std.proofs.Common.{map}
use Rattle.nextest_config.specs.NextestVersion.{place_of}
use Rattle.nextest_config_command.specs.Asked.{NoneAsks}
use Rattle.nextest_config_command.proofs.asked.asked_in.Given as goal

-- no file so far asks
abbrev pub invariant-loop-file : goal.invariant-loop-file
invariant-loop-file l = NoneAsks (map (λ file. file.now) l.yielded) l.role (place_of l.source)
