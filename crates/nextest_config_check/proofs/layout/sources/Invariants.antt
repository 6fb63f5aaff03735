use Rattle.std.proofs.Common.{length, map}
use denote.Text.{Utf8}
use denote.Shadow.{shadow}
use Rattle.nextest_config.specs.NextestVersion.{given_of}
use Rattle.nextest_config_check.specs.Layout.{AreSourcesBefore}
use Rattle.nextest_config_check.proofs.layout.sources.Given as goal

abbrev pub invariant-loop-rest : goal.invariant-loop-rest
invariant-loop-rest l = record { text : shadow (Utf8 l.rest); before : AreSourcesBefore l.input (map given_of l.sources.items) l.rest }

abbrev pub decreases-loop-rest : goal.decreases-loop-rest
decreases-loop-rest l = length l.rest
