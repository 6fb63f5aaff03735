use Rattle.std.proofs.Common.{◌≡◌, map}
use Rattle.nextest_config.specs.NextestVersion.{place_of, tool_place}
use Rattle.nextest_config_command.proofs.found.tool_sources.Given as goal

abbrev pub invariant-loop-tool : goal.invariant-loop-tool
invariant-loop-tool l = map place_of l.sources.items ≡ map tool_place (map (λ tool. tool.now) l.yielded)
