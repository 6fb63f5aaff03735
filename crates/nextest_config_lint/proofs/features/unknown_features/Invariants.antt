use Rattle.std.proofs.Common.{[], map, string_bytes}
use Rattle.toml.specs.View.{view}
use Rattle.nextest_config_lint.specs.Features.{IsNameFound}
use Rattle.nextest_config_lint.specs.Found.{AddsFound}
use Rattle.nextest_config_lint.specs.Settings.{setting_view}
use Rattle.nextest_config_lint.proofs.features.unknown_features.Given as goal

-- what was found so far is that of the names so far
abbrev pub invariant-loop-name : goal.invariant-loop-name
invariant-loop-name l = AddsFound (IsNameFound (setting_view l.setting).path (view l.value)) (map (λ name. string_bytes name.now) l.yielded) [] l.findings.items
