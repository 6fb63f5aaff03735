use Rattle.std.proofs.Common.{◌≡◌, ◌++◌, map, string_bytes}
use denote.Text.{Utf8}
use denote.Shadow.{shadow}
use Rattle.nextest_config_values.proofs.Joined.{separator_after}
use Rattle.nextest_config_values.specs.Read.{comma_list}
use Rattle.nextest_config_lint.specs.Features.{feature_text}
use Rattle.nextest_config_lint.proofs.features.push_features.Given as goal

abbrev pub invariant-loop-feature : goal.invariant-loop-feature
invariant-loop-feature l =
    shadow (Utf8 l.separator)
    × (l.separator ≡ separator_after l.yielded)
    × (string_bytes l.text ≡ string_bytes l.fn.text ++ comma_list (map (λ feature. feature_text feature.now) l.yielded))
