use Rattle.std.proofs.Common.{◌≡◌, Some, refl}
use Rattle.toml.proofs.OnLiterals.{toml_on_literals}
use Rattle.toml.specs.Parse.{parse_document}
use Rattle.nextest_config_profiles.specs.Defaults.{default_values}
use Rattle.nextest_config_profiles.specs.declared.defaults.TheConstants.{DEFAULTS}
use Rattle.nextest_config_profiles.proofs.defaults.default_document.Goals as goal

-- the text reads as these values
defaults_parse : parse_document DEFAULTS.now ≡ Some default_values
unfolding toml_on_literals
defaults_parse = refl

pub returns : goal.returns
returns c = cc (c.in-Ok.ensures.ok, defaults_parse)

pub unreachable-requires : goal.unreachable-requires
unreachable-requires c = cc (c.in-Err.ensures.refused (λ memory. cc (c.is_memory.ensures.1 memory, c.if-is_memory.false)), defaults_parse)
