-- What the last layer that says anything of a path has there.
use Rattle.std.specs.Prelude.{List, Option, Some, None}
use Rattle.toml.specs.View.{view}
use Rattle.nextest_config_profiles.specs.Said.{Said, said_here}
use Rattle.nextest_config_profiles.specs.Selection.{HasNothing, IsLast}
use Rattle.nextest_config_profiles.specs.declared.last_value.LayerValue.{LayerValue}

-- of what layers say, the last that isn't silent is this value of this layer, or they have nothing
-- (nextest's documentation)
abbrev pub IsLastValue : List Said → Option LayerValue → Type 0
IsLastValue all None = HasNothing all
IsLastValue all (Some found) = IsLast all found.layer (said_here (view found.value.now))
