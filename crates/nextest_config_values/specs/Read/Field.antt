-- The readings of a table's keys (TOML 1.1, "Table"). Other keys don't count.
use Rattle.std.specs.Prelude.{ℕ, List, Option, Some, None}
use Rattle.toml.specs.Data.{Data, Members, get_member}
use Rattle.nextest_config_values.specs.Read.Fault.{missing}
use Rattle.nextest_config_values.specs.Read.FromToml.{Reading}
use Rattle.nextest_config_values.specs.Read.Readings.{inner_at, kind, made_of, no_value, only}
use Rattle.toml_spans.specs.Step.{key}

-- the value at a key of a table, whose fault stands below the table
abbrev pub at_key : {X : Type 0} → List ℕ → Reading Data X → Data → Reading Members X
at_key name = inner_at (key name)

-- a key that is required: its absence is a fault of the table
abbrev pub required : {X : Type 0} → List ℕ → Reading Data X → Reading Members X
required name reading =
    kind (get_member name) (at_key name reading) (no_value (λ members. missing name))

-- a key that may be missing: then there is no result
abbrev pub optional : {X : Type 0} → List ℕ → Reading Data X → Reading Members (Option X)
optional name reading = kind (get_member name) (at_key name (made_of Some reading)) (only None)

-- a key that may be missing: then the result is the default
abbrev pub or_default : {X : Type 0} → List ℕ → X → Reading Data X → Reading Members X
or_default name default reading = kind (get_member name) (at_key name reading) (only default)
