-- Settings that a table sets.
use Rattle.std.specs.Prelude.{ℕ, List, Option, Some}
use Rattle.toml.specs.Data.{Data, Members, as_table}
use Rattle.nextest_config_values.specs.Read.{inner, kind, made_of, Reading, wrong_kind}

-- a table sets what it means; a value of another kind isn't what the setting takes
abbrev pub set_by_table : {X : Type 0} → Reading Members X → List ℕ → Reading Data (Option X)
set_by_table table expected = kind as_table (inner (made_of Some table)) (wrong_kind expected)
