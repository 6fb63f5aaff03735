-- What a layer says of a path of keys (TOML 1.1, "Table").
use Rattle.std.specs.Prelude.{ℕ, List, [], ◌∷◌, Option, Some, None}
use Rattle.toml.specs.Data.{Data, get_member, member, no_members, table}

-- keys, each in the table at those before it
abbrev pub Path : Type 0
Path = List (List ℕ)

-- what is said of a path: nothing; that a value which is no table stands on the way; a table, with
-- keys or without; or a value that is no table
pub data Said : Type 0 where
  silent : Said
  barred : Said
  branch : Said
  bare : Said
  leaf : Data → Said

-- what a value says of itself
abbrev pub said_here : Data → Said
said_here (table no_members) = bare
said_here (table (member key value rest)) = branch
said_here value = leaf value

-- what a value, if there is one, says of a path below it
abbrev pub said_at : Path → Option Data → Said
said_at path None = silent
said_at [] (Some value) = said_here value
said_at (key ∷ path) (Some (table members)) = said_at path (get_member key members)
said_at (key ∷ path) (Some value) = barred
