-- Values of JSON (RFC 8259).
use Rattle.std.specs.Prelude.{ℕ, List}
use Rattle.serde_json.specs.Data.{Data, object, put}

-- an object with this value at this key; what is no object stays as it is
abbrev pub with_member : List ℕ → Data → Data → Data
with_member key value (object members) = object (put key value members)
with_member key value other = other
