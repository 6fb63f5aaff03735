-- Where in a file a value stands, as far as its schema depends on that.
use Rattle.std.specs.Prelude.{ℕ, ◌&&◌, Bool, not, if◌then◌else◌, List, codes, nat_eq}
use Rattle.std.specs.Cmp.Lexicographic.{pointwise}
use Rattle.nextest_config_elements.specs.Fields.{KeyRule}
use Rattle.nextest_config_schema.specs.declared.schema_place.SchemaPlace.{SchemaPlace}
use Rattle.nextest_config_schema.specs.declared.schema_place.SchemaPlace.TheVariants.{DefaultProfile, Elsewhere, File, Profiles}

-- where the value of a key stands, in a table that stands here
abbrev pub below : SchemaPlace → List ℕ → SchemaPlace
below File key = if pointwise nat_eq key (codes "profile") then Profiles else Elsewhere
below place key = place

-- a table that stands here has to have the key: it is required, and isn't a period in the profile
-- `default`, which nextest's own configuration has
abbrev pub is_wanted : SchemaPlace → KeyRule → Bool
is_wanted DefaultProfile rule = rule.required && not (pointwise nat_eq rule.key (codes "period"))
is_wanted place rule = rule.required
