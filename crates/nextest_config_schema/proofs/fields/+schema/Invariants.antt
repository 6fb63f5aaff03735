use Rattle.std.proofs.Common.{drop}
use Rattle.serde_json.specs.Data.{Members, no_members}
use Rattle.serde_json.specs.View.{members_view}
use Rattle.nextest_config_elements.specs.Fields.{fields_view}
use Rattle.nextest_config_schema.specs.Fields.{AddsProperties}
use Rattle.nextest_config_schema.proofs.fields.+schema.Given as goal

-- what those that are left add, all add
abbrev pub invariant-properties-loop-field : goal.invariant-properties-loop-field
invariant-properties-loop-field l = (all : Members)
    → AddsProperties (fields_view (drop l.field-index l.fields)) l.place
    (members_view l.properties.entries) all
    → AddsProperties (fields_view l.fields) l.place no_members all
