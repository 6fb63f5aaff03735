use Rattle.std.proofs.Common.{rules}
use Rattle.serde_json.specs.View.{view}
use Rattle.nextest_config_schema.proofs.fields.+schema.Goals as goal

-- the text that describes the value is the key's sentence
pub property-returns : goal.property-returns
property-returns t c =
    (view c.in_ok-schema.schema, c.said.result.sentence.now, search rules, search rules)
