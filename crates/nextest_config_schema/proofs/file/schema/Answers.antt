use Rattle.std.proofs.Common.{◌∙◌, ap, codes, subst}
use Rattle.serde_json.specs.Data.{string}
use Rattle.serde_json.specs.View.{view}
use Rattle.nextest_config_schema.specs.Fields.{IsTable}
use Rattle.nextest_config_schema.specs.File.{comment, draft}
use Rattle.nextest_config_schema.specs.Values.{having}
use Rattle.nextest_config_schema.specs.declared.schema_place.SchemaPlace.TheVariants.{File}
use Rattle.nextest_config_schema.proofs.file.schema.Goals as goal

pub returns : goal.returns
returns c =
    let table = view c.in_ok-schema.schema in (
      table,
      subst (λ known. IsTable File known table) c.file_fields.ensures c.in_ok-schema.ensures,
      c.in_ok-schema-4.ensures ∙ ap (having (codes "$schema") (string draft))
          (c.in_ok-schema-3.ensures ∙ ap (having (codes "$comment") (string comment)) c.in_ok-schema-2.ensures),
    )
