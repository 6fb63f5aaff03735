use Rattle.std.proofs.Common.{string_bytes}
use Rattle.serde_json.specs.View.{view}
use Rattle.nextest_config_schema.proofs.Depths.{file_depth}
use Rattle.nextest_config_schema.proofs.file.schema_text.Goals as goal

-- the schema nests no deeper than `serde_json` reads, so its text reads back
pub returns : goal.returns
returns c =
    let value = view c.in_ok-schema.field-0 in (
      value,
      string_bytes c.in_ok-text.text,
      c.in_ok-schema.ensures,
      record {
        layout = c.in_ok-text.ensures.layout;
        order = c.in_ok-text.ensures.order;
        reads_back = c.in_ok-text.ensures.reads_back (file_depth value c.in_ok-schema.ensures);
      },
      c.in_ok-push_str.ensures.bytes,
    )
