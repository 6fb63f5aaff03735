-- The schema of a whole file (JSON Schema, draft-07), and its text (RFC 8259).
use Rattle.std.specs.Prelude.{◌≡◌, ℕ, List, ◌++◌, codes, Some}
use Rattle.json.specs.Layout.{pretty}
use Rattle.json.specs.Lex.{tokens}
use Rattle.serde_json.specs.Data.{Data, string}
use Rattle.serde_json.specs.Read.{read}
use Rattle.serde_json.specs.Written.{IsInOrder}
use Rattle.nextest_config_elements.specs.Keys.{file_fields}
use Rattle.nextest_config_schema.specs.Fields.{IsTable}
use Rattle.nextest_config_schema.specs.Values.{having}
use Rattle.nextest_config_schema.specs.declared.schema_place.SchemaPlace.TheVariants.{File}

-- the draft that the schema follows
abbrev pub draft : List ℕ
draft = codes "http://json-schema.org/draft-07/schema#"

-- what the schema is of
abbrev pub title : List ℕ
title = codes "The configuration file of nextest"

-- which version's keys they are, and what isn't in the schema
abbrev pub comment : List ℕ
comment =
    codes "The configuration file of a repository, .config/nextest.toml, as nextest 0.129.0 "
    ++ codes "(nextest-runner) knows it. Not in it: rules between keys, references, what filters "
    ++ codes "and platforms say, editions, files of tools, and values of other kinds that nextest "
    ++ codes "may convert."

-- the schema of a file: that of the table of its keys, with the draft, a comment and a title
abbrev pub IsFileSchema : Data → Type 0
IsFileSchema schema = (table : Data) × IsTable File file_fields table
    × (schema ≡ having (codes "$schema") (string draft)
    (having (codes "$comment") (string comment) (having (codes "title") (string title) table)))

-- the text is that of the value in JSON, in lines that show how it nests
pub record IsPrettyText (value : Data) (text : List ℕ) : Type 0 where
  pub layout : text ≡ pretty (tokens text)
  pub order : IsInOrder text value
  pub reads_back : read text ≡ Some value

-- the text of the schema of a file, and a line feed
abbrev pub IsFileSchemaText : List ℕ → Type 0
IsFileSchemaText lines = (schema : Data) × (text : List ℕ) × IsFileSchema schema
    × IsPrettyText schema text × (lines ≡ text ++ codes "\n")
