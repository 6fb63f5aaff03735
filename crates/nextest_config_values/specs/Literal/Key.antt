-- Keys, as TOML writes them.
use Rattle.std.specs.Prelude.{ℕ, List, if◌then◌else◌}
use Rattle.toml_spans.specs.Step.{is_bare_key}
use Rattle.nextest_config_values.specs.Literal.Text.{basic_text}

-- a key: bare where that is allowed, else as a basic string (TOML 1.1, "Keys")
abbrev pub key_text : List ℕ → List ℕ
key_text text = if is_bare_key text then text else basic_text text
