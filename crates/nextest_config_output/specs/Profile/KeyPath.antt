-- Paths of keys, as they print.
use Rattle.std.specs.Prelude.{ℕ, List, codes}
use Rattle.std.specs.List.{join_by}
use Rattle.std.proofs.Common.{Bor}
use Rattle.nextest_config_values.specs.Literal.Key.{key_text}

-- the path of a key: its parts as TOML writes keys, with dots between (TOML 1.1, "Keys")
abbrev pub key_path : List (Bor (List ℕ)) → List ℕ
key_path parts = join_by (λ part. key_text part.now) (codes ".") parts
