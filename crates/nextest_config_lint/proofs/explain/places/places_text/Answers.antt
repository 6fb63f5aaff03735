use Rattle.std.proofs.Common.{◌∙◌, ap, codes, flat_map, map, string_bytes}
use Rattle.std.specs.List.{join_by}
use Rattle.nextest_config_lint.proofs.Sentences.{join_texts}
use Rattle.nextest_config_lint.specs.Explain.KnownKey.{known_key}
use Rattle.nextest_config_lint.specs.Explain.Places.{table_if}
use Rattle.nextest_config_lint.proofs.explain.places.places_text.Goals as goal

pub returns : goal.returns
returns c =
    let known = ap (map known_key) c.as_slice.ensures.value ∙ (rw c.file_fields.ensures at c.in_ok-known.ensures) in
    let tables = ap (map string_bytes) c.deref.ensures.value ∙ c.in_ok-tables.ensures ∙ ap (flat_map (table_if c.args.name.now)) known in
    c.in_ok-text.ensures.ok ∙ join_texts string_bytes (codes ", ") c.deref.result.now ∙ ap (join_by (λ text. text) (codes ", ")) tables
