use Rattle.std.proofs.Common.{◌≡◌, ◌∙◌, ◌==◌, ap, map}
use Rattle.std.specs.List.{slice_split}
use Rattle.toml_spans.specs.Characters.{dot}
use Rattle.nextest_config_lint.specs.Explain.KeyPath.{key_by, path_pieces}
use Rattle.nextest_config_lint.proofs.explain.key_path.field_at.Goals as goal

pub returns : goal.returns
returns c =
    let pieces : map (λ piece. piece.now) c.as_slice-2.result.now ≡ path_pieces c.args.path.now =
    ap (map (λ piece. piece.now)) c.as_slice-2.ensures.value ∙ c.in_ok-pieces.ensures ∙ ap (slice_split (λ b. b == dot)) (c.as_slice.ensures.value ∙ c.in_ok-outside.ensures) in
    c.in_ok-field.ensures ∙ ap key_by pieces
