use Rattle.std.proofs.Common.{◌≡◌, [], ◌∷◌, ◌++◌, ap₂, map, sym}
use Rattle.toml_spans.specs.Step.{key, step_of}
use Rattle.nextest_config_lint.proofs.Severities.{reported_kind, reported_path}
use Rattle.nextest_config_lint.specs.File.{path_after, whole_path}
use Rattle.nextest_config_lint.specs.Found.{kind_view}
use Rattle.nextest_config_lint.proofs.file.range_in.Goals as goal

pub returns-in_ok-path-in-Some : goal.returns-in_ok-path-in-Some
returns-in_ok-path-in-Some c text found of_text reported =
    let steps = map step_of c.args.finding.now.path.items in
    let at = rw c.in-Some.is at (c.key_in.ensures found.kind (reported_kind steps (kind_view c.args.finding.now.kind) found reported)) in
    let whole : whole_path found ≡ steps ++ (key c.in-Some.name.now ∷ []) = ap₂ path_after (reported_path steps (kind_view c.args.finding.now.kind) found reported) (sym at) in
    rw (c.as_slice-in-Some.ensures.value, c.in_ok-path-in-Some.ensures, c.as_slice.ensures.value, ← whole, c.is_of_key-of_key.ensures found reported) at (c.span_at.ensures text of_text)

pub returns-in-None : goal.returns-in-None
returns-in-None c text found of_text reported =
    let steps = map step_of c.args.finding.now.path.items in
    let at = rw c.in-None.is at (c.key_in.ensures found.kind (reported_kind steps (kind_view c.args.finding.now.kind) found reported)) in
    let whole : whole_path found ≡ steps = ap₂ path_after (reported_path steps (kind_view c.args.finding.now.kind) found reported) (sym at) in
    rw (c.as_slice-in-None.ensures.value, ← whole, c.is_of_key-of_key.ensures found reported) at (c.span_at-in-None.ensures text of_text)
