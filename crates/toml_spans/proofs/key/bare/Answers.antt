use Rattle.std.proofs.Common.{◌≡◌, ◌<◌, ◌∙◌, arith}
use Rattle.std.proofs.lemmas.Grind.{common_steps}
use Rattle.std.specs.List.{prefix_len}
use Rattle.std.proofs.lemmas.Bool.Decides.{nat_tests}
use Rattle.toml_parser.proofs.LexicalLemmas.{IsCharBoundary-ascii_run}
use Rattle.toml_parser.specs.Lexical.{is_bare}
use Rattle.toml_spans.proofs.Bare.{bare_none, bare_some}
use Rattle.toml_spans.proofs.key.bare.Goals as goal

pub returns-then-length-eq0-clause-value : goal.returns-then-length-eq0-clause-value
returns-then-length-eq0-clause-value c _ =
    let none : prefix_len is_bare c.args.text.now ≡ 0 = grind (arith, common_steps) in
    bare_none c.args.text.now c.requires none

pub split_at-requires : goal.split_at-requires
split_at-requires c =
    rw (c.bare_length-length.ensures.length, c.as_bytes.ensures.value) (IsCharBoundary-ascii_run is_bare c.args.text.now c.utf8.text (λ b e. grind (arith, nat_tests)))

pub returns-clause-value : goal.returns-clause-value
returns-clause-value c =
    let some : 0 < prefix_len is_bare c.args.text.now = grind (arith, common_steps) in
    bare_some c.args.text.now c.requires some ∙ grind (arith, common_steps)
