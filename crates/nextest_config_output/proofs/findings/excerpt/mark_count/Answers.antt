use Rattle.std.proofs.Common.{ℕ, ◌≤◌, ◌-◌, ◌==◌, true, false, List, length, take, drop, cond, arith}
use Rattle.std.proofs.lemmas.List.{length-drop, length-take}
use Rattle.nextest_config_output.specs.Findings.Excerpt.{held}
use Rattle.toml_spans.specs.declared.place.Span.{Span}
use Rattle.nextest_config_output.proofs.findings.excerpt.mark_count.Goals as goal

-- a range holds no more characters than there are
length-held : (span : Span) (cs : List ℕ) → length (held span cs) ≤ length cs
length-held span cs = elim (span.begin.line == span.end.line) as (λ one_line. length (drop (span.begin.column - 1) (cond one_line (take (span.end.column - 1) cs) cs)) ≤ length cs) [
  | true ↦ omega (arith, length-drop {A = ℕ}, length-take {A = ℕ})
  | false ↦ omega (arith, length-drop {A = ℕ})
]

pub columns-requires : goal.columns-requires
columns-requires c =
    rw (c.held.ensures, c.front.ensures)
    (let most = length-held c.args.span (take 200 c.args.characters.now) in omega (arith, length-take {A = ℕ}))
