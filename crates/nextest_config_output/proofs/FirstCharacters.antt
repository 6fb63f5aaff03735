-- What is shown of a line shows in its first characters, and in the one after them.
use Rattle.std.proofs.Common.{◌≡◌, ◌∙◌, ℕ, ◌+◌, min, nat_lt, List, length, lit≤, take, ap, arith}
use Rattle.std.proofs.lemmas.Bool.Decides.{nat_tests}
use Rattle.std.proofs.lemmas.List.{length-take, take-take}
use Rattle.nextest_config_output.specs.Findings.Excerpt.{excerpt_of, is_cut}
use Rattle.toml_spans.specs.declared.place.Span.{Span}

past_most : (most n : ℕ) → nat_lt most (min (most + 1) n) ≡ nat_lt most n
past_most most n = grind (arith, nat_tests)

is_cut-take : (cs : List ℕ) → is_cut (take 201 cs) ≡ is_cut cs
is_cut-take cs = ap (nat_lt 200) (length-take 201 cs) ∙ past_most 200 (length cs)

take-shown : (cs : List ℕ) → take 200 (take 201 cs) ≡ take 200 cs
take-shown cs = take-take 200 201 cs (lit≤ tt)

pub excerpt_of-take : (span : Span) (cs : List ℕ) → excerpt_of span (take 201 cs) ≡ excerpt_of span cs
excerpt_of-take span cs = rw (is_cut-take cs, take-shown cs)
