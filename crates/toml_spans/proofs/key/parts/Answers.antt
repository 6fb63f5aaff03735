use Rattle.std.proofs.Common.{◌≡◌, ◌-◌, Some, string_bytes, ◌∙◌, rules, arith}
use Rattle.std.proofs.lemmas.Grind.{common_steps}
use Rattle.std.proofs.lemmas.Bool.Decides.{nat_tests}
use Rattle.std.proofs.lemmas.List.{map-append}
use Rattle.toml_parser.specs.Strings.{simple_key}
use Rattle.toml_spans.specs.KeyViews.{path_of}
use Rattle.toml_spans.proofs.Turns.{gives_err, parts_turn, parts_zero}
use Rattle.toml_spans.proofs.key.parts.Goals as goal

pub returns-in_err-key-clause-value : goal.returns-in_err-key-clause-value
returns-in_err-key-clause-value c =
    let l = c.parts in
    let turn = parts_turn (80 - l._part) (path_of l.path.items) l.rest.now (omega arith) in
    gives_err _ _ c.from_residual.ensures.1 λ refused.
    l.invariant.2 ∙ turn ∙ rw (c.in_err-key.ensures.value refused)

pub returns-then-first-ne46-clause-value : goal.returns-then-first-ne46-clause-value
returns-then-first-ne46-clause-value c =
    let l = c.parts in
    let turn = parts_turn (80 - l._part) (path_of l.path.items) l.rest.now (omega arith) in
    let read : simple_key l.rest.now ≡ Some (string_bytes c.in_ok-key.key, c.in_ok-key.behind.now) = c.in_ok-key.ensures.value in
    l.invariant.2 ∙ turn ∙ rw read (grind (arith, nat_tests, common_steps))

pub parts-preserved : goal.parts-preserved
parts-preserved c =
    let l = c.parts in
    let turn = parts_turn (80 - l._part) (path_of l.path.items) l.rest.now (omega arith) in
    let read : simple_key l.rest.now ≡ Some (string_bytes c.in_ok-key.key, c.in_ok-key.behind.now) = c.in_ok-key.ensures.value in
    (search rules, omega (arith, l.invariant.1, c.in_ok-key.ensures.shorter, c.skip_ws-after.ensures.within, c.skip.ensures.shorter, c.skip_ws-rest.ensures.within), l.invariant.2 ∙ turn ∙ rw read (grind (arith, nat_tests, common_steps, map-append)))

pub returns-clause-value : goal.returns-clause-value
returns-clause-value c refused =
    let l = c.parts in
    let none : 80 - l._part ≡ 0 = omega arith in
    l.invariant.2 ∙ rw none (parts_zero _ _)
