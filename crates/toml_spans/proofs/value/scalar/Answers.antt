use Rattle.std.proofs.Common.{◌≡◌, true, false, arith}
use Rattle.std.proofs.lemmas.Bool.Decides.{nat_tests}
use Rattle.std.proofs.lemmas.Grind.{common_steps}
use Rattle.toml.specs.Parse.{atom}
use Rattle.toml_parser.specs.Strings.{starts_string}
use Rattle.toml_spans.proofs.Turns.{gives_read_err}
use Rattle.toml_spans.proofs.Views.{tree_of-Scalar}
use Rattle.toml_spans.proofs.value.scalar.Goals as goal

pub returns-in_err-rest-clause-value : goal.returns-in_err-rest-clause-value
unfolding atom
returns-in_err-rest-clause-value c =
    let begins : starts_string c.args.text.now ≡ true = grind (arith, nat_tests, common_steps) in
    gives_read_err _ _ c.from_residual.ensures.1 λ refused.
    rw (begins, c.in_err-rest.ensures.value refused)

pub returns-in_err-rest-2-clause-value : goal.returns-in_err-rest-2-clause-value
unfolding atom
returns-in_err-rest-2-clause-value c =
    let other : starts_string c.args.text.now ≡ false = grind (arith, nat_tests, common_steps) in
    gives_read_err _ _ c.from_residual-in_err-rest-2.ensures.1 λ refused.
    rw (other, c.in_err-rest-2.ensures.value refused)

pub returns-in_ok-rest-clause-value : goal.returns-in_ok-rest-clause-value
unfolding atom
returns-in_ok-rest-clause-value c =
    let begins : starts_string c.args.text.now ≡ true = grind (arith, nat_tests, common_steps) in
    rw (begins, c.in_ok-rest.ensures.value, tree_of-Scalar, c.between-piece.ensures)

pub returns-in_ok-rest-2-clause-value : goal.returns-in_ok-rest-2-clause-value
unfolding atom
returns-in_ok-rest-2-clause-value c =
    let other : starts_string c.args.text.now ≡ false = grind (arith, nat_tests, common_steps) in
    rw (other, c.in_ok-rest-2.ensures.value, tree_of-Scalar, c.between-piece-else-starts_string.ensures)
