use Rattle.std.proofs.Common.{refl, sym}
use Rattle.toml.specs.View.{view}
use Rattle.nextest_config_values.proofs.Faults.{refused_by}
use Rattle.nextest_config_values.specs.Read.{wrong_value}
use Rattle.nextest_config_elements.specs.MaxFail.{max_fail_in}
use Rattle.nextest_config_elements.proofs.max_fail.fail_fast.MaxFailCountFromToml.read_value.Goals as goal

pub returns-in-Some-as_str-clause-refused : goal.returns-in-Some-as_str-clause-refused
returns-in-Some-as_str-clause-refused c =
    let value = view c.args.value.now in
    rw (sym c.in_default.ensures, sym c.in-Some-as_str.ensures)
    (refused_by (max_fail_in c.in-Some-as_str.text.now) value (wrong_value value c.expected_for.result.now) c.invalid_value-in-Some-as_str.result
    (c.in-Some-as_str.not-all, c.expected_for.result.now, c.expected_for.ensures, refl) c.invalid_value-in-Some-as_str.ensures)
