use Rattle.std.proofs.Common.{◌∙◌, ap, string_bytes, sym}
use Rattle.std.specs.List.{list_all}
use Rattle.nextest_config_values.specs.Literal.Shown.{is_plain}
use Rattle.nextest_config_values.proofs.Printable.{plain_lines}
use Rattle.nextest_config_values.proofs.literal.shown.shown_lines.Goals as goal

pub returns-then-are_plain : goal.returns-then-are_plain
returns-then-are_plain c =
    plain_lines (string_bytes c.args.text) (sym (ap (list_all is_plain) c.as_str.ensures.value) ∙ sym c.are_plain.ensures ∙ c.if-are_plain.true)
