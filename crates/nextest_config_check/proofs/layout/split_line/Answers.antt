use Rattle.std.proofs.Common.{Some, None, refl, inl, inr, arith}
use Rattle.std.proofs.lemmas.Str.Pattern.{split_parts}
use Rattle.nextest_config_check.proofs.Lines.{in_line_from_reads}
use Rattle.nextest_config_check.proofs.layout.split_line.Goals as goal

pub returns-in-Some : goal.returns-in-Some
returns-in-Some c =
    let parts = split_parts 10 c.args.text.now (Some (c.in-Some.line, c.in-Some.rest)) c.in-Some.ensures.cases (omega arith) in
    inl (record { bytes = c.in-Some.line.now; whole = parts.0; one_line = in_line_from_reads c.in-Some.line.now parts.1; line_is = c.trimmed.ensures })

pub returns-in-None : goal.returns-in-None
returns-in-None c =
    let unsplit = split_parts 10 c.args.text.now None c.in-None.ensures.cases (omega arith) in
    inr (record { one_line = in_line_from_reads c.args.text.now unsplit; line_is = refl; no_rest = refl })
