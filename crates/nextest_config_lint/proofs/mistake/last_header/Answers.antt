use Rattle.std.proofs.Common.{None, Some, lit<, rules, subst}
use Rattle.std.proofs.lemmas.Str.Pattern.{split_parts}
use Rattle.nextest_config_lint.proofs.Mistakes.{IsLastSoFar, first_line, found_within, in_line, next_line, no_more}
use Rattle.nextest_config_lint.proofs.mistake.last_header.Goals as goal

pub lines-init : goal.lines-init
lines-init c = (search rules, first_line c.args.front.now c.header_or-header.result c.header_or-header.ensures)

pub returns-in_default-clause-header : goal.returns-in_default-clause-header
returns-in_default-clause-header c =
    no_more c.args.front.now c.lines.rest.now c.lines.header (in_line c.lines.rest.now (split_parts 10 c.lines.rest.now None c.in_default.ensures.cases (lit< tt))) c.lines.invariant.1

pub returns-in_default-clause-within : goal.returns-in_default-clause-within
returns-in_default-clause-within c = found_within c.args.front.now c.lines.rest.now c.lines.header c.lines.invariant.1

pub lines-preserved : goal.lines-preserved
lines-preserved c =
    let line = c.in-Some.field-0-0 in
    let parts = split_parts 10 c.lines.rest.now (Some (line, c.in-Some.after)) c.in-Some.ensures.cases (lit< tt) in
    let so = subst (λ rest. IsLastSoFar c.args.front.now rest c.lines.header) parts.0 c.lines.invariant.1 in
    (search rules, next_line c.args.front.now line.now c.in-Some.after.now c.lines.header c.header_or-header-in-lines.result (in_line line.now parts.1) so c.header_or-header-in-lines.ensures)
