use Rattle.std.proofs.Common.{arith, ap, ◌∙◌}
use Rattle.std.proofs.lemmas.Str.Pattern.{strip_suffix_char}
use Rattle.nextest_config_check.proofs.Lines.{trimmed_from_strip}
use Rattle.nextest_config_check.proofs.layout.trimmed.Goals as goal

pub returns : goal.returns
returns c =
    ap (λ line. line.now) c.unwrap_or.ensures ∙ trimmed_from_strip c.args.line c.strip_suffix.result (strip_suffix_char 13 c.args.line.now c.strip_suffix.result c.strip_suffix.ensures.cases (omega arith))
