use Rattle.std.proofs.Common.{◌≡◌, ◌++◌, rules, string_bytes}
use Rattle.nextest_config.specs.NextestVersion.{verdict_of}
use Rattle.nextest_config_command.specs.Answer.{enough, not_enough, status_checked, status_found}
use Rattle.nextest_config_command.specs.Found.{files_of}
use Rattle.nextest_config_command.specs.Lint.{lint_text, summary_of}
use Rattle.nextest_config_command.proofs.answer.Engine.check_with.Goals as goal

pub returns-then-fails : goal.returns-then-fails
returns-then-fails c = λ configuration listed selected reported.
    rw (c.writes.ensures, c.in_format-text.ensures) (not_enough configuration (verdict_of c.args.eval.now) (string_bytes c.args.front) listed selected (search rules) reported)

pub returns : goal.returns
returns c = λ configuration listed selected reported.
    let lint = c.in_ok-lint.ensures in
    let v = verdict_of c.args.eval.now in
    let check = c.args.check.now in
    let text : string_bytes c.push_str.new.self ≡ string_bytes c.args.front ++ lint_text check.lint.format lint.found = search rules in
    let status : c.status_found-status.result ≡ status_found check.lint.strict (files_of c.args.self.now.files.now) (status_checked check.lint.strict v (summary_of lint.found)) = search rules in
    rw (c.writes-2.ensures, c.in_format.ensures, text, status) (enough configuration v (string_bytes c.args.front) lint.found listed selected (search rules) reported lint.are_found)
