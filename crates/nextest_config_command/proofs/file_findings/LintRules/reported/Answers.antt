use Rattle.std.proofs.Common.{◌≡◌, [], rules, sym}
use Rattle.std.proofs.lemmas.List.{nil_from_length}
use Rattle.nextest_config_command.proofs.LintStatus.{all_reported}
use Rattle.nextest_config_command.proofs.file_findings.LintRules.reported.Goals as goal

pub returns-then-is_empty : goal.returns-then-is_empty
returns-then-is_empty c =
    let none : c.args.self.now.allowed.now ≡ [] = nil_from_length c.args.self.now.allowed.now (search rules) in
    rw none (sym (all_reported c.args.self.now.edition c.args.self.now.tells_refusals c.args.all.items))
