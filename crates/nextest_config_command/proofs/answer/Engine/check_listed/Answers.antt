use Rattle.std.proofs.Common.{◌≡◌, rules}
use Rattle.std.proofs.lemmas.Result.{IfOk-weaker}
use Rattle.semver.specs.Identifiers.{parts_of}
use Rattle.nextest_config.specs.NextestVersion.{configuration_of, verdict, verdict_of}
use Rattle.nextest_config_command.specs.Found.{all_files, files_of}
use Rattle.nextest_config_command.proofs.AskedVersions.{asked_for}
use Rattle.nextest_config_command.proofs.answer.Engine.check_listed.Goals as goal

pub verdict_text-requires : goal.verdict_text-requires
verdict_text-requires c =
    let configuration = configuration_of c.args.config.now in
    let current = parts_of c.args.check.now.current in
    let overridden = c.args.check.now.override_version_check in
    let is : verdict_of c.in_ok-eval.eval ≡ verdict configuration.roles current overridden = search rules in
    let selects = c.requires.1.1 in
    asked_for c.args.self.now.edition (all_files (files_of c.args.self.now.files.now)) current overridden (verdict_of c.in_ok-eval.eval) c.requires.0 (rw is (selects.0, selects.1, selects.2 current overridden))

pub returns : goal.returns
returns c =
    let configuration = configuration_of c.args.config.now in
    let current = parts_of c.args.check.now.current in
    let overridden = c.args.check.now.override_version_check in
    let is : verdict_of c.in_ok-eval.eval ≡ verdict configuration.roles current overridden = search rules in
    let selects = c.requires.1.1 in
    IfOk-weaker c.check_with.result _ _ (λ answer checked. checked configuration c.requires
    (rw is (selects.0, selects.1, selects.2 current overridden)) (search rules)) c.check_with.ensures
