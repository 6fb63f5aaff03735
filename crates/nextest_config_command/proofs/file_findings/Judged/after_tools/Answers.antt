use Rattle.std.proofs.Common.{◌∷◌, [], ◌++◌, map}
use Rattle.std.proofs.lemmas.List.{map_push}
use Rattle.std.proofs.lemmas.Result.{IfOk-weaker}
use Rattle.nextest_config.proofs.Lists.{zip_push}
use Rattle.nextest_config_lint.specs.Defined as findings
use Rattle.nextest_config_command.specs.FileFindings.{AreListed, IsListFile}
use Rattle.nextest_config_command.proofs.file_findings.Judged.after_tools.Goals as goal

pub returns : goal.returns
returns c =
    let list = map findings.file_of c.push.new.self.items in
    let listed : AreListed (c.args.self.now.files.now.tools.items ++ (c.args.file.now ∷ [])) c.push.new.self.items =
    rw (c.in_ok-push.ensures.items, map_push findings.file_of c.in_ok-list.list.items c.listed.result)
    (zip_push IsListFile _ _ _ _ (rw c.as_slice-tools.ensures.value at c.in_ok-list.ensures) c.listed.ensures)
    in
    let defined = rw (c.as_slice.ensures.value, c.in_ok-push_unread.ensures) at c.in_ok-defined.ensures in
    IfOk-weaker c.in_file.result _ _ (λ found here. (list, listed, rw c.as_slice-tools.ensures.value at (here _ defined))) c.in_file.ensures
