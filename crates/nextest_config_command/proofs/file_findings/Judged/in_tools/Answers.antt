use Rattle.std.proofs.Common.{◌≡◌, [], ◌++◌, map, rules}
use Rattle.std.proofs.lemmas.List.{map-append, nil_from_length}
use Rattle.std.proofs.lemmas.Result.{IfOk-weaker}
use Rattle.nextest_config.proofs.Lists.{zip_joined}
use Rattle.nextest_config_lint.specs.Defined as findings
use Rattle.nextest_config_command.specs.FileFindings.{AreListed, IsListFile}
use Rattle.nextest_config_command.proofs.FileLists.{as_a_list}
use Rattle.nextest_config_command.proofs.file_findings.Judged.in_tools.Goals as goal

pub returns-then-is_empty : goal.returns-then-is_empty
returns-then-is_empty c =
    let none : c.args.self.now.files.now.tools.items ≡ [] = nil_from_length c.args.self.now.files.now.tools.items (search rules) in
    let (list, listed) = as_a_list (c.args.self.now.files.now.tools.items ++ c.args.self.now.files.now.repository.items) in
    (list, listed, rw (none, c.new.ensures.items) tt)

pub returns : goal.returns
returns c =
    let list = map findings.file_of c.append.new.self.items in
    let listed : AreListed (c.args.self.now.files.now.tools.items ++ c.args.self.now.files.now.repository.items) c.append.new.self.items =
    rw (c.in_ok-append.ensures.items, map-append findings.file_of c.in_ok-list.list.items c.in_ok-rest.rest.items)
    (zip_joined IsListFile _ _ _ _ (rw c.as_slice.ensures.value at c.in_ok-list.ensures) (rw c.as_slice-2.ensures.value at c.in_ok-rest.ensures))
    in
    let defined = rw (c.as_slice-3.ensures.value, c.in_ok-push_unread.ensures) at c.in_ok-defined.ensures in
    IfOk-weaker c.in_list.result _ _ (λ found each. (list, listed, rw c.as_slice-tools.ensures.value at (each _ defined))) c.in_list.ensures
