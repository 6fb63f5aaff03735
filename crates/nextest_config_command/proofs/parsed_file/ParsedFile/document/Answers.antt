use Rattle.std.proofs.Common.{◌≡◌, refl, rules, Some}
use Rattle.nextest_config_command.proofs.FileLists.{some_there}
use Rattle.nextest_config_command.proofs.parsed_file.ParsedFile.document.Goals as goal

pub returns : goal.returns
returns c =
    let is : c.document.result ≡ Some c.in_ok-document.document = search rules in
    let read = rw is at c.document.ensures _ c.self.invariant in
    rw (← c.self.view_is) ((read.0, some_there _ _ read.1), record { text = _; place = refl; contents = refl; read = read.1 })
