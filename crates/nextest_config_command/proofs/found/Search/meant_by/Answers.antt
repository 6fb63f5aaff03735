use Rattle.std.proofs.Common.{◌≡◌, false, refl, rules, Some, string_bytes, true}
use Rattle.nextest_config_command.specs.Files.{path_state_of}
use Rattle.nextest_config_command.specs.Found.{has_bytes, path_in_config}
use Rattle.nextest_config_command.proofs.found.Search.meant_by.Goals as goal

pub returns-then-not-has_contents : goal.returns-then-not-has_contents
returns-then-not-has_contents g c =
    let held : g.F.Files.holds c.args.self.now.files.now (Some (path_in_config c.args.path.now)) (path_state_of c.in_ok-read.read) =
    rw (c.as_str.ensures.value, c.in_ok-file.ensures) at c.in_ok-read.ensures in
    let none : has_bytes (path_state_of c.in_ok-read.read) ≡ false = search rules in
    (path_state_of c.in_ok-read.read, held, rw none refl)

pub returns : goal.returns
returns g c =
    let held : g.F.Files.holds c.args.self.now.files.now (Some (path_in_config c.args.path.now)) (path_state_of c.in_ok-read.read) =
    rw (c.as_str.ensures.value, c.in_ok-file.ensures) at c.in_ok-read.ensures in
    let some : has_bytes (path_state_of c.in_ok-read.read) ≡ true = search rules in
    let text : string_bytes c.in_ok-folder.folder ≡ c.args.folder.now = search rules in
    (path_state_of c.in_ok-read.read, held, rw (some, text) refl)
