use Rattle.nextest_config_command.specs.Found.{all_files, files_of}
use Rattle.nextest_config_command.specs.Profile.{AreSound, faulty, sound}
use Rattle.nextest_config_command.proofs.LayersOfFiles.{sound_documents}
use Rattle.nextest_config_command.proofs.ProfilesReported.{errors_refuse, no_error_passes}
use Rattle.nextest_config_command.proofs.profile.profile.Goals as goal

pub returns-then-lint-gt0 : goal.returns-then-lint-gt0
returns-then-lint-gt0 c =
    let lint = c.in_ok-lint.ensures in
    faulty lint.found
    (errors_refuse c.args.edition (files_of c.args.files.now) lint.found c.in_ok-lint.lint.summary lint.are_found lint.summary c.if-lint-gt0.true)
    lint.are_found
    (rw (c.says.ensures, c.in_show_format-said.ensures, lint.text, c.lint_format.ensures))

pub profile_in-requires : goal.profile_in-requires
profile_in-requires c =
    let lint = c.in_ok-lint.ensures in
    sound_documents c.args.edition (all_files (files_of c.args.files.now))
    (no_error_passes c.args.edition (files_of c.args.files.now) lint.found c.in_ok-lint.lint.summary lint.are_found lint.summary c.if-lint-gt0.false)

pub returns : goal.returns
returns c =
    let lint = c.in_ok-lint.ensures in
    let passes : AreSound c.args.edition (files_of c.args.files.now) = no_error_passes c.args.edition (files_of c.args.files.now) lint.found c.in_ok-lint.lint.summary lint.are_found lint.summary c.if-lint-gt0.false in
    sound passes c.in_ok-answer.ensures
