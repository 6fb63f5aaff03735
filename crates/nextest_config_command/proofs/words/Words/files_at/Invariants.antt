use Rattle.std.proofs.Common.{◌≡◌, map, take}
use Rattle.nextest_config_command.specs.Request.{wanted_of}
use Rattle.nextest_config_command.specs.Words.{name_of_input, text, wanted_at}
use Rattle.nextest_config_command.proofs.words.Words.files_at.Given as goal

-- what the PATHs so far ask for
abbrev pub invariant-loop-path : goal.invariant-loop-path
invariant-loop-path l = map wanted_of l.files.items
    ≡ map (wanted_at (name_of_input (text l.fn.self.stdin_path))) (map (λ path. path.now) (take l.path-index l.fn.self.paths.now))
