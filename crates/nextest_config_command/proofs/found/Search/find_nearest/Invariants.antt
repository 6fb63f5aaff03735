use Rattle.std.proofs.Common.{◌≡◌, string_bytes}
use Rattle.nextest_config_command.specs.Found.{ArePassed, path_above}
use Rattle.nextest_config_command.proofs.found.Search.find_nearest.Given as goal

-- the folders so far have no file
abbrev pub invariant-loop-level : goal.invariant-loop-level
invariant-loop-level g l = (string_bytes l.path ≡ path_above l._level) × ArePassed (g.F.Files.holds l.fn.self.files.now) l._level
