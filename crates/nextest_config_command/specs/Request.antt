-- What the command is asked for.
use Rattle.std.specs.Prelude.{ℕ, ◌==◌, List, length, map, reverse, string_bytes}
use Rattle.std.specs.List.{filter}
use Rattle.nextest_config.specs.NextestVersion.{SourcePlace, tool_place}
use Rattle.nextest_config_command.specs.declared.request.RepositoryFile.{RepositoryFile}
use Rattle.nextest_config_command.specs.declared.request.RepositoryFile.TheVariants as asked
use Rattle.nextest_config_command.specs.declared.request.Request.{Request}

-- a repository's file: the one that the user names; what is at a path, or in the folder there;
-- standard input, called so; the file in a folder; or the nearest one, in the first that has it of
-- so many folders, from the current one upwards
pub data Wanted : Type 0 where
  named : List ℕ → Wanted
  at_path : List ℕ → Wanted
  input : List ℕ → Wanted
  in_folder : List ℕ → Wanted
  nearest : ℕ → Wanted

-- the byte of `/`
abbrev pub slash : ℕ
slash = 47

-- how many folders there are from one upwards, by its absolute path, with a slash at its end
abbrev pub folders_above : List ℕ → ℕ
folders_above path = length (filter (λ byte. byte == slash) path)

-- a repository's file that is asked for, without where that lies in memory
abbrev pub wanted_of : RepositoryFile → Wanted
wanted_of (asked.Explicit path) = named (string_bytes path)
wanted_of (asked.At path) = at_path (string_bytes path)
wanted_of (asked.Input name) = input (string_bytes name)
wanted_of (asked.In path) = in_folder (string_bytes path)
wanted_of (asked.Nearest path) = nearest (folders_above (string_bytes path))

-- the repository's files that the request asks for, in their order
abbrev pub all_wanted : Request → List Wanted
all_wanted request = map wanted_of request.repository.items

-- where the files of tools are, in the order in which they are read: those of a lower priority
-- first
abbrev pub tool_places : Request → List SourcePlace
tool_places request = map tool_place (reverse request.tools.items)
