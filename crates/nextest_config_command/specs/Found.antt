-- What is read of the files that are asked for.
use Rattle.std.specs.Prelude.{◌≡◌, ◌≢◌, ◌⊎◌, ℕ, zero, suc, ◌<◌, Bool, true, false, ◌&&◌, ◌||◌, if◌then◌else◌, IsTrue, List, [], ◌∷◌, ◌++◌, codes, flat_map, Option, Some, None, option_map, string_bytes}
use Rattle.std.specs.List.{AllZip, list_any}
use Rattle.nextest_config_values.specs.Helpers.Paths.{joined_path}
use Rattle.nextest_config_values.specs.Literal.Shown.{shown_text}
use Rattle.nextest_config.specs.NextestVersion.{repository_place}
use Rattle.nextest_config_command.specs.Files.{absent, bytes, File, file_at, file_of, folder, IsFirstFailure, IsThere, IsUnreadAt, PathState, PathStates, SaysUnread, unreadable, unread_text}
use Rattle.nextest_config_command.specs.Request.{all_wanted, at_path, in_folder, input, named, nearest, tool_places, Wanted}
use Rattle.nextest_config_command.specs.declared.found.Found.{Found}
use Rattle.nextest_config_command.specs.declared.found.Found.TheVariants as finds
use Rattle.nextest_config_command.specs.declared.parsed_file.ParsedFiles.{ParsedFiles}
use Rattle.nextest_config_command.specs.declared.request.Request.{Request}
use Rattle.nextest_config_command.specs.declared.request.Task.{Task}
use Rattle.nextest_config_command.specs.declared.request.Task.TheVariants as tasks

-- ---- what is found

-- a file; or that there is none at this path, where one is looked for, and the folder that may be
-- meant in its place; or that a PATH can't be read, which prints so
pub data Outcome : Type 0 where
  there : File → Outcome
  missing : List ℕ → Option (List ℕ) → Outcome
  unread : List ℕ → Outcome

-- what is found of a file, without where that lies in memory
abbrev pub outcome_of : Found → Outcome
outcome_of (finds.File file) = there (file_of file)
outcome_of (finds.Missing path parent) =
    missing (string_bytes path) (option_map string_bytes parent)
outcome_of (finds.Unread said) = unread (string_bytes said)

-- a repository's file that isn't named
abbrev pub found_file : List ℕ → List ℕ → Outcome
found_file path contents = there (file_at (repository_place false path) contents)

-- where a repository's file is, in its folder
abbrev pub usual_path : List ℕ
usual_path = codes ".config/nextest.toml"

-- the path of a repository's file in the folder at this path
abbrev pub path_in : List ℕ → List ℕ
path_in path = joined_path path usual_path

-- the path before a `/.config`; where that is empty, the root
abbrev pub or_root : List ℕ → List ℕ
or_root [] = codes "/"
or_root (byte ∷ rest) = byte ∷ rest

-- the folder of which the one at this path is the `.config`, if it is one
abbrev pub IsConfigOf : List ℕ → Option (List ℕ) → Type 0
IsConfigOf path None =
    (path ≢ codes ".config") × ((front : List ℕ) → path ≢ front ++ codes "/.config")
IsConfigOf path (Some parent) = ((path ≡ codes ".config") × (parent ≡ codes "."))
    ⊎ ((front : List ℕ) × (path ≡ front ++ codes "/.config") × (parent ≡ or_root front))

-- the path of a repository's file in the `.config` at this path
abbrev pub path_in_config : List ℕ → List ℕ
path_in_config path = joined_path path (codes "nextest.toml")

-- a path in this state has bytes
abbrev pub has_bytes : PathState → Bool
has_bytes (bytes contents) = true
has_bytes (folder reason) = false
has_bytes (absent reason) = false
has_bytes (unreadable reason) = false

-- the folder of a `.config` is meant where the `.config` has the file; else nothing is
abbrev pub IsMeantBy : PathStates → List ℕ → Option (List ℕ) → Option (List ℕ) → Type 0
IsMeantBy holds path None meant = meant ≡ None
IsMeantBy holds path (Some parent) meant = (state : PathState)
    × holds (Some (path_in_config path)) state
    × (meant ≡ (if has_bytes state then Some parent else None))

-- the folder that may be meant by a path: the one of which it is the `.config`, if that has the
-- file
abbrev pub IsMeant : PathStates → List ℕ → Option (List ℕ) → Type 0
IsMeant holds path meant = (parent : Option (List ℕ)) × IsConfigOf path parent
    × IsMeantBy holds path parent meant

-- a folder has no file at this path, and another folder may be meant in its place
abbrev pub IsMissing : PathStates → List ℕ → List ℕ → Outcome → Type 0
IsMissing holds parent path outcome = (meant : Option (List ℕ)) × IsMeant holds parent meant
    × (outcome ≡ missing path meant)

-- what is found of the file of a folder, in the state of the file's path
abbrev pub IsLookedFor : PathStates → List ℕ → List ℕ → PathState → Outcome → Type 0
IsLookedFor holds parent path (bytes contents) outcome = outcome ≡ found_file path contents
IsLookedFor holds parent path (absent reason) outcome = IsMissing holds parent path outcome
IsLookedFor holds parent path state outcome = ⊥

-- what is found of the file of a folder, which is looked for at this path
abbrev pub IsFoundThere : PathStates → List ℕ → List ℕ → Outcome → Type 0
IsFoundThere holds parent path outcome = (state : PathState) × holds (Some path) state
    × IsLookedFor holds parent path state outcome

-- what is found of the file in the folder at this path
abbrev pub IsFoundIn : PathStates → List ℕ → Outcome → Type 0
IsFoundIn holds path outcome = IsFoundThere holds path (path_in path) outcome

-- what is found at a path, in its state: a file, or the one in the folder there
abbrev pub IsFoundBy : PathStates → List ℕ → PathState → Outcome → Type 0
IsFoundBy holds path (bytes contents) outcome = outcome ≡ found_file path contents
IsFoundBy holds path (folder reason) outcome = IsFoundIn holds path outcome
IsFoundBy holds path state outcome = ⊥

-- the path of the file so many folders above the current one
abbrev pub path_above : ℕ → List ℕ
path_above zero = usual_path
path_above (suc level) = codes "../" ++ path_above level

-- no file is at a path in this state, and the walk goes on
abbrev pub IsPassed : PathState → Type 0
IsPassed (bytes contents) = ⊥
IsPassed (folder reason) = Unit {0}
IsPassed (absent reason) = Unit {0}
IsPassed (unreadable reason) = ⊥

-- no file is at this path, and the walk goes on
abbrev pub IsPassedAt : PathStates → List ℕ → Type 0
IsPassedAt holds path = (state : PathState) × holds (Some path) state × IsPassed state

-- a file is at this path, and the walk ends
abbrev pub IsMetAt : PathStates → List ℕ → Outcome → Type 0
IsMetAt holds path outcome = (contents : List ℕ) × holds (Some path) (bytes contents)
    × (outcome ≡ found_file path contents)

-- no file is in the first folders of the walk, so many
abbrev pub ArePassed : PathStates → ℕ → Type 0
ArePassed holds many = (level : ℕ) → level < many → IsPassedAt holds (path_above level)

-- the first file of the walk through so many folders, or none
abbrev pub IsNearest : PathStates → ℕ → Outcome → Type 0
IsNearest holds many outcome =
    ((level : ℕ) × (level < many) × ArePassed holds level
    × IsMetAt holds (path_above level) outcome)
    ⊎ (ArePassed holds many × (outcome ≡ missing usual_path None))

-- what is found of a file that is asked for
abbrev pub IsFound : PathStates → Wanted → Outcome → Type 0
IsFound holds (named path) outcome = (file : File)
    × IsThere holds (repository_place true path) file × (outcome ≡ there file)
IsFound holds (at_path path) outcome = (state : PathState) × holds (Some path) state
    × IsFoundBy holds path state outcome
IsFound holds (input name) outcome = (contents : List ℕ) × holds None (bytes contents)
    × (outcome ≡ found_file name contents)
IsFound holds (in_folder path) outcome = (reason : List ℕ) × holds (Some path) (folder reason)
    × IsFoundIn holds path outcome
IsFound holds (nearest many) outcome = IsNearest holds many outcome

-- ---- what can't be read

-- a file that is looked for can't be read in this state of its path, which prints so
abbrev pub IsNotLookedFor : List ℕ → PathState → List ℕ → Type 0
IsNotLookedFor path (absent reason) said = ⊥
IsNotLookedFor path state said = SaysUnread path state said

-- a file that is looked for at this path can't be read, which prints so
abbrev pub IsUnreadThere : PathStates → List ℕ → List ℕ → Type 0
IsUnreadThere holds path said = (state : PathState) × holds (Some path) state
    × IsNotLookedFor path state said

-- the file in a folder can't be read
abbrev pub IsUnreadIn : PathStates → List ℕ → List ℕ → Type 0
IsUnreadIn holds path said = IsUnreadThere holds (path_in path) said

-- what is at a path can't be read, or the file in the folder there
abbrev pub IsUnreadBy : PathStates → List ℕ → PathState → List ℕ → Type 0
IsUnreadBy holds path (folder reason) said = IsUnreadIn holds path said
IsUnreadBy holds path state said = SaysUnread path state said

-- no folder is at a path, or the file in it can't be read
abbrev pub IsUnreadFolder : PathStates → List ℕ → PathState → List ℕ → Type 0
IsUnreadFolder holds path (bytes contents) said = said ≡ unread_text path (codes "not a folder")
IsUnreadFolder holds path (folder reason) said = IsUnreadIn holds path said
IsUnreadFolder holds path state said = SaysUnread path state said

-- what is at this path can't be read, and the walk ends
abbrev pub IsUnreadOnWalk : PathStates → List ℕ → List ℕ → Type 0
IsUnreadOnWalk holds path said = (reason : List ℕ) × holds (Some path) (unreadable reason)
    × (said ≡ unread_text path reason)

-- the first path of the walk that isn't passed can't be read, which prints so
abbrev pub IsUnreadAbove : PathStates → ℕ → List ℕ → Type 0
IsUnreadAbove holds many said = (level : ℕ) × (level < many) × ArePassed holds level
    × IsUnreadOnWalk holds (path_above level) said

-- a file that is asked for can't be read, which prints so
abbrev pub IsUnread : PathStates → Wanted → List ℕ → Type 0
IsUnread holds (named path) said = IsUnreadAt holds path said
IsUnread holds (at_path path) said = (state : PathState) × holds (Some path) state
    × IsUnreadBy holds path state said
IsUnread holds (input name) said = (state : PathState) × holds None state
    × SaysUnread name state said
IsUnread holds (in_folder path) said = (state : PathState) × holds (Some path) state
    × IsUnreadFolder holds path state said
IsUnread holds (nearest many) said = IsUnreadAbove holds many said

-- ---- all that is asked for

-- these files of tools are read for the request, those of a lower priority first
abbrev pub AreToolsRead : PathStates → Request → List File → Type 0
AreToolsRead holds request tools = AllZip (IsThere holds) (tool_places request) tools

-- the file is asked for by a PATH
abbrev pub is_path : Wanted → Bool
is_path (named path) = false
is_path (at_path path) = true
is_path (input name) = true
is_path (in_folder path) = false
is_path (nearest many) = false

-- the task is a lint
abbrev pub is_lint : Task → Bool
is_lint (tasks.Check check) = false
is_lint (tasks.Lint options) = true
is_lint (tasks.Show format) = false
is_lint (tasks.Profile task) = false

-- a PATH of a lint that can't be read leaves the others as they are
abbrev pub passes_over : Task → Wanted → Bool
passes_over task wanted = is_lint task && is_path wanted

-- what is found of a file that is asked for; or that a PATH of a lint can't be read
abbrev pub IsOutcome : PathStates → Task → Wanted → Outcome → Type 0
IsOutcome holds task wanted outcome = IsFound holds wanted outcome
    ⊎ (IsTrue (passes_over task wanted)
    × (said : List ℕ) × IsUnread holds wanted said × (outcome ≡ unread said))

-- what is found of the repository's files that the request asks for, in their order
abbrev pub AreAllFound : PathStates → Request → List Outcome → Type 0
AreAllFound holds request outcomes =
    AllZip (IsOutcome holds request.task) (all_wanted request) outcomes

-- the first of the files of tools that can't be read
abbrev pub IsFirstUnreadTool : PathStates → Request → List ℕ → Type 0
IsFirstUnreadTool holds request said = IsFirstFailure (IsThere holds)
    (λ place. IsUnreadAt holds place.path) (tool_places request) said

-- one of the repository's files can't be read, and isn't passed over
abbrev pub IsStopped : PathStates → Task → Wanted → List ℕ → Type 0
IsStopped holds task wanted said =
    (passes_over task wanted ≡ false) × IsUnread holds wanted said

-- the first of the repository's files that can't be read, and isn't passed over
abbrev pub IsFirstUnreadFile : PathStates → Request → List ℕ → Type 0
IsFirstUnreadFile holds request said = IsFirstFailure (IsOutcome holds request.task)
    (IsStopped holds request.task) (all_wanted request) said

-- the first of all files that can't be read, in the order in which they are read
abbrev pub IsFirstUnread : PathStates → Request → List ℕ → Type 0
IsFirstUnread holds request said = IsFirstUnreadTool holds request said
    ⊎ ((tools : List File) × AreToolsRead holds request tools
    × IsFirstUnreadFile holds request said)

-- ---- the files that were read

-- the files that were read: those of tools, and those of the repository; a line for each path at
-- which none is, where one is looked for, or that can't be read; and whether one can't be read
pub record FilesRead : Type 0 where
  pub tools : List File
  pub repository : List File
  pub notices : List ℕ
  pub is_partial : Bool

-- the file that is found, if one is
abbrev pub file_there : Outcome → List File
file_there (there file) = file ∷ []
file_there (missing path parent) = []
file_there (unread said) = []

-- the folder that may be meant in place of a path, if there is one
abbrev pub hint : Option (List ℕ) → List ℕ
hint None = []
hint (Some parent) = codes ", did you mean " ++ shown_text parent

-- the line that no file is at this path, with the folder that may be meant
abbrev pub notice : List ℕ → Option (List ℕ) → List ℕ
notice path parent = codes "no configuration file: "
    ++ (shown_text path ++ (codes " isn't there" ++ (hint parent ++ codes "\n")))

-- the line that a file is missing or can't be read; nothing of one that is there
abbrev pub notice_of : Outcome → List ℕ
notice_of (there file) = []
notice_of (missing path parent) = notice path parent
notice_of (unread said) = said ++ codes "\n"

-- a PATH can't be read
abbrev pub is_unread : Outcome → Bool
is_unread (there file) = false
is_unread (missing path parent) = false
is_unread (unread said) = true

-- the files that were read: those of tools, and what is found of the repository's
abbrev pub list_of : List File → List Outcome → FilesRead
list_of tools outcomes = record {
  tools = tools;
  repository = flat_map file_there outcomes;
  notices = flat_map notice_of outcomes;
  is_partial = list_any is_unread outcomes;
}

-- all files, in the order in which they are read
abbrev pub all_files : FilesRead → List File
all_files files = files.tools ++ files.repository

-- these files are read for the request
abbrev pub IsReadFor : PathStates → Request → FilesRead → Type 0
IsReadFor holds request files = (tools : List File) × (outcomes : List Outcome)
    × AreToolsRead holds request tools × AreAllFound holds request outcomes
    × (files ≡ list_of tools outcomes)

-- the files that were read, with what is found of one more of the repository's
abbrev pub with_outcome : FilesRead → Outcome → FilesRead
with_outcome files outcome = record {
  tools = files.tools;
  repository = files.repository ++ file_there outcome;
  notices = files.notices ++ notice_of outcome;
  is_partial = files.is_partial || is_unread outcome;
}

-- the files that were read, which are parsed here
abbrev pub files_of : ParsedFiles → FilesRead
files_of parsed = record {
  tools = parsed.tools.items;
  notices = string_bytes parsed.notices;
  repository = parsed.repository.items;
  is_partial = parsed.is_partial;
}
