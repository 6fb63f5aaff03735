-- Which of the repository's files words ask for.
use Rattle.std.specs.Prelude.{ℕ, zero, suc, Bool, List, [], ◌∷◌, codes, if◌then◌else◌, length, map, nat_eq, Option, Some, None, option_map}
use denote.Ref.{Bor}
use Rattle.std.specs.Cmp.Lexicographic.{pointwise}
use Rattle.std.specs.List.{filter}
use Rattle.nextest_config_command.specs.Request.{at_path, folders_above, in_folder, input, named, nearest, Wanted}
use Rattle.nextest_config_command.specs.declared.words.Misuse.{Misuse}
use Rattle.nextest_config_command.specs.declared.words.Misuse.TheVariants.{InputTwice, NameWithoutInput, PathBesideFile}
use Rattle.nextest_config_command.specs.declared.words.Words.{Words}

-- the word for standard input
abbrev pub is_input : List ℕ → Bool
is_input word = pointwise nat_eq word (codes "-")

-- what standard input is called: by the name that it is given, or `<stdin>`
abbrev pub name_of_input : Option (List ℕ) → List ℕ
name_of_input (Some name) = name
name_of_input None = codes "<stdin>"

-- what a PATH asks for
abbrev pub wanted_at : List ℕ → List ℕ → Wanted
wanted_at name word = if is_input word then input name else at_path word

-- what is asked for without a PATH or a file: the folder, or the nearest of the current one
abbrev pub wanted_without : Option (List ℕ) → List ℕ → Wanted
wanted_without (Some folder) current = in_folder folder
wanted_without None current = nearest (folders_above current)

-- what the PATHs ask for; without any, what is asked for without a PATH or a file
abbrev pub wanted_paths : List (List ℕ) → Option (List ℕ) → Option (List ℕ) → List ℕ → List Wanted
wanted_paths [] name folder current = wanted_without folder current ∷ []
wanted_paths (path ∷ paths) name folder current =
    map (wanted_at (name_of_input name)) (path ∷ paths)

-- the repository's files that are asked for: the one that is named, or else by PATHs
abbrev pub wanted_by : Option (List ℕ) → List (List ℕ) → Option (List ℕ) → Option (List ℕ) → List ℕ
    → List Wanted
wanted_by (Some file) paths name folder current = named file ∷ []
wanted_by None paths name folder current = wanted_paths paths name folder current

-- ---- words that ask for nothing

-- what is wrong with standard input: asked for more than once, or with a name and not asked for
abbrev pub misuse_of_input : ℕ → Option (List ℕ) → Option Misuse
misuse_of_input zero (Some name) = Some NameWithoutInput
misuse_of_input (suc (suc more)) name = Some InputTwice
misuse_of_input count name = None

-- what is wrong with words: a PATH beside a file that is named, or how they use standard input
abbrev pub misuse_of : Option (List ℕ) → List (List ℕ) → ℕ → Option (List ℕ) → Option Misuse
misuse_of (Some file) (path ∷ paths) count name = Some PathBesideFile
misuse_of file paths count name = misuse_of_input count name

-- what is said of words that ask for no file
abbrev pub misuse_text : Misuse → List ℕ
misuse_text PathBesideFile = codes "a PATH can't stand beside --config-file"
misuse_text InputTwice = codes "standard input can be read only once"
misuse_text NameWithoutInput = codes "--stdin-path names standard input, which is the PATH `-`"

-- ---- words as they were taken

-- a word that was taken, if one was
abbrev pub text : Option (Bor (List ℕ)) → Option (List ℕ)
text word = option_map (λ word. word.now) word

-- the PATHs that were taken
abbrev pub paths_of : Words → List (List ℕ)
paths_of words = map (λ word. word.now) words.paths.now

-- how often standard input is asked for
abbrev pub inputs : List (Bor (List ℕ)) → ℕ
inputs words = length (filter (λ word. is_input word.now) words)

-- what is wrong with the words that were taken, if anything is
abbrev pub misuse_in : Words → Option Misuse
misuse_in words = misuse_of (text words.config_file) (paths_of words) (inputs words.paths.now)
    (text words.stdin_path)

-- the repository's files that the words ask for that were taken
abbrev pub wanted_in : Words → List Wanted
wanted_in words = wanted_by (text words.config_file) (paths_of words) (text words.stdin_path)
    (text words.default_path) words.current_folder.now
