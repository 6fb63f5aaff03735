-- What `clap` took of a subcommand's words.
use Rattle.std.specs.Prelude.{◌≡◌, ℕ, Bool, true, false, List, [], codes, Option, Some, None}
use Rattle.clap.specs.Matches.{first_value, matched_of, one_text, raw_values}
use Rattle.clap.specs.declared.parser.matches.Found.{Found}
use Rattle.clap.specs.declared.parser.matches.MatchedArg.{MatchedArg}
use Rattle.nextest_config_command.specs.Words.{text}
use Rattle.nextest_config_command.specs.declared.request.Request.{Request}
use Rattle.nextest_config_cli.specs.Arguments.{Asks, texts}
use Rattle.nextest_config_cli.specs.declared.arguments.Arguments.{Arguments}

-- a flag is set where `clap` has `true` at its name, and isn't where it has `false`, or nothing
pub record IsFlag (found : Found) (name : List ℕ) (flag : Bool) : Type 0 where
  pub set : one_text found name ≡ Some (codes "true") → flag ≡ true
  pub unset : one_text found name ≡ Some (codes "false") → flag ≡ false
  pub absent : one_text found name ≡ None → flag ≡ false

-- all words that `clap` took of an argument; none where it took none
abbrev pub words_of : Option MatchedArg → List (List ℕ)
words_of (Some matched) = raw_values matched
words_of None = []

-- all words at a name
abbrev pub words_at : Found → List ℕ → List (List ℕ)
words_at found name = words_of (matched_of found name)

-- the record has what `clap` took at each name
pub record AreArguments (subcommand : List ℕ) (found : Found) (arguments : Arguments) : Type 0 where
  pub named : arguments.subcommand.now ≡ subcommand
  pub current : text arguments.current ≡ first_value found (codes "current")
  pub overridden : IsFlag found (codes "override") arguments.overridden
  pub strict : IsFlag found (codes "strict") arguments.strict
  pub allowed : texts arguments.allowed.now ≡ words_at found (codes "allow")
  pub format : text arguments.format ≡ first_value found (codes "format")
  pub profile : text arguments.profile ≡ first_value found (codes "NAME")
  pub all : IsFlag found (codes "all") arguments.all
  pub keys : texts arguments.keys.now ≡ words_at found (codes "key")
  pub table_only : IsFlag found (codes "table-only") arguments.table_only
  pub tools : texts arguments.tools.now ≡ words_at found (codes "tool-config-file")
  pub config_file : text arguments.files.config_file ≡ first_value found (codes "config-file")
  pub paths : texts arguments.files.paths.now ≡ words_at found (codes "PATH")
  pub stdin_path : text arguments.files.stdin_path ≡ first_value found (codes "stdin-path")
  pub default_path : text arguments.files.default_path ≡ first_value found (codes "default-path")

-- what `clap` took of the subcommand's words asks for the request
pub record IsAskedBy (subcommand : List ℕ) (found : Found) (request : Request) : Type 0 where
  pub arguments : Arguments
  pub has : AreArguments subcommand found arguments
  pub asks : Asks arguments request
