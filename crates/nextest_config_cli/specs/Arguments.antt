-- What is asked for by the words of a command line, once `clap` has taken them.
use Rattle.std.specs.Prelude.{◌≡◌, ◌≢◌, ℕ, Bool, true, false, List, map, codes, Err, Ok, Option, Some, None, option_map, MatchOption, slice_get, String, string_bytes}
use denote.Ref.{Bor}
use Rattle.std.proofs.Common.{Global}
use Rattle.std.specs.List.{AllZip}
use Rattle.semver.specs.Identifiers.{parts_of}
use Rattle.semver.specs.Parse.{version_parts}
use Rattle.semver.specs.declared.error.Error.{Error}
use Rattle.nextest_config_values.specs.ToolConfig.{argument_of, IsArgumentFault, IsToolArgument, RefusesArgument}
use Rattle.nextest_config_values.specs.declared.tool_config.ToolConfigFile.{ToolConfigFile}
use Rattle.nextest_config_lint.specs.Code.{code_word}
use Rattle.nextest_config_values.specs.NearestWord.{IsNearest}
use Rattle.nextest_config_lint.specs.declared.code.FindingCode.{FindingCode}
use Rattle.nextest_config_output.specs.Findings.Format.{format_word}
use Rattle.nextest_config_report.specs.Show as show
use Rattle.nextest_config.specs.declared.nextest_version.edition.Edition.{Edition}
use Rattle.nextest_config.specs.declared.nextest_version.edition.Edition.TheVariants.{ArrayAllowed, TableOnly}
use Rattle.nextest_config_command.specs.Request.{all_wanted}
use Rattle.nextest_config_command.specs.Words.{misuse_in, text, wanted_in}
use Rattle.nextest_config_command.specs.declared.request.CheckTask.{CheckTask}
use Rattle.nextest_config_command.specs.declared.request.LintOptions.{LintOptions}
use Rattle.nextest_config_command.specs.declared.request.ProfileTask.{ProfileTask}
use Rattle.nextest_config_command.specs.declared.request.Request.{Request}
use Rattle.nextest_config_command.specs.declared.request.Task.{Task}
use Rattle.nextest_config_command.specs.declared.request.Task.TheVariants as task
use Rattle.nextest_config_lint.specs.Explain.Key.{explained_rule}
use Rattle.nextest_config_lint.specs.Explain.KeyPath.{key_at}
use Rattle.nextest_config_lint.specs.Explain.Nearest.{below_profile, explained_words}
use Rattle.nextest_config_lint.specs.Explain.Topic.{topic_word}
use Rattle.nextest_config_profiles.specs.Report.Wanted.{dotted, IsKeyNamed, path_of, told_paths}
use Rattle.nextest_config_profiles.specs.declared.report.wanted.WantedKey.{WantedKey}
use Rattle.nextest_config_lint.specs.declared.explain.topic.Topic.{Topic}
use Rattle.nextest_config_cli.specs.declared.usage_error.UsageError.{UsageError}
use Rattle.nextest_config_cli.specs.declared.usage_error.UsageError.TheVariants as refusal
use Rattle.nextest_config_cli.specs.declared.arguments.Arguments.{Arguments}
use Rattle.nextest_config_cli.specs.declared.arguments.Explained.{Explained}
use Rattle.nextest_config_cli.specs.declared.arguments.Explained.TheVariants as explained

-- the texts of words, without where they lie in memory
abbrev pub texts : List (Bor (List ℕ)) → List (List ℕ)
texts words = map (λ word. word.now) words

-- ---- what the words ask for

-- the edition: `experimental` has to be a table, or may be an array, too
abbrev pub edition_of : Bool → Edition
edition_of true = TableOnly
edition_of false = ArrayAllowed

-- how findings are reported, and which count
pub record AsksLint (arguments : Arguments) (options : LintOptions) : Type 0 where
  pub format : text arguments.format ≡ Some (format_word options.format)
  pub strict : options.strict ≡ arguments.strict
  pub allowed : map code_word options.allowed.items ≡ texts arguments.allowed.now

-- the current version of a check is the one that a word spells (SemVer 2.0.0)
abbrev pub IsVersion : Option (List ℕ) → CheckTask → Type 0
IsVersion word check = MatchOption word ⊥ (λ word. version_parts word ≡ Ok (parts_of check.current))

-- the check: the current version, whether its check is overridden, and how findings are reported
pub record AsksCheck (arguments : Arguments) (check : CheckTask) : Type 0 where
  pub current : IsVersion (text arguments.current) check
  pub overridden : check.override_version_check ≡ arguments.overridden
  pub lint : AsksLint arguments check.lint

-- the key of a profile that a word names
abbrev pub IsKey : List ℕ → WantedKey → Type 0
IsKey word key = IsKeyNamed word (Some (path_of key))

-- the profile that is reported: its name, whether with what values hide, the keys that alone are
-- reported, and the format
pub record AsksProfile (arguments : Arguments) (profile : ProfileTask) : Type 0 where
  pub name : text arguments.profile ≡ Some (string_bytes profile.name)
  pub all : profile.all ≡ arguments.all
  pub keys : AllZip IsKey (texts arguments.keys.now) profile.keys.items
  pub format : text arguments.format ≡ Some (show.format_word profile.format)

-- the subcommand, with what it takes
abbrev pub AsksTask : Arguments → Task → Type 0
AsksTask arguments (task.Check check) =
    (arguments.subcommand.now ≡ codes "check") × AsksCheck arguments check
AsksTask arguments (task.Lint options) =
    (arguments.subcommand.now ≡ codes "lint") × AsksLint arguments options
AsksTask arguments (task.Profile profile) =
    (arguments.subcommand.now ≡ codes "profile") × AsksProfile arguments profile
AsksTask arguments (task.Show format) = (arguments.subcommand.now ≡ codes "show")
    × (text arguments.format ≡ Some (show.format_word format))

-- the file of a tool that a word names
abbrev pub IsTool : List ℕ → ToolConfigFile → Type 0
IsTool word file = IsToolArgument word (argument_of file)

-- the request, of words that ask for one repository's file at least
pub record Asks (arguments : Arguments) (request : Request) : Type 0 where
  pub tools : AllZip IsTool (texts arguments.tools.now) request.tools.items
  pub misuse : misuse_in arguments.files ≡ None
  pub repository : all_wanted request ≡ wanted_in arguments.files
  pub edition : request.edition ≡ edition_of arguments.table_only
  pub task : AsksTask arguments request.task

-- ---- words that are refused

-- one of the words, of which this holds
abbrev pub IsOneOf : List (List ℕ) → (List ℕ → Type 0) → Type 0
IsOneOf words IsSo =
    (position : ℕ) × (word : List ℕ) × (slice_get words position ≡ Some word) × IsSo word

-- the word spells no version (SemVer 2.0.0)
abbrev pub IsNoVersion : List ℕ → Type 0
IsNoVersion word = (error : Error) × (version_parts word ≡ Err error)

-- the word is that of no code of findings
abbrev pub IsNoCode : List ℕ → Type 0
IsNoCode word = (code : FindingCode) → code_word code ≢ word

-- the word names no key of a profile, and comes nearest to this path
abbrev pub IsNoKey : List ℕ → Option (String Global) → Type 0
IsNoKey word near = IsKeyNamed word None
    × IsNearest (map dotted told_paths) word (option_map string_bytes near)

-- why a word isn't taken for a key: it names none, or memory ran out
abbrev pub RefusesKey : List ℕ → UsageError → Type 0
RefusesKey word (refusal.NotKey other near) = (other.now ≡ word) × IsNoKey word near
RefusesKey word refusal.Memory = Unit {0}
RefusesKey word other = ⊥

-- why nothing is asked for of which this holds: a word is wrong, or no such thing fits the words
abbrev pub IsRefused : {X : Type 0} → (X → Type 0) → Arguments → UsageError → Type 0
IsRefused IsAsked arguments (refusal.NotVersion word) =
    (text arguments.current ≡ Some word.now) × IsNoVersion word.now
IsRefused IsAsked arguments (refusal.NotCode word) =
    IsOneOf (texts arguments.allowed.now) (λ code. (code ≡ word.now) × IsNoCode code)
IsRefused IsAsked arguments (refusal.NotKey word near) =
    IsOneOf (texts arguments.keys.now) (λ key. (key ≡ word.now) × IsNoKey key near)
IsRefused IsAsked arguments (refusal.Tool error) =
    IsOneOf (texts arguments.tools.now) (λ tool. RefusesArgument (IsArgumentFault tool) error)
IsRefused {X} IsAsked arguments (refusal.Words said) = (asked : X) → IsAsked asked → ⊥
IsRefused IsAsked arguments refusal.Memory = Unit {0}
IsRefused IsAsked arguments other = ⊥

-- ---- an explanation

-- no topic has this word
abbrev pub IsNoTopic : List ℕ → Type 0
IsNoTopic word = (topic : Topic) → topic_word topic ≢ word

-- the explanation is that of the key to which the word leads
abbrev pub IsKeyAsked : List ℕ → Explained → Type 0
IsKeyAsked word (explained.Key key) = key_at word ≡ Some (explained_rule key)
IsKeyAsked word other = ⊥

-- what an explanation is asked of: a topic; a key, where the word is no topic; without a word the
-- list of all
abbrev pub AsksExplained : Option (List ℕ) → Explained → Type 0
AsksExplained None asked = asked ≡ explained.All
AsksExplained (Some word) (explained.Topic topic) = topic_word topic ≡ word
AsksExplained (Some word) asked = IsNoTopic word × IsKeyAsked word asked

-- why no key is explained: the word leads to none, with the nearest topic or key; or memory ran out
abbrev pub IsNoKeyAsked : List ℕ → UsageError → Type 0
IsNoKeyAsked word (refusal.NotTopic other near) = (other.now ≡ word) × (key_at word ≡ None)
    × IsNearest explained_words (below_profile word) (option_map string_bytes near)
IsNoKeyAsked word refusal.Memory = Unit {0}
IsNoKeyAsked word other = ⊥

-- why no explanation is asked for: the word is no topic and leads to no key, or memory ran out
abbrev pub IsExplainedRefused : Option (List ℕ) → UsageError → Type 0
IsExplainedRefused None refused = ⊥
IsExplainedRefused (Some word) refused = IsNoTopic word × IsNoKeyAsked word refused
