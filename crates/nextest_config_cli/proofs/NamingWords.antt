-- Words of which each names something, as files of tools and keys, and one that names nothing.
use Rattle.std.proofs.Common.{◌≡◌, ◌<◌, ◌+◌, ◌++◌, ◌∷◌, [], ◌∙◌, ℕ, Bor, List, Some, ap, get_or, length, sym, take}
use Rattle.std.proofs.lemmas.List.{get_or-map, length-map, map_more}
use Rattle.std.proofs.lemmas.Option.{slice_get-get_or}
use Rattle.std.specs.List.{AllZip}
use Rattle.std.specs.Prelude.{slice_get}
use Rattle.nextest_config.proofs.Lists.{zip_push}
use Rattle.nextest_config_values.specs.ToolConfig.{IsArgumentFault, RefusesArgument}
use Rattle.nextest_config_values.specs.declared.tool_config.ToolConfigFileParseError.{ToolConfigFileParseError}
use Rattle.nextest_config_values.specs.declared.tool_config.ToolConfigFileParseError.TheVariants as errors
use Rattle.nextest_config_cli.specs.UsageError.{IsOfTool}
use Rattle.nextest_config_cli.specs.Arguments.{IsRefused, RefusesKey, texts}
use Rattle.nextest_config_cli.specs.declared.usage_error.UsageError.{UsageError}
use Rattle.nextest_config_cli.specs.declared.usage_error.UsageError.TheVariants as refusals
use Rattle.nextest_config_cli.specs.declared.arguments.Arguments.{Arguments}

pub one_more : {X : Type 0} (Names : List ℕ → X → Type 0) (words : List (Bor (List ℕ))) (i : ℕ) (d : Bor (List ℕ)) (named more : List X) (x : X) → i < length words
    → AllZip Names (texts (take i words)) named → Names (get_or words i d).now x → more ≡ named ++ (x ∷ []) → AllZip Names (texts (take (i + 1) words)) more
one_more Names words i d named more x within so is pushed = rw (map_more (λ word. word.now) words i d within, pushed) (zip_push Names _ _ _ _ so is)

text_at : (words : List (Bor (List ℕ))) (i : ℕ) (d : Bor (List ℕ)) → i < length words → slice_get (texts words) i ≡ Some (get_or words i d).now
text_at words i d within =
    slice_get-get_or (texts words) i d.now (rw (length-map words (λ word. word.now)) within) ∙ ap Some (get_or-map (λ (word : Bor (List ℕ)). word.now) words i d d.now within)

pub tool_refused : {X : Type 0} (IsAsked : X → Type 0) (arguments : Arguments) (i : ℕ) (d : Bor (List ℕ)) (error : ToolConfigFileParseError) (refusal : UsageError) → i < length arguments.tools.now
    → RefusesArgument (IsArgumentFault (get_or arguments.tools.now i d).now) error → IsOfTool error refusal → IsRefused IsAsked arguments refusal
tool_refused IsAsked arguments i d errors.Memory refusal within refuses is = rw is tt
tool_refused IsAsked arguments i d (errors.InvalidFormat input) refusal within refuses is = rw is (i, _, text_at arguments.tools.now i d within, refuses)
tool_refused IsAsked arguments i d (errors.InvalidToolName input name) refusal within refuses is = rw is (i, _, text_at arguments.tools.now i d within, refuses)
tool_refused IsAsked arguments i d (errors.EmptyConfigFile input) refusal within refuses is = rw is (i, _, text_at arguments.tools.now i d within, refuses)
tool_refused IsAsked arguments i d (errors.ConfigFileNotAbsolute path) refusal within refuses is = rw is (i, _, text_at arguments.tools.now i d within, refuses)

pub key_refused : {X : Type 0} (IsAsked : X → Type 0) (arguments : Arguments) (i : ℕ) (d : Bor (List ℕ)) (refusal : UsageError) → i < length arguments.keys.now
    → RefusesKey (get_or arguments.keys.now i d).now refusal → IsRefused IsAsked arguments refusal
key_refused IsAsked arguments i d (refusals.NotKey word near) within refuses = (i, _, text_at arguments.keys.now i d within, (sym refuses.0, refuses.1))
key_refused IsAsked arguments i d refusals.Memory within refuses = tt
key_refused IsAsked arguments i d (refusals.Clap error) within refuses = absurd refuses
key_refused IsAsked arguments i d (refusals.Words said) within refuses = absurd refuses
key_refused IsAsked arguments i d (refusals.NotVersion word) within refuses = absurd refuses
key_refused IsAsked arguments i d (refusals.NotCode word) within refuses = absurd refuses
key_refused IsAsked arguments i d (refusals.NotTopic word near) within refuses = absurd refuses
key_refused IsAsked arguments i d (refusals.Tool error) within refuses = absurd refuses
key_refused IsAsked arguments i d (refusals.CurrentFolder error) within refuses = absurd refuses
