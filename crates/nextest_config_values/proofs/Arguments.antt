-- Tool arguments: a text has one, or one fault.
use Rattle.std.proofs.Common.{◌≡◌, ◌∙◌, ◌⊎◌, ℕ, List, [], ◌∷◌, Option, ap, refl, sym, inl, inr, rules}
use Rattle.nextest_config_values.specs.Decisions.{IsDecided}
use Rattle.nextest_config_values.specs.Helpers.Paths.{BeginsWithSlash}
use Rattle.nextest_config_values.specs.Helpers.PathsLaws.{begins_decided}
use Rattle.nextest_config_values.specs.Identifier.{cut_or_none, IsCutAtColon, IsToolName, IsToolNameFault, NameFault, same_cut, one_tool_name_or_fault, ToolNameFlaw, uncut}
use Rattle.nextest_config_values.specs.Once.{HasMeaningOrFault, HasOneMeaningOrFault}
use Rattle.nextest_config_values.specs.Read.{FaultOrMemory, one_then}
use Rattle.nextest_config_values.specs.declared.tool_config.ToolConfigFileParseError.{ToolConfigFileParseError}
use Rattle.nextest_config_values.specs.ToolConfig.{Argument, ArgumentFault, IsArgumentFault, IsPartsFault, IsPathFault, IsToolArgument, RefusesArgument, RefusesTool, config_file_not_absolute, empty_config_file, invalid_format, invalid_tool_name}

path_or_fault : (text path : List ℕ) → IsDecided (BeginsWithSlash path) → BeginsWithSlash path ⊎ ((f : ArgumentFault) × IsPathFault text path f)
path_or_fault text path (inl slash) = inl slash
path_or_fault text [] (inr none) = inr (empty_config_file text, inl (refl, refl))
path_or_fault text (b ∷ path) (inr none) = inr (config_file_not_absolute (b ∷ path), inr ((λ empty. cc empty), none, refl))

parts_or_fault : (text name path tool : List ℕ) → IsCutAtColon text name path → IsToolName name tool → BeginsWithSlash path ⊎ ((f : ArgumentFault) × IsPathFault text path f)
    → HasMeaningOrFault (IsToolArgument text) (IsArgumentFault text)
parts_or_fault text name path tool cut named (inl slash) =
    inl (record { tool = tool; path = path }, record { name = name; cut = cut; tool = named; absolute = slash })
parts_or_fault text name path tool cut named (inr (f, wrong)) = inr (f, inr (name, path, cut, inr (tool, named, wrong)))

cut_or_fault : (text name path : List ℕ) → IsCutAtColon text name path → HasMeaningOrFault (IsToolName name) (IsToolNameFault name)
    → HasMeaningOrFault (IsToolArgument text) (IsArgumentFault text)
cut_or_fault text name path cut (inl (tool, named)) = parts_or_fault text name path tool cut named (path_or_fault text path (begins_decided path))
cut_or_fault text name path cut (inr (fault, wrong)) = inr (invalid_tool_name text fault, inr (name, path, cut, inl (fault, wrong, refl)))

argument_or_fault : (text : List ℕ) → HasMeaningOrFault (IsToolArgument text) (IsArgumentFault text)
argument_or_fault text = elim (cut_or_none text) [
  | inl (name, path, cut) ↦ cut_or_fault text name path cut (one_tool_name_or_fault.meaning_or_fault name)
  | inr none ↦ inr (invalid_format text, inl (none, refl))
]

pub one_argument : (text : List ℕ) (a b : Argument) → IsToolArgument text a → IsToolArgument text b → a ≡ b
one_argument text a b h k =
    let same = same_cut text h.name a.path k.name b.path h.cut k.cut in
    let tools : a.tool ≡ b.tool = rw (h.tool.1, k.tool.1, same.0) refl in
    ap (λ t. record { tool = t; path = a.path }) tools ∙ ap (λ p. record { tool = b.tool; path = p }) same.1

one_parts_fault : (text name path : List ℕ) (e f : ArgumentFault) → IsPartsFault text name path e → IsPartsFault text name path f → e ≡ f
one_parts_fault text name path = one_then
    (λ e f a b. a.2 ∙ ap (invalid_tool_name text) (one_tool_name_or_fault.one_fault name a.0 b.0 a.1 b.1) ∙ sym b.2)
    (λ tool e named a. one_tool_name_or_fault.never_both name tool a.0 named a.1)
    (λ tool other a b. a.1 ∙ sym b.1)
    (λ tool e f a b. search rules)

one_argument_fault : (text : List ℕ) (e f : ArgumentFault) → IsArgumentFault text e → IsArgumentFault text f → e ≡ f
one_argument_fault text e f (inl a) b = search (rules, uncut)
one_argument_fault text e f (inr a) (inl b) = absurd (uncut text a.0 a.1 b.0 a.2)
one_argument_fault text e f (inr a) (inr b) =
    let same = same_cut text a.0 a.1 b.0 b.1 a.2 b.2 in
    one_parts_fault text b.0 b.1 e f (rw (← same.0, ← same.1) a.3) b.3

no_parts_fault : (text name tool path : List ℕ) (f : ArgumentFault) → IsToolName name tool → BeginsWithSlash path → IsPartsFault text name path f → ⊥
no_parts_fault text name tool path f named slash (inl a) = one_tool_name_or_fault.never_both name tool a.0 named a.1
no_parts_fault text name tool path f named slash (inr a) = search rules

pub argument_not_refused : (text : List ℕ) (a : Argument) (f : ArgumentFault) → IsToolArgument text a → IsArgumentFault text f → ⊥
argument_not_refused text a f h (inl b) = uncut text h.name a.path b.0 h.cut
argument_not_refused text a f h (inr b) =
    let same = same_cut text h.name a.path b.0 b.1 h.cut b.2 in
    no_parts_fault text h.name a.tool a.path f h.tool h.absolute (rw (same.0, same.1) b.3)

pub one_argument_or_fault : HasOneMeaningOrFault IsToolArgument IsArgumentFault
one_argument_or_fault = record { meaning_or_fault = argument_or_fault; one_meaning = one_argument; one_fault = one_argument_fault; never_both = argument_not_refused }

-- ---- refusals

-- the fault of the name in front of the first colon
pub bad_name : (text name path : List ℕ) (told : Option (NameFault ToolNameFlaw)) (of_memory : Type 0) (error : ToolConfigFileParseError)
    → IsCutAtColon text name path → FaultOrMemory told of_memory (IsToolNameFault name) → RefusesTool text told error → RefusesArgument (IsArgumentFault text) error
bad_name text name path told of_memory error cut refused bad = search rules
