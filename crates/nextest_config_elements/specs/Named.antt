-- What has a name that others refer to.
use Rattle.std.specs.Prelude.{ℕ, List, codes}
use Rattle.nextest_config_elements.specs.declared.named.NamedKind.{NamedKind}
use Rattle.nextest_config_elements.specs.declared.named.NamedKind.TheVariants.{Group, Script}
use Rattle.nextest_config_elements.specs.declared.named.ScriptKind.{ScriptKind}
use Rattle.nextest_config_elements.specs.declared.named.ScriptKind.TheVariants.{Setup, Wrapper}

-- a script of a kind, in words
abbrev pub script_text : ScriptKind → List ℕ
script_text Setup = codes "setup script"
script_text Wrapper = codes "wrapper script"

-- what has a name of a kind, in words
abbrev pub named_text : NamedKind → List ℕ
named_text Group = codes "test group"
named_text (Script script) = script_text script

-- all that has names of a kind, or that scripts have, in words
abbrev pub plural_text : NamedKind → List ℕ
plural_text Group = codes "test groups"
plural_text (Script script) = codes "scripts"

-- the kind of script that another one isn't
abbrev pub other_kind : ScriptKind → ScriptKind
other_kind Setup = Wrapper
other_kind Wrapper = Setup
