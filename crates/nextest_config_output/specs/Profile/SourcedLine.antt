-- Lines of settings: a first column, and where it comes from.
use Rattle.std.specs.Prelude.{ℕ, List, [], ◌∷◌, ◌++◌, codes, nat_eq, Option, Some, None, option_map, string_bytes, if◌then◌else◌}
use Rattle.std.specs.Cmp.Lexicographic.{pointwise}
use Rattle.std.specs.Duration.{as_nanos}
use Rattle.nextest_config_output.specs.Findings.Escapes.{escaped_text}
use Rattle.nextest_config_output.specs.declared.findings.escapes.Escapes.TheVariants.{InLine}
use Rattle.nextest_config_values.specs.Literal.Key.{key_text}
use Rattle.nextest_config_profiles.specs.declared.report.parts.Hidden.{Hidden}
use Rattle.nextest_config_profiles.specs.declared.report.parts.OtherKey.{OtherKey}
use Rattle.nextest_config_profiles.specs.Reach.{words_of}
use Rattle.nextest_config_profiles.specs.declared.report.parts.Remark.{Remark}
use Rattle.nextest_config_profiles.specs.declared.report.parts.Remark.TheVariants as remarks
use Rattle.nextest_config_profiles.specs.declared.report.parts.Row.{Row}
use Rattle.nextest_config_profiles.specs.declared.report.parts.KeyState.{KeyState}
use Rattle.nextest_config_profiles.specs.declared.report.parts.KeyState.TheVariants as states
use Rattle.nextest_config_output.specs.Profile.KeyPath.{key_path}
use Rattle.nextest_config_output.specs.Profile.Source.{source_text, sources_text}
use Rattle.nextest_config_output.specs.Profile.Time.{time_text}
use Rattle.nextest_config_output.specs.declared.profile.sourced_line.SourcedLine.{SourcedLine}

-- a line: its first column, and where it comes from
pub record Line : Type 0 where
  pub first : List ℕ
  pub source : Option (List ℕ)

-- what a line says, without where it lies in memory
abbrev pub line_of : SourcedLine → Line
line_of line = record {
  first = string_bytes line.first;
  source = option_map string_bytes line.source;
}

-- ---- first columns

-- KEY = VALUE
abbrev pub setting_text : List ℕ → List ℕ → List ℕ
setting_text key value = key ++ (codes " = " ++ value)

-- # KEY = MESSAGE, what is wrong with a value that its reader refuses, escaped as in a line
abbrev pub fault_column : List ℕ → List ℕ → List ℕ
fault_column key message = codes "# " ++ setting_text key (escaped_text InLine message)

-- what is reported of a key: KEY = VALUE, or a comment where a file couldn't have that in its place
abbrev pub first_column : List ℕ → KeyState → List ℕ
first_column key (states.Value literal source remark) = setting_text key (string_bytes literal.text)
first_column key (states.NotJudged literal source) = setting_text key (string_bytes literal.text)
first_column key (states.Default literal) = setting_text key (string_bytes literal.text)
first_column key (states.Implied literal) =
    codes "# " ++ setting_text key (string_bytes literal.text)
first_column key states.Unset = codes "# " ++ (key ++ codes " isn't set")
first_column key (states.NoValue source) =
    codes "# " ++ setting_text key (codes "no value: the empty text takes the default away")
first_column key (states.Fault message sources) = fault_column key (string_bytes message)

-- what stands behind a key that nothing gives
abbrev pub mark_of_key : List ℕ → List ℕ
mark_of_key key =
    if pointwise nat_eq key (codes "terminate-after") then codes " (a slow test goes on)" else []

-- what stands behind these keys, one below the other, where nothing gives them
abbrev pub mark_of_unset : List (List ℕ) → List ℕ
mark_of_unset [] = []
mark_of_unset (key ∷ []) = mark_of_key key
mark_of_unset (key ∷ next ∷ rest) = mark_of_unset (next ∷ rest)

-- what stands behind these keys, by what is reported of them
abbrev pub unset_mark : List (List ℕ) → KeyState → List ℕ
unset_mark keys states.Unset = mark_of_unset keys
unset_mark keys so = []

-- ---- where they come from, for the profile of this name

-- what stands behind the source of a value: that it is a time as long as none at all, or after how
-- long a slow test is terminated
abbrev pub remark_text : Remark → List ℕ
remark_text remarks.Nothing = []
remark_text remarks.NoLimit = codes " (no limit)"
remark_text (remarks.TerminatedAfter time) =
    codes " (terminated after " ++ (time_text (as_nanos time) ++ codes ")")

-- where it comes from what is reported of a key; nothing of a key that nothing gives
abbrev pub state_source : List ℕ → KeyState → Option (List ℕ)
state_source name (states.Value literal source remark) =
    Some (source_text name source ++ remark_text remark)
state_source name (states.NotJudged literal source) =
    Some (source_text name source ++ codes " (not judged)")
state_source name (states.Default literal) = Some (codes "default of the table")
state_source name (states.Implied literal) = Some (codes "default of the table")
state_source name states.Unset = None
state_source name (states.NoValue source) = Some (source_text name source)
state_source name (states.Fault message sources) = Some (sources_text name sources.items)

-- ---- the lines

-- the line of a key of a setting
abbrev pub row_line : List ℕ → Row → Line
row_line name row = record {
  first = first_column (key_path row.keys.items) row.state
      ++ unset_mark (words_of row.keys.items) row.state;
  source = state_source name row.state;
}

-- the line of a value that doesn't count: # hidden: KEY = VALUE
abbrev pub hidden_line : List ℕ → Hidden → Line
hidden_line name hidden = record {
  first = codes "# hidden: "
      ++ setting_text (key_path hidden.keys.items) (string_bytes hidden.literal.text);
  source = Some (source_text name hidden.source);
}

-- the line of a key that no setting reads
abbrev pub other_line : List ℕ → OtherKey → Line
other_line name other = record {
  first = setting_text (key_text other.key.now) (string_bytes other.literal.text);
  source = Some (source_text name other.source);
}
