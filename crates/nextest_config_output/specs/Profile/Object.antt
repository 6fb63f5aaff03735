-- Objects of JSON (RFC 8259) of what is reported of keys.
use Rattle.std.specs.Prelude.{ℕ, List, [], ◌∷◌, codes, Option, Some, None, string_bytes}
use Rattle.std.specs.Duration.{as_nanos}
use Rattle.serde_json.specs.Data.{Data, member, no_members, null, object, string}
use Rattle.toml.specs.View.{view}
use Rattle.nextest_config_values.specs.Literal.Json.{json_data}
use Rattle.nextest_config_values.specs.Literal.Key.{key_text}
use Rattle.nextest_config_report.specs.Show.{array_of}
use Rattle.nextest_config_profiles.specs.declared.report.parts.FaultSource.{FaultSource}
use Rattle.nextest_config_profiles.specs.declared.report.parts.FilePlace.{FilePlace}
use Rattle.nextest_config_profiles.specs.declared.report.parts.Hidden.{Hidden}
use Rattle.nextest_config_profiles.specs.declared.report.parts.Literal.{Literal}
use Rattle.nextest_config_profiles.specs.declared.report.parts.OtherKey.{OtherKey}
use Rattle.nextest_config_profiles.specs.declared.report.parts.Remark.{Remark}
use Rattle.nextest_config_profiles.specs.declared.report.parts.Remark.TheVariants as remarks
use Rattle.nextest_config_profiles.specs.declared.report.parts.Row.{Row}
use Rattle.nextest_config_profiles.specs.declared.report.parts.Source.{Source}
use Rattle.nextest_config_profiles.specs.declared.report.parts.KeyState.{KeyState}
use Rattle.nextest_config_profiles.specs.declared.report.parts.KeyState.TheVariants as states
use Rattle.nextest_config_output.specs.Profile.KeyPath.{key_path}
use Rattle.nextest_config_output.specs.Profile.Time.{time_text}
use Rattle.nextest_config_output.specs.Profile.Location.{location_of, nowhere, number_data, SeenLocation, text_data}
use Rattle.nextest_config_output.specs.Profile.ToJson.{with_member}

-- a value, as JSON has it
abbrev pub literal_data : Literal → Data
literal_data literal = json_data (view literal.value)

-- the object of a key: `column`, `key`, `line`, `message`, `path`, `profile`, `state` and `value`
abbrev pub key_data : List ℕ → Data → SeenLocation → List ℕ → Data → Data
key_data key value location state message = object
    (member (codes "column") (number_data location.column)
    (member (codes "key") (string key)
    (member (codes "line") (number_data location.line)
    (member (codes "message") message
    (member (codes "path") (text_data location.path)
    (member (codes "profile") (text_data location.profile)
    (member (codes "state") (string state)
    (member (codes "value") value no_members))))))))

-- where a part of a value stands: `column`, `key`, `line` and `path`
abbrev pub source_data : FaultSource → Data
source_data part = let location = location_of part.source in object
    (member (codes "column") (number_data location.column)
    (member (codes "key") (string (key_path part.keys.items))
    (member (codes "line") (number_data location.line)
    (member (codes "path") (text_data location.path) no_members))))

-- ---- what is reported of a key of a setting

-- the value that a key has, or null
abbrev pub state_data : KeyState → Data
state_data (states.Value literal source remark) = literal_data literal
state_data (states.NotJudged literal source) = literal_data literal
state_data (states.Default literal) = literal_data literal
state_data (states.Implied literal) = literal_data literal
state_data states.Unset = null
state_data (states.NoValue source) = null
state_data (states.Fault message sources) = null

-- where the first of the parts of a value stands
abbrev pub first_location : List FaultSource → SeenLocation
first_location [] = nowhere
first_location (first ∷ rest) = location_of first.source

-- where it stands what a key has; of a value that is refused, where the first of its parts stands
abbrev pub state_location : KeyState → SeenLocation
state_location (states.Value literal source remark) = location_of source
state_location (states.NotJudged literal source) = location_of source
state_location (states.Default literal) = nowhere
state_location (states.Implied literal) = nowhere
state_location states.Unset = nowhere
state_location (states.NoValue source) = location_of source
state_location (states.Fault message sources) = first_location sources.items

-- the word of a value that a file has, or of one that nextest sets itself, which is a default
abbrev pub state_in : Option FilePlace → List ℕ
state_in (Some file) = codes "value"
state_in None = codes "default"

-- the word of a value from this source
abbrev pub value_state : Source → List ℕ
value_state source = state_in source.file

-- the word of what a key has: `value`, `not-judged`, `default`, `unset` or `fault`
abbrev pub state_word : KeyState → List ℕ
state_word (states.Value literal source remark) = value_state source
state_word (states.NotJudged literal source) = codes "not-judged"
state_word (states.Default literal) = codes "default"
state_word (states.Implied literal) = codes "default"
state_word states.Unset = codes "unset"
state_word (states.NoValue source) = codes "fault"
state_word (states.Fault message sources) = codes "fault"

-- what is said of a value: null where a file has it, else that nextest sets it itself
abbrev pub message_in : Option FilePlace → Data
message_in (Some file) = null
message_in None = string (codes "nextest's default")

-- what is said of a value from this source, or null
abbrev pub value_message : Source → Data
value_message source = message_in source.file

-- what is said of what a key has, or null
abbrev pub message_data : KeyState → Data
message_data (states.Value literal source remark) = value_message source
message_data (states.NotJudged literal source) = null
message_data (states.Default literal) = string (codes "default of the table")
message_data (states.Implied literal) = string (codes "default of the table")
message_data states.Unset = null
message_data (states.NoValue source) =
    string (codes "no value: the empty text takes the default away")
message_data (states.Fault message sources) = string (string_bytes message)

-- ---- the objects

-- the object of a key, with the time at `terminated_after` that is remarked of its value
abbrev pub with_time : Remark → Data → Data
with_time (remarks.TerminatedAfter time) so =
    with_member (codes "terminated_after") (string (time_text (as_nanos time))) so
with_time other so = so

-- the object of a key, with what is reported besides: of a value that is refused the places of its
-- parts at `sources`, of one with a remark its time
abbrev pub with_rest : KeyState → Data → Data
with_rest (states.Fault message sources) so =
    with_member (codes "sources") (array_of source_data sources.items) so
with_rest (states.Value literal source remark) so = with_time remark so
with_rest other so = so

-- the object of a key of a setting, by what is reported of it
abbrev pub state_object : List ℕ → KeyState → Data
state_object key state = with_rest state
    (key_data key (state_data state) (state_location state) (state_word state) (message_data state))

-- the object of a row: of its key, by the path, and what is reported of it
abbrev pub row_data : Row → Data
row_data row = state_object (key_path row.keys.items) row.state

-- the object of a value that doesn't count, whose state is `hidden`
abbrev pub hidden_data : Hidden → Data
hidden_data hidden = key_data (key_path hidden.keys.items) (literal_data hidden.literal)
    (location_of hidden.source) (codes "hidden") null

-- the object of a key that no setting reads: `column`, `key`, `line`, `path`, `profile` and `value`
abbrev pub other_data : OtherKey → Data
other_data other = let location = location_of other.source in object
    (member (codes "column") (number_data location.column)
    (member (codes "key") (string (key_text other.key.now))
    (member (codes "line") (number_data location.line)
    (member (codes "path") (text_data location.path)
    (member (codes "profile") (text_data location.profile)
    (member (codes "value") (literal_data other.literal) no_members))))))
