-- Places in files, as JSON has them.
use Rattle.std.specs.Prelude.{ℕ, List, Option, Some, None, option_map}
use Rattle.serde_json.specs.Data.{Data, null, number, string, unsigned}
use Rattle.nextest_config_profiles.specs.declared.report.parts.FilePlace.{FilePlace}
use Rattle.nextest_config_profiles.specs.declared.report.parts.Source.{Source}
use Rattle.nextest_config_output.specs.declared.profile.location.Location.{Location}

-- a place in a file, and the profile that has something there: what is known of them
pub record SeenLocation : Type 0 where
  pub profile : Option (List ℕ)
  pub path : Option (List ℕ)
  pub line : Option ℕ
  pub column : Option ℕ

-- what a place says, without where it lies in memory
abbrev pub seen_location : Location → SeenLocation
seen_location location = record {
  profile = option_map (λ profile. profile.now) location.profile;
  path = option_map (λ path. path.now) location.path;
  line = location.line;
  column = location.column;
}

-- no place
abbrev pub nowhere : SeenLocation
nowhere = record { profile = None; path = None; line = None; column = None }

-- the place in a file where this profile has something; none where there is no file
abbrev pub location_in : List ℕ → Option FilePlace → SeenLocation
location_in profile (Some file) = record {
  profile = Some profile;
  path = Some file.path.now;
  line = option_map (λ place. place.line) file.place;
  column = option_map (λ place. place.column) file.place;
}
location_in profile None = nowhere

-- the place of a source; none where nextest sets a value itself
abbrev pub location_of : Source → SeenLocation
location_of source = location_in source.profile.now source.file

-- the place of a source, where there is one
abbrev pub location_if : Option Source → SeenLocation
location_if (Some source) = location_of source
location_if None = nowhere

-- a text, or null
abbrev pub text_data : Option (List ℕ) → Data
text_data (Some text) = string text
text_data None = null

-- a number, or null
abbrev pub number_data : Option ℕ → Data
number_data (Some n) = number (unsigned n)
number_data None = null
