-- Slow timeouts without what nextest may convert.
use Rattle.std.specs.Prelude.{◌≡◌, ℕ, List, [], ◌∷◌, ◌++◌, Option, Some, None}
use Rattle.std.specs.Ordering.{match_ordering, nat_cmp}
use Rattle.std.specs.Cmp.Lexicographic.{slice_cmp}
use Rattle.toml.specs.Data.{Data, get_member, member, Members, no_members, table}
use Rattle.nextest_config_values.specs.Read.{fault_of, Reading}
use Rattle.nextest_config_values.specs.Read.Fault.{Fault}
use Rattle.nextest_config_elements.specs.SlowTimeout.{terminate_after_key}
use Rattle.nextest_config_lint.specs.Conversion.{IsConvertedAt}
use Rattle.nextest_config_lint.specs.Faults.{IsUnjudged}
use Rattle.nextest_config_profiles.specs.Said.{Path}
use Rattle.nextest_config_profiles.specs.declared.report.given.Given.{Given}
use Rattle.nextest_config_profiles.specs.declared.report.given.Given.TheVariants as given

-- members without the one of a name
abbrev pub without : List ℕ → Members → Members
without name no_members = no_members
without name (member key value rest) = match_ordering (slice_cmp nat_cmp name key)
    (member key value (without name rest)) rest (member key value (without name rest))

-- nextest may convert what is there, if anything is
abbrev pub IsConvertedIf : Path → Option Data → Type 0
IsConvertedIf path None = ⊥
IsConvertedIf path (Some value) = IsConvertedAt path value

-- the table at these keys has a `terminate-after` that nextest may convert
abbrev pub HasConverted : Path → Members → Type 0
HasConverted keys members =
    IsConvertedIf (keys ++ (terminate_after_key ∷ [])) (get_member terminate_after_key members)

-- the value at these keys without a `terminate-after` that nextest may convert, if it has one
abbrev pub IsUnconverted : Path → Data → Option Data → Type 0
IsUnconverted keys (table members) None = HasConverted keys members → ⊥
IsUnconverted keys (table members) (Some rest) =
    HasConverted keys members × (rest ≡ table (without terminate_after_key members))
IsUnconverted keys value rest = rest ≡ None

-- what this profile gives where the rest of its value is read
abbrev pub IsRestRead : {X : Type 0} → Reading Data X → List ℕ → Data → Given → Type 0
IsRestRead {X} reading name rest (given.Value profile) =
    (profile.now ≡ name) × ((x : X) × reading.means rest x)
IsRestRead reading name rest (given.NotJudged profile) = (profile.now ≡ name)
    × ((fault : Fault) × reading.faults rest fault × IsUnjudged rest fault)
IsRestRead reading name rest (given.Fault profile refused) = (profile.now ≡ name)
    × ((fault : Fault) × (fault_of refused ≡ Some fault) × reading.faults rest fault
    × (IsUnjudged rest fault → ⊥))
IsRestRead reading name rest given.Nothing = ⊥
