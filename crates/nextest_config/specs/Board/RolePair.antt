-- What is chosen of the sources of a board.
use Rattle.std.specs.Prelude.{ℕ, Option, None, option_map}
use Rattle.std.proofs.Common.{refl}
use Rattle.semver.specs.Parse.{Parts}
use Rattle.semver.specs.declared.Version.{Version}
use Rattle.nextest_config.specs.Merge.{IsMonoid}
use Rattle.nextest_config.specs.NextestVersion.VersionText.{plain}
use Rattle.nextest_config.specs.NextestVersion.Later.{later_joins, later_of}
use Rattle.nextest_config.specs.NextestVersion.Parts.{parts_join}
use Rattle.nextest_config.specs.declared.board.role_pair.SlotVersion.{SlotVersion}
use Rattle.nextest_config.specs.declared.board.role_pair.RolePair.{RolePair}
use Rattle.nextest_config.specs.declared.nextest_version.nextest_version_deserialize.NextestVersionDeserialize.{NextestVersionDeserialize}

-- the version that is asked from a slot, by its three numbers
abbrev pub version_at : SlotVersion → Parts
version_at asked = plain asked.numbers

-- the numbers of a version, asked from this slot
abbrev pub slot_version : ℕ → Version → SlotVersion
slot_version slot version =
    record { numbers = (version.major, version.minor, version.patch); slot = slot }

-- what a source asks in each role, from this slot
abbrev pub pair_in : ℕ → NextestVersionDeserialize → RolePair
pair_in slot asked =
    record {
      required = option_map (slot_version slot) asked.required;
      recommended = option_map (slot_version slot) asked.recommended;
    }

-- of two versions that are asked from slots the later one, unless it is below the earlier one
abbrev pub later_asked : Option SlotVersion → Option SlotVersion → Option SlotVersion
later_asked = later_of version_at

-- of two pairs the later version in each role, unless it is below the earlier one
abbrev pub later_pair : RolePair → RolePair → RolePair
later_pair earlier later = record {
  required = later_asked earlier.required later.required;
  recommended = later_asked earlier.recommended later.recommended;
}

-- the pair that asks no version in either role
abbrev pub no_pair : RolePair
no_pair = record { required = None; recommended = None }

pub pairs_join : IsMonoid later_pair no_pair
pairs_join = parts_join (λ (pair : RolePair). (pair.required, pair.recommended))
    (λ asked. record { required = asked.0; recommended = asked.1 }) later_asked later_asked None
    None (λ asked. refl) (λ pair. refl) (later_joins version_at) (later_joins version_at)
