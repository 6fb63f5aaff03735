-- The laws of the join of what is kept.
use Rattle.std.specs.Prelude.{None}
use Rattle.std.proofs.Common.{refl}
use Rattle.nextest_config.specs.Merge.{IsMonoid}
use Rattle.nextest_config.specs.NextestVersion.KeptVersions.{Roles, join_kept, join_roles, kept_version, no_roles}
use Rattle.nextest_config.specs.NextestVersion.Later.{later_joins}
use Rattle.nextest_config.specs.NextestVersion.Parts.{parts_join}

pub kept_join : IsMonoid join_kept None
kept_join = later_joins kept_version

pub roles_join : IsMonoid join_roles no_roles
roles_join = parts_join (λ (roles : Roles). (roles.required, roles.recommended))
    (λ kept. record { required = kept.0; recommended = kept.1 }) join_kept join_kept None None
    (λ kept. refl) (λ roles. refl) kept_join kept_join
