use Rattle.std.proofs.Common.{Bor, ◌∙◌, ap, option_map}
use Rattle.std.specs.Option.{option_or}
use Rattle.nextest_config_elements.specs.declared.field.Field as declared
use Rattle.nextest_config_lint.proofs.Keys.{seen_or}
use Rattle.nextest_config_lint.specs.Settings.{seen_field}
use Rattle.nextest_config_lint.proofs.explain.key_path.field_by.Goals as goal

pub returns : goal.returns
returns c =
    let rule = λ (field : Bor declared.Field). (seen_field field.now).0 in
    let of_file = rw c.file_fields.ensures at c.in_ok-of_file.ensures in
    let of_profile = rw c.profile_fields.ensures at c.in_ok-of_profile.ensures in
    ap (option_map rule) c.or.ensures ∙ seen_or rule c.in_ok-of_file.of_file c.in_ok-of_profile.of_profile
    ∙ ap (λ first. option_or first (option_map rule c.in_ok-of_profile.of_profile)) of_file ∙ ap (option_or _) of_profile
