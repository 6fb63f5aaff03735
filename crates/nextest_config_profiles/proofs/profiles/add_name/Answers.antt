use Rattle.std.proofs.Common.{◌≡◌, subst, sym}
use Rattle.std.specs.BTreeSet.{insert_key}
use Rattle.nextest_config_profiles.specs.Profiles.{HasName}
use Rattle.nextest_config_profiles.proofs.Names.{added_name, kept_name, names_cmp}
use Rattle.nextest_config_profiles.proofs.profiles.add_name.Goals as goal

pub returns : goal.returns
returns c other =
    let before = c.args.names.now.keys in
    let inserted : c.insert.new.self.keys ≡ insert_key names_cmp before c.args.name = c.in_ok-insert.ensures.keys in (
      λ has. added_name c.args.name other before (subst (λ keys. HasName keys other) inserted has),
      λ has. subst (λ keys. HasName keys other) (sym inserted) (kept_name c.args.name other before has),
    )
