use Rattle.std.proofs.Common.{◌≡◌, ap, refl, string_bytes, ◌∙◌}
use Rattle.toml.proofs.Views.{table_insert}
use Rattle.toml.specs.View.{members_view, view}
use Rattle.toml.specs.Data.{get_member}
use Rattle.nextest_config_profiles.proofs.Members.{apart_keys, other_inserted}
use Rattle.nextest_config_profiles.proofs.merged.put.Goals as goal

pub returns : goal.returns
returns c =
    let key = c.in_ok-clone.field-0 in
    let same : string_bytes key ≡ string_bytes c.args.key.now = c.in_ok-clone.ensures.cases in
    let before = c.args.table.now.entries in
    record {
      here = ap (λ entries. get_member (string_bytes c.args.key.now) (members_view entries)) c.in_ok-insert.ensures.entries
          ∙ table_insert key (string_bytes c.args.key.now) c.args.value (view c.args.value) before same refl;
      others = λ other apart. ap (λ entries. get_member other (members_view entries)) c.in_ok-insert.ensures.entries
          ∙ other_inserted other key c.args.value (apart_keys other (string_bytes key) (λ one. apart (one ∙ same))) before;
    }
