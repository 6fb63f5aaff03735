use Rattle.std.proofs.Common.{◌≡◌, ◌∙◌, ap, refl, rules, string_bytes}
use Rattle.serde_json.proofs.Views.{members_view-insert_entry}
use Rattle.serde_json.specs.View.{members_view}
use Rattle.nextest_config_output.proofs.profile.to_json.put.Goals as goal

pub returns : goal.returns
returns c =
    let named : string_bytes c.in_ok-key.key ≡ c.args.key.now = search rules in
    ap members_view c.in_ok-insert.ensures.entries
    ∙ members_view-insert_entry c.args.members.now.entries c.in_ok-key.key c.args.value
    ∙ rw named refl
