use Rattle.std.proofs.Common.{option_map}
use Rattle.std.proofs.lemmas.List.{map_push}
use Rattle.nextest_config_profiles.proofs.report.profile_report.push_setting.Goals as goal

pub returns-clause-rows : goal.returns-clause-rows
returns-clause-rows c = (
  c.in_ok-rows.rows.items,
  (c.in_ok-given.given, rw c.requires.chain_is at c.in_ok-given.ensures, c.in_ok-rows.ensures),
  rw c.in_ok-push.ensures.items (map_push (λ rows. rows.items) c.args.report.now.rows.items c.in_ok-rows.rows),
)

pub returns-clause-faults : goal.returns-clause-faults
returns-clause-faults c = (
  c.in_ok-added.added.items,
  record {
    giver = option_map (λ name. name.now) c.giver_of-giver.result;
    is_giver = (c.in_ok-given.given, rw c.requires.chain_is at c.in_ok-given.ensures, c.giver_of-giver.ensures);
    are_faults = c.in_ok-added.ensures;
  },
  c.in_ok-append.ensures.items,
)
