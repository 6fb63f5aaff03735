use Rattle.nextest_config_profiles.proofs.report.rows.whole_rows.Goals as goal

pub returns : goal.returns
returns c = record {
  first = c.in_ok-first.first;
  rest = c.in_ok-rows.rows.items;
  whole = c.in_ok-insert.ensures.items;
  is_first = rw c.in_ok-keys.ensures at c.in_ok-first.ensures;
  are_rest = c.in_ok-rows.ensures;
}
