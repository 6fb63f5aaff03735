use Rattle.std.proofs.Common.{refl}
use Rattle.toml.specs.View.{view}
use Rattle.nextest_config_profiles.proofs.report.others.other_found.Goals as goal

pub returns-in_ok-literal-in-Some : goal.returns-in_ok-literal-in-Some
returns-in_ok-literal-in-Some c = record {
  found = c.args.found;
  is_last = c.requires;
  value = view c.in-Some.value;
  is_merged = rw c.in-Some.is at c.in_ok-value.ensures;
  key_is = refl;
  literal_is = c.in_ok-literal-in-Some.ensures;
  source_is = c.in_ok-source-in-Some.ensures;
}
