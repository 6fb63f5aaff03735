use Rattle.std.proofs.Common.{string_bytes}
use Rattle.nextest_config_lint.proofs.explain.key.KeyExplanation.text.Goals as goal

pub returns : goal.returns
returns c = record {
  value = string_bytes c.in_ok-value.value;
  absent = string_bytes c.in_ok-absent.absent;
  is_expected = c.in_ok-value.ensures;
  is_absent = c.in_ok-absent.ensures;
  whole = rw c.in_ok-places.ensures at c.in_ok-text.ensures.ok;
}
