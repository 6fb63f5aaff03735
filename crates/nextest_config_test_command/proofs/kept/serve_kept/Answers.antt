use Rattle.std.proofs.Common.{◌≡◌, Bool, false, IsTrue}
use Rattle.nextest_config_test_command.proofs.WholeLines.{done_or_says_why}
use Rattle.nextest_config_test_command.proofs.kept.serve_kept.Goals as goal

not_both : (failed : Bool) → failed ≡ false → IsTrue failed → ⊥
not_both failed is_false is_true = cc (is_false, is_true)

pub returns : goal.returns
returns c = λ written said. done_or_says_why _ _ _ _ _ _ _ _ _ _ (not_both _ written) (not_both _ said) c.serve.ensures.ended
