use Rattle.std.proofs.Common.{[], refl, true}
use Rattle.nextest_config_lint.proofs.right.is_right_by.Goals as goal

pub returns : goal.returns
returns c = c.in_ok-is_right.ensures (record { is_right = true }) [] (λ began. ((λ right. tt), λ none. refl)) refl
