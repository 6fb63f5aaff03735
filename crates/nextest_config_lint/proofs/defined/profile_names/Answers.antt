use Rattle.std.proofs.Common.{inl, inr, ⊎_elim}
use Rattle.nextest_config_lint.proofs.DefinedNames.{added_names, adds_same, adds_then, names_added}
use Rattle.nextest_config_lint.proofs.defined.profile_names.Goals as goal

pub returns : goal.returns
returns c =
    names_added _ _ (adds_same _ _ _ _ (λ name. (
      ⊎_elim (⊎_elim (λ there. inr (inr there)) (λ miri. inr (inl miri))) inl,
      ⊎_elim inr (⊎_elim (λ miri. inl (inr miri)) (λ there. inl (inl there))),
    )) (adds_then _ _ _ _ _ (adds_then _ _ _ _ _ (added_names _ _ c.in_ok-names.ensures) c.in_ok-add_name.ensures) c.in_ok-add_name-2.ensures))
