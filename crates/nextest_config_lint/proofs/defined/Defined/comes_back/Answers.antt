use Rattle.std.proofs.Common.{Some, ap, sym, ◌∙◌}
use Rattle.std.proofs.lemmas.Bool.{true≢false}
use Rattle.std.proofs.lemmas.Bool.Decides.{Decides-eqb}
use Rattle.nextest_config_lint.proofs.defined.Defined.comes_back.Goals as goal

pub returns-in-Some : goal.returns-in-Some
returns-in-Some c = λ files is.
    let ring = is.rings c.args.profile.now c.args.position in
    let kept = sym c.in-Some.ensures.value in (
      λ same. ring.0 (kept ∙ ap Some ((Decides-eqb c.in-Some.counting.now c.args.position).0 same)),
      λ came. (Decides-eqb c.in-Some.counting.now c.args.position).1 (cc (kept, ring.1 came)),
    )

pub returns-in-None : goal.returns-in-None
returns-in-None c = λ files is.
    let ring = is.rings c.args.profile.now c.args.position in
    (λ yes. absurd (true≢false (sym yes)), λ came. absurd (cc (c.in-None.ensures.value, ring.1 came)))
