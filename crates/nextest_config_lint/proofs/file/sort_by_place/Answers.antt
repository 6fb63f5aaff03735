use Rattle.std.proofs.Common.{rules}
use Rattle.std.proofs.lemmas.List.Sorted.{answers_always}
use Rattle.nextest_config_lint.specs.declared.file.LocatedFinding.{LocatedFinding}
use Rattle.nextest_config_lint.proofs.file.sort_by_place.Goals as goal

pub returns : goal.returns
returns c =
    let begin = λ (located : LocatedFinding). located.span.begin in
    record {
      same = c.in_ok-sort_by_key.ensures.permutation;
      by_place = c.in_ok-sort_by_key.ensures.sorted begin (search (rules, answers_always));
      stable = c.in_ok-sort_by_key.ensures.stable begin (search (rules, answers_always));
    }
