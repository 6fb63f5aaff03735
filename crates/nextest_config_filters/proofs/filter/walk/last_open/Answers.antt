use Rattle.std.proofs.Common.{refl, subst}
use Rattle.std.specs.Str.{chars}
use Rattle.nextest_config_filters.specs.Filter.Steps.{IsWalk}
use Rattle.nextest_config_filters.proofs.Filters.Walks.{found_open}
use Rattle.nextest_config_filters.proofs.filter.walk.last_open.Goals as goal

pub returns-in-Open : goal.returns-in-Open
returns-in-Open c =
    let cs = chars c.args.text.now in
    let left = subst (IsWalk c.args.place c.args.level cs) c.in-Open.is c.in_ok-end.ensures.walk in
    record {
      walked = rw c.not_closed.ensures (found_open c.args.place cs _ _ c.args.level c.requires left.0 left.1);
      no_memory = λ none. refl;
    }
