use Rattle.std.proofs.Common.{rules}
use Rattle.toml_spans.proofs.Promised.{promised}
use Rattle.toml_spans.proofs.index.Index.of.Goals as goal

pub returns-in_ok-places-in-Ok : goal.returns-in_ok-places-in-Ok
returns-in_ok-places-in-Ok c =
    search (rules, promised c.args.contents.now _ c.in-Ok.ensures.walked _ c.in_ok-places-in-Ok.ensures.size_is)
