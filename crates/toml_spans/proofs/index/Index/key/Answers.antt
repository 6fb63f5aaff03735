use Rattle.std.proofs.Common.{◌≡◌, map, Some, option_map, sym}
use Rattle.toml_spans.specs.Entry.{pieces_of, tree_at}
use Rattle.toml_spans.specs.EntryViews.{branches_of}
use Rattle.toml_spans.specs.IndexViews.{pieces_from}
use Rattle.toml_spans.specs.Step.{step_of}
use Rattle.toml_spans.proofs.Lookups.{range_of_found, range_of_piece}
use Rattle.toml_spans.proofs.index.Index.key.Goals as goal

pub returns-in-Some : goal.returns-in-Some
returns-in-Some c text of_text =
    let found : option_map pieces_of (tree_at (branches_of c.args.self.now.root) (map step_of c.args.path.now)) ≡ Some (pieces_from c.in-Some.pieces) = sym (rw c.in-Some.is at c.pieces_at.ensures) in
    rw (range_of_found (λ p. p.of_key) _ _ c.args.self.now.places.length found, range_of_piece c.in-Some.pieces.key c.args.self.now.places.length, of_text.places.size_is) (c.span.ensures text of_text.places)
