-- What holds of the values of a document, and is kept by its tables, holds of each tree of it.
use Rattle.std.proofs.Common.{ℕ, List}
use Rattle.toml_parser.specs.Lexical.{skip_blank}
use Rattle.toml_spans.specs.Document.{begin, go_on, Walk, Walks}
use Rattle.toml_spans.specs.Entry.{after_key, Tree}
use Rattle.toml_spans.specs.Value.{pair_tree, value_tree}
use Rattle.toml_spans.proofs.Found.{Found}
use Rattle.toml_spans.proofs.Order.Changes.{IsKept}
use Rattle.toml_spans.proofs.Order.Holds.{holds_nowhere, HoldsBelow, HoldsIn}
use Rattle.toml_spans.proofs.Order.Walks.{line_pair, walk_on_keeps}
use Rattle.toml_spans.proofs.Trees.Documents.{simulated}
use Rattle.toml_spans.proofs.Trees.Rests.{rest_blank, rest_on}
use Rattle.toml_spans.proofs.Trees.Stands.{IsRest}

module _ (P : Tree → Type 0) (kept : IsKept P P (λ k. Unit {0}) (λ k. Unit {0})) (text : List ℕ)
    (reads : (s : List ℕ) → IsRest text s → Found (pair_tree (value_tree 80) s) (λ p. HoldsBelow P (after_key p.0.0.1.1 p.0.1))) where
  pub walk_holds : (walk : Walk) (rest : List ℕ) → Walks text walk rest → HoldsIn P walk.root
  walk_holds walk rest begin = holds_nowhere
  walk_holds walk rest (go_on before next behind after s walks read on) =
      let start = skip_blank behind in
      let from : IsRest text start = rest_on (simulated text before behind walks).from (rest_blank behind) in
      let value = (line_pair (λ k left t. HoldsBelow P (after_key k.1.1 t)) start (reads start from)).each (s, after) read in
      (walk_on_keeps P P _ _ kept (λ k. tt) before s.0 s.1 tt value (walk_holds before behind walks)).each next on
