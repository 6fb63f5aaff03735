use Rattle.std.proofs.Common.{length}
use denote.Text.{Utf8}
use denote.Shadow.{shadow}
use Rattle.toml_spans.specs.Document.{Walks}
use Rattle.toml_spans.specs.DocumentViews.{walk_from}
use Rattle.toml_spans.proofs.document.walk_over.Given as goal

abbrev pub invariant-statements : goal.invariant-statements
invariant-statements l =
    shadow (Utf8 l.rest) × Walks l.text (walk_from l.root l.section.items) l.rest

abbrev pub decreases-statements : goal.decreases-statements
decreases-statements l = length l.rest
