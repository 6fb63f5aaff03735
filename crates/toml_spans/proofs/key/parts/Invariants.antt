use Rattle.std.proofs.Common.{◌≡◌, ◌-◌, ◌≤◌, [], length}
use denote.Text.{Utf8}
use denote.Shadow.{shadow}
use Rattle.toml_spans.specs.Key.{parts_after}
use Rattle.toml_spans.specs.KeyViews.{path_of}
use Rattle.toml_spans.proofs.key.parts.Given as goal

abbrev pub invariant-parts : goal.invariant-parts
invariant-parts l =
    shadow (Utf8 l.rest) × (length l.rest ≤ length l.text) × (parts_after 80 [] l.text ≡ parts_after (80 - l._part) (path_of l.path.items) l.rest)
