use Rattle.std.proofs.Common.{◌≡◌, ap, refl}
use Rattle.toml_spans.specs.Document.{Walk}
use Rattle.toml_spans.specs.EntryViews.{branches_of}
use Rattle.toml_spans.proofs.Between.Once.{one_walk}
use Rattle.toml_spans.proofs.laws.law_index_once.Goals as goal

pub returns : goal.returns
returns c text one other is is_too =
    let w = is.walked in
    let w_too = is_too.walked in
    let root : branches_of one.root ≡ branches_of other.root = ap (λ (walk : Walk). walk.root) (one_walk text w.rest w_too.rest _ _ w.walks w.over w_too.walks w_too.over) in
    rw (is.places.size_is, is_too.places.size_is, root) refl
