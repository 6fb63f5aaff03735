-- Of one text there is one walk up to its end.
use Rattle.std.proofs.Common.{◌≡◌, ℕ, zero, suc, List, [], Some, None, refl, sym, subst, ap, ◌∙◌}
use Rattle.std.proofs.lemmas.Option.{none-some, same_Some, some_pair_parts}
use Rattle.toml_parser.specs.Lexical.{skip_blank}
use Rattle.toml.specs.Parse.{skip_bom}
use Rattle.toml_spans.specs.Document.{begin, go_on, no_walk, Statement, statement, statement_line, Walk, walk_on, Walks}
use Rattle.toml_spans.specs.Key.{parts_after}
use Rattle.toml_spans.specs.Value.{parts_equals}
use Rattle.toml_parser.specs.Strings.{simple_key}

-- from this walk and this rest the end is reached in so many statements, with that walk
abbrev pub Ends : ℕ → Walk → List ℕ → Walk → Type 0
Ends zero walk rest last = (walk ≡ last) × (skip_blank rest ≡ [])
Ends (suc n) walk rest last = (s : Statement) × (after : List ℕ) × (next : Walk) × (statement_line (skip_blank rest) ≡ Some (s, after)) × (walk_on walk s.0 s.1 ≡ Some next) × Ends n next after last

-- it is reached from the beginning
pub from_start : (text : List ℕ) (walk last : Walk) (rest : List ℕ) (n : ℕ) → Walks text walk rest → Ends n walk rest last → (m : ℕ) × Ends m no_walk (skip_bom text) last
from_start text walk last rest n begin ends = (n, ends)
from_start text walk last rest n (go_on before next behind after s walks read on) ends = from_start text before last behind (suc n) walks (s, after, next, read, on, ends)

-- no statement stands at the end
end_none : statement_line [] ≡ None
unfolding statement_line statement parts_equals parts_after simple_key
end_none = refl

-- nor does the walk go on there
pub none_at_end : (rest after : List ℕ) (s : Statement) → skip_blank rest ≡ [] → statement_line (skip_blank rest) ≡ Some (s, after) → ⊥
none_at_end rest after s over read = none-some (s, after) (sym end_none ∙ ap statement_line (sym over) ∙ read)

-- there is one end
one_end : (m n : ℕ) (walk one other : Walk) (rest : List ℕ) → Ends m walk rest one → Ends n walk rest other → one ≡ other
one_end zero zero walk one other rest first second = sym first.0 ∙ second.0
one_end zero (suc n) walk one other rest first second = absurd (none_at_end rest second.1 second.0 first.1 second.3)
one_end (suc m) zero walk one other rest first second = absurd (none_at_end rest first.1 first.0 second.1 first.3)
one_end (suc m) (suc n) walk one other rest first second =
    let same = some_pair_parts second.0 first.0 second.1 first.1 (sym second.3 ∙ first.3) in
    let on : walk_on walk first.0.0 first.0.1 ≡ Some second.2 = ap (λ (s : Statement). walk_on walk s.0 s.1) (sym same.0) ∙ second.4 in
    let next : second.2 ≡ first.2 = same_Some second.2 first.2 (sym on ∙ first.4) in
    let moved : Ends n first.2 second.1 other = subst (λ (w : Walk). Ends n w second.1 other) next second.5 in
    one_end m n first.2 one other first.1 first.5 (subst (λ (r : List ℕ). Ends n first.2 r other) same.1 moved)

-- so there is one walk
pub one_walk : (text rest other_rest : List ℕ) (walk other : Walk) → Walks text walk rest → skip_blank rest ≡ [] → Walks text other other_rest → skip_blank other_rest ≡ [] → walk ≡ other
one_walk text rest other_rest walk other walks over walks_too over_too =
    let one = from_start text walk walk rest zero walks (refl, over) in
    let two = from_start text other other other_rest zero walks_too (refl, over_too) in
    one_end one.0 two.0 no_walk walk other (skip_bom text) one.1 two.1
