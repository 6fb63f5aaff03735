use Rattle.std.proofs.Common.{rules, ◌≡◌, ◌==◌, false, length, Some, Result, IfErr, inl, inr, arith}
use Rattle.std.proofs.lemmas.Grind.{common_steps}
use Rattle.std.specs.Result.{IsErrAnd}
use Rattle.toml_parser.specs.Lexical.{skip_blank}
use Rattle.toml_spans.specs.Document.{begin, go_on, Statement, statement_line}
use Rattle.toml_spans.specs.DocumentViews.{statement_of}
use Rattle.toml_spans.specs.declared.refusal.Refusal.{Refusal}
use Rattle.toml_spans.specs.declared.refusal.Refusal.TheVariants.{NoDocument}
use Rattle.toml_spans.proofs.Trees.Documents.{walk_refused}
use Rattle.toml_spans.proofs.document.walk_over.Goals as goal

pub statements-init : goal.statements-init
statements-init c = (search rules, rw (c.skip_bom-rest.ensures.rest, c.new-root.ensures.empty, c.new-section.ensures.items) begin)

-- a refusal that a `?` passes on, and what it says where it isn't of memory
refused_err : {A : Type 0} {P : Type 0} (r : Result A Refusal) (e : Refusal) (Q : Refusal → Type 0)
    → IsErrAnd r Q → ((y : Refusal) → Q y → y ≡ e) → (e ≡ NoDocument → P) → IfErr r (λ y. y ≡ NoDocument → P)
refused_err r e Q h same refused = search rules

pub returns-in_err-key-clause-refused : goal.returns-in_err-key-clause-refused
returns-in_err-key-clause-refused c =
    let l = c.statements in
    let start_is = c.skip_blank-start.ensures.rest in
    let more : (length (skip_blank l.rest.now) == 0) ≡ false = grind (arith, common_steps) in
    refused_err c.from_residual.result c.in_err-key.field-0.0 _ c.from_residual.ensures.1 (λ y p. p) λ refused.
    walk_refused c.args.text.now _ l.rest.now l.invariant.1 more (inl (rw start_is at (c.in_err-key.ensures.value refused)))

pub returns-in_err-define-clause-refused : goal.returns-in_err-define-clause-refused
returns-in_err-define-clause-refused c =
    let l = c.statements in
    let start_is = c.skip_blank-start.ensures.rest in
    let more : (length (skip_blank l.rest.now) == 0) ≡ false = grind (arith, common_steps) in
    let s : Statement = statement_of (c.in_ok-key.key, c.in_ok-key.what) in
    let read : statement_line (skip_blank l.rest.now) ≡ Some (s, c.in_ok-key.after.now) = rw start_is at c.in_ok-key.ensures.value in
    refused_err c.from_residual-in_err-define.result c.in_err-define.field-0.0 _ c.from_residual-in_err-define.ensures.1 (λ y p. p) λ refused.
    walk_refused c.args.text.now _ l.rest.now l.invariant.1 more
    (inr (s, c.in_ok-key.after.now, read, c.in_err-define.ensures refused))

pub statements-preserved : goal.statements-preserved
statements-preserved c =
    let l = c.statements in
    let start_is = c.skip_blank-start.ensures.rest in
    let s : Statement = statement_of (c.in_ok-key.key, c.in_ok-key.what) in
    let read : statement_line (skip_blank l.rest.now) ≡ Some (s, c.in_ok-key.after.now) = rw start_is at c.in_ok-key.ensures.value in
    (search rules, go_on _ _ l.rest.now c.in_ok-key.after.now s l.invariant.1 read c.in_ok-define.ensures)
