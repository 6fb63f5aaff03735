use Rattle.std.proofs.Common.{◌≡◌, arith, take}
use Rattle.std.proofs.lemmas.List.{take_min}
use Rattle.toml_spans.proofs.Places.{continuations_ascend, line_begins_ascend, none_below, place_read, some_line}
use Rattle.toml_spans.proofs.place.Places.at.Goals as goal

pub count_before-lines-requires : goal.count_before-lines-requires
count_before-lines-requires c = rw c.deref.ensures.value (line_begins_ascend _ _ _ c.args.self.now.of_some_text)

pub overflow_sub-lines : goal.overflow_sub-lines
overflow_sub-lines c = rw (c.count_before-lines.ensures, c.deref.ensures.value) (some_line _ _ _ _ c.args.self.now.of_some_text)

pub count_before-all-requires : goal.count_before-all-requires
count_before-all-requires c = rw c.deref-2.ensures.value (continuations_ascend _ _ _ c.args.self.now.of_some_text)

pub count_before-before-requires : goal.count_before-before-requires
count_before-before-requires c = rw c.deref-3.ensures.value (continuations_ascend _ _ _ c.args.self.now.of_some_text)

pub overflow_sub-result : goal.overflow_sub-result
overflow_sub-result c = (none_below _ _ _ _ _ _ _ _ c.args.self.now.of_some_text (omega (arith, c.min-offset.ensures))
    (rw c.deref.ensures.value at c.count_before-lines.ensures) c.index-begin.ensures
    (rw c.deref-2.ensures.value at c.count_before-all.ensures) (rw c.deref-3.ensures.value at c.count_before-before.ensures)).0

pub overflow_sub-result-2 : goal.overflow_sub-result-2
overflow_sub-result-2 c = (none_below _ _ _ _ _ _ _ _ c.args.self.now.of_some_text (omega (arith, c.min-offset.ensures))
    (rw c.deref.ensures.value at c.count_before-lines.ensures) c.index-begin.ensures
    (rw c.deref-2.ensures.value at c.count_before-all.ensures) (rw c.deref-3.ensures.value at c.count_before-before.ensures)).1.0

pub overflow_sub-result-3 : goal.overflow_sub-result-3
overflow_sub-result-3 c = (none_below _ _ _ _ _ _ _ _ c.args.self.now.of_some_text (omega (arith, c.min-offset.ensures))
    (rw c.deref.ensures.value at c.count_before-lines.ensures) c.index-begin.ensures
    (rw c.deref-2.ensures.value at c.count_before-all.ensures) (rw c.deref-3.ensures.value at c.count_before-before.ensures)).1.1

pub returns : goal.returns
returns c = λ text of.
    let told = place_read text _ _ _ _ _ _ _ _ of (omega (arith, c.min-offset.ensures))
    (rw c.deref.ensures.value at c.count_before-lines.ensures) c.index-begin.ensures
    (rw c.deref-2.ensures.value at c.count_before-all.ensures) (rw c.deref-3.ensures.value at c.count_before-before.ensures) in
    let front : take c.min-offset.result text ≡ take c.args.offset text = rw (c.min-offset.ensures, of.size_is) (take_min c.args.offset text) in
    record {
      line_is = rw front at told.line_is;
      column_is = rw front at told.column_is;
    }
