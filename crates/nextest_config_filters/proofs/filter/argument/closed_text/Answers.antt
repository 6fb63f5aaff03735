use Rattle.std.proofs.Common.{◌∙◌, sym, ap, refl}
use Rattle.std.specs.Str.{chars, drop_trailing_whitespace}
use Rattle.nextest_config_filters.specs.Filter.Argument.{text_front}
use Rattle.nextest_config_filters.specs.Pieces.{text_end}
use Rattle.nextest_config_filters.proofs.Filters.Arguments.{closed_no_platform, closed_rightly, closed_unjudged, text_front_whole}
use Rattle.nextest_config_filters.proofs.Fronts.{front_without_spaces}
use Rattle.nextest_config_filters.proofs.filter.argument.closed_text.Goals as goal

pub split_before-requires : goal.split_before-requires
split_before-requires c =
    let cs = chars c.args.text.now in
    (text_front cs, rw c.requires.rest (text_front_whole cs))

pub split_front-requires : goal.split_front-requires
split_front-requires c =
    let cs = chars c.args.text.now in
    let front = c.split_before.ensures.front (text_front cs) (rw c.requires.rest (text_front_whole cs)) in
    rw (c.without_spaces_behind-argument.ensures, front) (front_without_spaces cs (text_front cs) (text_end cs) (text_front_whole cs))

pub returns-then-is_no_platform : goal.returns-then-is_no_platform
returns-then-is_no_platform c =
    let cs = chars c.args.text.now in
    let front = c.split_before.ensures.front (text_front cs) (rw c.requires.rest (text_front_whole cs)) in
    let is = c.without_spaces_behind-argument.ensures ∙ ap drop_trailing_whitespace front in
    rw (
      closed_no_platform c.args.predicate cs (chars c.args.rest.now) _ is (sym c.is_no_platform.ensures ∙ c.if-is_no_platform.true),
      c.fault_at.ensures,
      c.split_front.ensures.front,
      c.split_front.ensures.rest,
    ) refl

pub returns-then-end : goal.returns-then-end
returns-then-end c =
    let cs = chars c.args.text.now in
    let front = c.split_before.ensures.front (text_front cs) (rw c.requires.rest (text_front_whole cs)) in
    let is = c.without_spaces_behind-argument.ensures ∙ ap drop_trailing_whitespace front in
    sym (closed_unjudged c.args.predicate cs (chars c.args.rest.now) _ is (sym c.is_no_platform.ensures ∙ c.if-is_no_platform.false)
    (sym c.requires.has_parenthesis ∙ c.if-end.true))

pub returns : goal.returns
returns c =
    let cs = chars c.args.text.now in
    let front = c.split_before.ensures.front (text_front cs) (rw c.requires.rest (text_front_whole cs)) in
    let is = c.without_spaces_behind-argument.ensures ∙ ap drop_trailing_whitespace front in
    sym (closed_rightly c.args.predicate cs (chars c.args.rest.now) _ is (sym c.is_no_platform.ensures ∙ c.if-is_no_platform.false)
    (sym c.requires.has_parenthesis ∙ c.if-end.false))
