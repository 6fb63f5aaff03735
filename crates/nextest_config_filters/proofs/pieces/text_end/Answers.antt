use Rattle.std.proofs.Common.{sym, ◌∙◌, refl, rules}
use Rattle.nextest_config_filters.specs.Pieces.{is_brace, is_opening}
use Rattle.nextest_config_filters.proofs.Filters.TextEnds.{met_more}
use Rattle.nextest_config_filters.proofs.pieces.text_end.Goals as goal

pub loop-c-preserved : goal.loop-c-preserved
loop-c-preserved c =
    let so_far = c.loop-c.invariant in
    let piece = c.in-Some.ensures in
    record {
      text = search rules;
      same = sym piece.same_end ∙ so_far.same;
      parenthesis = met_more c.loop-c.end.has_parenthesis (is_opening c.in-Some.c) _ _ _ (piece.one_more is_opening refl) so_far.parenthesis;
      brace = met_more c.loop-c.end.has_brace (is_brace c.in-Some.c) _ _ _ (piece.one_more is_brace refl) so_far.brace;
    }
