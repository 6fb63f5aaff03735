use Rattle.std.proofs.Common.{[], map-id, refl, rules, true}
use Rattle.std.proofs.lemmas.Iterator.{YieldsList-from_chars}
use Rattle.std.proofs.lemmas.Iterator.Consumers.{YieldsList-end}
use Rattle.std.proofs.lemmas.List.{flat_map_more}
use Rattle.std.proofs.Output.{has_written_append, has_written_of_eq}
use Rattle.nextest_config_values.specs.Literal.Shown.{character_in, shown_in}
use Rattle.nextest_config_values.proofs.literal.shown.write_text.Goals as goal

pub loop-c-preserved : goal.loop-c-preserved
loop-c-preserved g c plain =
    let so_far = c.loop-c.invariant plain in
    has_written_of_eq _ _ _ _ _ (flat_map_more (character_in c.args.line_feeds) [] c.loop-c.yielded c.in-Some.c)
    (has_written_append _ _ _ _ _ _ so_far (c.in_ok-write_character.ensures so_far.plain (refl {a = true})))

pub returns : goal.returns
unfolding shown_in
returns g c p ok =
    let all = YieldsList-end (YieldsList-from_chars c.args.text.now c.utf8.text (search rules)) c.loop-c.yielded _ c.loop-c.yielded_by _ _ c.in-None.is c.next.ensures.steps in
    rw (← all.0, map-id) (c.loop-c.invariant p)
