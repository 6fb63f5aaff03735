use Rattle.std.proofs.Common.{[], ◌∙◌, map-id, refl, rules, sym, true}
use Rattle.std.proofs.lemmas.Iterator.{YieldsList-from_chars}
use Rattle.std.proofs.lemmas.Iterator.Consumers.{YieldsList-end}
use Rattle.std.proofs.lemmas.List.{flat_map_more}
use Rattle.std.proofs.Output.{has_written_append, has_written_of_eq}
use Rattle.nextest_config_output.proofs.PlainTexts.{plain_text}
use Rattle.nextest_config_output.specs.Findings.Escapes.{escaped_character, escaped_text}
use Rattle.nextest_config_output.proofs.findings.escapes.write_text.Goals as goal

pub loop-c-preserved : goal.loop-c-preserved
loop-c-preserved g c plain =
    let so_far = c.loop-c.invariant plain in
    has_written_of_eq _ _ _ _ _ (flat_map_more (escaped_character c.args.escapes) [] c.loop-c.yielded c.in-Some.c)
    (has_written_append _ _ _ _ _ _ so_far (c.in_ok-write_escaped.ensures so_far.plain (refl {a = true})))

pub returns-then-are_plain : goal.returns-then-are_plain
returns-then-are_plain g c p ok =
    let wrote = c.write_str.ensures.writes p ok in
    has_written_of_eq _ _ _ _ _ (sym (plain_text c.args.escapes c.args.text.now (sym c.are_plain.ensures ∙ c.if-are_plain.true))) wrote

pub returns : goal.returns
unfolding escaped_text
returns g c p ok =
    let all = YieldsList-end (YieldsList-from_chars c.args.text.now c.utf8.text (search rules)) c.loop-c.yielded _ c.loop-c.yielded_by _ _ c.in-None.is c.next.ensures.steps in
    rw (← all.0, map-id) (c.loop-c.invariant p)
