use Rattle.std.proofs.Common.{◌≡◌, ◌∙◌, ℕ, List, ◌++◌, codes, flat_map, map, true, refl, sym, ap, rules, append_assoc}
use Rattle.std.proofs.lemmas.Iterator.{YieldsList-from_chars}
use Rattle.std.proofs.lemmas.Iterator.Consumers.{YieldsList-end}
use Rattle.std.proofs.lemmas.List.{flat_map_more, map-id}
use Rattle.std.proofs.Output.{has_written_append, has_written_of_eq}
use Rattle.std.specs.Str.{chars}
use Rattle.nextest_config_values.specs.Literal.Text.{basic_character, basic_text}
use Rattle.nextest_config_values.proofs.literal.text.write_basic.Goals as goal

-- all characters between the quotes
between_quotes : (text cs : List ℕ) → map (λ c. c) cs ≡ chars text → (codes "\"" ++ flat_map basic_character cs) ++ codes "\"" ≡ basic_text text
unfolding basic_text
between_quotes text cs all = append_assoc (codes "\"") (flat_map basic_character cs) (codes "\"") ∙ ap (λ ds. codes "\"" ++ (flat_map basic_character ds ++ codes "\"")) (sym (map-id cs) ∙ all)

pub loop-c-preserved : goal.loop-c-preserved
loop-c-preserved g c plain =
    let so_far = c.loop-c.invariant plain in
    has_written_of_eq _ _ _ _ _ (flat_map_more basic_character (codes "\"") c.loop-c.yielded c.in-Some.c)
    (has_written_append _ _ _ _ _ _ so_far (c.in_ok-write_character.ensures so_far.plain (refl {a = true})))

pub returns : goal.returns
returns g c plain ok =
    let so_far = c.loop-c.invariant plain in
    let all = YieldsList-end (YieldsList-from_chars c.args.text.now c.utf8.text (search rules)) c.loop-c.yielded _ c.loop-c.yielded_by _ _ c.in-None.is c.next.ensures.steps in
    has_written_of_eq _ _ _ _ _ (between_quotes c.args.text.now c.loop-c.yielded all.0)
    (has_written_append _ _ _ _ _ _ so_far (c.write_str-2.ensures.writes so_far.plain ok))
