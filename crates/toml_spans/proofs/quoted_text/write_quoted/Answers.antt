use Rattle.std.proofs.Common.{◌≡◌, ◌∙◌, ℕ, List, ◌++◌, codes, flat_map, map, refl, sym, ap, rules, append_assoc}
use Rattle.std.proofs.lemmas.Iterator.{YieldsList-from_chars}
use Rattle.std.proofs.lemmas.Iterator.Consumers.{YieldsList-end}
use Rattle.std.proofs.lemmas.List.{flat_map_more, map-id}
use Rattle.std.specs.Str.{chars}
use Rattle.toml_spans.proofs.Styled.{plainly, styled_more}
use Rattle.toml_spans.specs.QuotedText.{quoted_character, quoted_text}
use Rattle.toml_spans.proofs.quoted_text.write_quoted.Goals as goal

-- all characters between the quotes
between_quotes : (text cs : List ℕ) → map (λ c. c) cs ≡ chars text → (codes "\"" ++ flat_map quoted_character cs) ++ codes "\"" ≡ quoted_text text
unfolding quoted_text
between_quotes text cs all = append_assoc (codes "\"") (flat_map quoted_character cs) (codes "\"") ∙ ap (λ ds. codes "\"" ++ (flat_map quoted_character ds ++ codes "\"")) (sym (map-id cs) ∙ all)

pub loop-c-preserved : goal.loop-c-preserved
loop-c-preserved g c flush =
    styled_more (c.loop-c.invariant flush) c.in_ok-write_escaped.ensures.styled refl
    (flat_map_more quoted_character (codes "\"") c.loop-c.yielded c.in-Some.c)

pub returns-clause-styled : goal.returns-clause-styled
returns-clause-styled g c flush ok =
    let t = YieldsList-end (YieldsList-from_chars c.args.text.now c.utf8.text (search rules)) c.loop-c.yielded _ c.loop-c.yielded_by _ _ c.in-None.is c.next.ensures.steps in
    styled_more (c.loop-c.invariant flush) c.write_str-2.ensures.styled ok (between_quotes c.args.text.now c.loop-c.yielded t.0)

pub returns-clause-writes : goal.returns-clause-writes
returns-clause-writes g c p ok = plainly p (returns-clause-styled g c p.flush ok)
