use Rattle.std.proofs.Common.{◌≡◌, ◌∙◌, true, false, subst, ⊎_elim}
use Rattle.std.specs.Str.{chars}
use Rattle.nextest_config_filters.specs.Filter.Regex.{is_pattern, unescaped}
use Rattle.nextest_config_filters.proofs.Characters.{chars_of}
use Rattle.nextest_config_filters.proofs.filter.regex.refused_words.Goals as goal

pub returns-in-Some : goal.returns-in-Some
returns-in-Some c =
    subst (λ cs. is_pattern cs ≡ false)
    (chars_of c.as_str.result.now (unescaped (chars c.args.text.now)) c.as_str.utf8 (c.as_str.ensures.value ∙ c.in_ok-pattern.ensures))
    (⊎_elim (λ memory. absurd (c.in_ok-words_of-in-Some.ensures memory)) (λ refused. refused) c.in-Some.ensures)

pub returns : goal.returns
returns c =
    subst (λ cs. is_pattern cs ≡ true)
    (chars_of c.as_str.result.now (unescaped (chars c.args.text.now)) c.as_str.utf8 (c.as_str.ensures.value ∙ c.in_ok-pattern.ensures))
    c.in-None.ensures
