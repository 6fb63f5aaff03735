use Rattle.std.proofs.Common.{◌≡◌, ◌∙◌, ◌++◌, ◌∷◌, [], sym, ap}
use Rattle.std.specs.Str.{chars}
use Rattle.toml_spans.specs.Characters.{slash}
use Rattle.nextest_config_filters.specs.Filter.Regex.{closed_regex, regex_front}
use Rattle.nextest_config_filters.specs.Front.{without_first}
use Rattle.nextest_config_filters.specs.Pieces.{regex_end}
use Rattle.nextest_config_filters.proofs.Filters.Regexes.{closed_whole, regex_whole}
use Rattle.nextest_config_filters.proofs.filter.regex.closed_regex.Goals as goal

pub split_before-requires : goal.split_before-requires
split_before-requires c =
    let cs = chars c.without_first-begun.result.now in
    (regex_front cs, regex_whole cs ∙ ap (λ end. regex_front cs ++ end) (sym c.behind_pieces-end.ensures))

pub split_before-requires-2 : goal.split_before-requires-2
split_before-requires-2 c =
    let cs = without_first (chars c.args.text.now) in
    let end : regex_end cs ≡ slash ∷ chars c.in-Some-eq47-default.behind.now =
    ap regex_end (sym c.without_first-begun.ensures) ∙ sym c.behind_pieces-end.ensures ∙ c.in-Some-eq47-default.ensures
    ∙ ap (λ d. d ∷ chars c.in-Some-eq47-default.behind.now) c.in-Some-eq47-default.field-0-0-test in
    (slash ∷ (regex_front cs ++ (slash ∷ [])), c.requires ∙ closed_whole cs (chars c.in-Some-eq47-default.behind.now) end)

pub returns : goal.returns
returns c =
    let cs = without_first (chars c.args.text.now) in
    let begun = chars c.without_first-begun.result.now in
    let end : regex_end cs ≡ slash ∷ chars c.in-Some-eq47-default.behind.now =
    ap regex_end (sym c.without_first-begun.ensures) ∙ sym c.behind_pieces-end.ensures ∙ c.in-Some-eq47-default.ensures
    ∙ ap (λ d. d ∷ chars c.in-Some-eq47-default.behind.now) c.in-Some-eq47-default.field-0-0-test in
    let whole = c.split_before-2.ensures.front (slash ∷ (regex_front cs ++ (slash ∷ [])))
    (c.requires ∙ closed_whole cs (chars c.in-Some-eq47-default.behind.now) end) in
    let text = c.split_before.ensures.front (regex_front begun)
    (regex_whole begun ∙ ap (λ e. regex_front begun ++ e) (sym c.behind_pieces-end.ensures))
    ∙ ap regex_front c.without_first-begun.ensures in
    rw (whole, text, c.split_before-2.ensures.rest) (sym (ap (closed_regex cs) end))
